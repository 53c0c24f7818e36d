-- What the sorts of children say of members and classes: a member stands in a class, no class stands in anything, and no
-- variable is in scope at a member.
use Rattle.std.proofs.Common.{◌≡◌, ℕ, ◌<◌, List, [], ◌∷◌, ◌++◌, length, refl, sym, ap, ◌∙◌, subst, Option, Some, None, Bool, true, false, true≢false, inl, inr, slice_get, ◌==◌}
use Rattle.std.proofs.lemmas.Option.{slice_get_within}
use Rattle.scj_tree.specs.declared.nodes.Node.{Node}
use Rattle.scj_tree.specs.declared.nodes.Node.TheVariants.{Class, Flags, DefineScope, ScopeName, Supers, SuperType, TypeArgument, IntType, BooleanType, ClassType, VoidType, LongType, Field, Method, Constructor, Parameters, Parameter, SuperCall, Block, Empty, Local, LocalWithValue, Assign, ExpressionStatement, If, While, For, Return, Binary, Unary, Cast, Parenthesized, SimpleName, FieldAccess, Call, Element, New, NewArray, Text, Number, True, False, Null, This}
use Rattle.scj_tree.specs.Forest.{Forest, IsForest}
use Rattle.scj_tree.specs.Shape.{children, optional}
use Rattle.scj_rules.specs.Words.{is_among}
use Rattle.scj_rules.specs.Contexts.{Declarations, declarations_of, outermost, context, child_context, last_variable, declared_before, is_member, is_super_call, parent_in}
use Rattle.scj_rules.proofs.ChainLemmas.{or_cases, same_number}
use Rattle.scj_rules.proofs.ParentLemmas.{parent-is, no-parent}
use Rattle.accepted_laws.specs.Sorts.{Of, AllOf, OptionOf, HasRightChildren, IsWellSorted, is_expression, is_argument, is_target, is_invocation, is_literal, is_type, is_element_type, is_result, is_type_argument, is_flags, is_define_scope, is_scope_name, is_statement, is_block, is_assignment, is_for_start, is_parameter, is_parameter_list, is_super_type, is_header}
use Rattle.accepted_laws.proofs.Contexts.{child_context_is}
use Rattle.accepted_laws.proofs.InnerNodes.{Within, is_inner, is_no_class, inner_expression, inner_argument, inner_target, inner_invocation, inner_literal, inner_type, inner_element_type, inner_type_argument, inner_flags, inner_define_scope, inner_scope_name, inner_statement, inner_block, inner_assignment, inner_for_start, inner_parameter, inner_parameter_list, inner_super_type, inner_header, inner_super_call, inner_result, inner_no_class, member_no_class}

-- ---- all children

module _ (nodes : List Node) where
  pub one : {x : ℕ} (narrow wide : Node → Bool) → Within narrow wide → Of narrow nodes x → Of wide nodes x
  one narrow wide w o = record { node = o.node; is_there = o.is_there; passes = w o.node o.passes }

  pub listed : (narrow wide : Node → Bool) → Within narrow wide → (xs : List ℕ) → AllOf narrow nodes xs → AllOf wide nodes xs
  listed narrow wide w [] h = tt
  listed narrow wide w (x ∷ xs) h = (one narrow wide w h.0, listed narrow wide w xs h.1)

  pub maybe : (narrow wide : Node → Bool) → Within narrow wide → (o : Option ℕ) → OptionOf narrow nodes o → AllOf wide nodes (optional o)
  maybe narrow wide w None h = tt
  maybe narrow wide w (Some x) h = (one narrow wide w h, tt)

  pub both : (test : Node → Bool) (xs ys : List ℕ) → AllOf test nodes xs → AllOf test nodes ys → AllOf test nodes (xs ++ ys)
  both test [] ys h k = k
  both test (x ∷ xs) ys h k = (h.0, both test xs ys h.1 k)

  pub among_of : (test : Node → Bool) (x : ℕ) (xs : List ℕ) → AllOf test nodes xs → is_among x xs ≡ true → Of test nodes x
  among_of test x [] h e = absurd (true≢false (sym e))
  among_of test x (y ∷ ys) h e = elim (or_cases (x == y) (is_among x ys) e) as (λ z. Of test nodes x)
      [ inl s ↦ subst (Of test nodes) (sym (same_number x y s)) h.0 | inr k ↦ among_of test x ys h.1 k ]

  -- the children of what is no class are inner
  pub inner_children : (node : Node) → is_no_class node ≡ true → HasRightChildren nodes node → AllOf is_inner nodes (children node)
  unfolding HasRightChildren children is_no_class
  inner_children (Class position name flags header members) e h = absurd (true≢false (sym e))
  inner_children (Flags position define_scope scope runs_in is_static is_abstract is_synchronized) e h =
      both is_inner (optional define_scope) _ (maybe is_define_scope is_inner inner_define_scope define_scope h.0) (both is_inner (optional scope) _ (maybe is_scope_name is_inner inner_scope_name scope h.1) (maybe is_scope_name is_inner inner_scope_name runs_in h.2))
  inner_children (DefineScope position first second parent_first) e h = (one is_scope_name is_inner inner_scope_name h.0, (one is_scope_name is_inner inner_scope_name h.1, tt))
  inner_children (Supers position superclass interfaces) e h = both is_inner (optional superclass) _ (maybe is_super_type is_inner inner_super_type superclass h.0) (listed is_super_type is_inner inner_super_type interfaces h.1)
  inner_children (SuperType position name argument) e h = maybe is_type_argument is_inner inner_type_argument argument h
  inner_children (ClassType position name argument is_array) e h = maybe is_type_argument is_inner inner_type_argument argument h
  inner_children (Field position name flags declared_type equals value) e h = both is_inner (optional flags) _ (maybe is_flags is_inner inner_flags flags h.0) (one is_type is_inner inner_type h.1, maybe is_literal is_inner inner_literal value h.2)
  inner_children (Method position name flags result_type parameters body) e h =
      both is_inner (optional flags) _ (maybe is_flags is_inner inner_flags flags h.0) (one is_result is_inner inner_result h.1, both is_inner (optional parameters) _ (maybe is_parameter_list is_inner inner_parameter_list parameters h.2) (maybe is_block is_inner inner_block body h.3))
  inner_children (Constructor position name flags parameters super_call body) e h =
      both is_inner (optional flags) _ (maybe is_flags is_inner inner_flags flags h.0) (both is_inner (optional parameters) _ (maybe is_parameter_list is_inner inner_parameter_list parameters h.1)
      (both is_inner (optional super_call) _ (maybe is_super_call is_inner inner_super_call super_call h.2) (one is_block is_inner inner_block h.3, tt)))
  inner_children (Parameters position list) e h = listed is_parameter is_inner inner_parameter list h
  inner_children (Parameter position name flags declared_type) e h = both is_inner (optional flags) _ (maybe is_flags is_inner inner_flags flags h.0) (one is_type is_inner inner_type h.1, tt)
  inner_children (SuperCall position arguments) e h = listed is_argument is_inner inner_argument arguments h
  inner_children (Block position statements) e h = listed is_statement is_inner inner_statement statements h
  inner_children (Local position name flags declared_type) e h = both is_inner (optional flags) _ (maybe is_flags is_inner inner_flags flags h.0) (one is_type is_inner inner_type h.1, tt)
  inner_children (LocalWithValue position name_position name flags declared_type value) e h =
      both is_inner (optional flags) _ (maybe is_flags is_inner inner_flags flags h.0) (one is_type is_inner inner_type h.1, (one is_expression is_inner inner_expression h.2, tt))
  inner_children (Assign position target value) e h = (one is_target is_inner inner_target h.0, (one is_expression is_inner inner_expression h.1, tt))
  inner_children (ExpressionStatement position expression) e h = (one is_invocation is_inner inner_invocation h, tt)
  inner_children (If position condition then_part else_part) e h = (one is_expression is_inner inner_expression h.0, (one is_statement is_inner inner_statement h.1, maybe is_statement is_inner inner_statement else_part h.2))
  inner_children (While position condition body) e h = (one is_expression is_inner inner_expression h.0, (one is_statement is_inner inner_statement h.1, tt))
  inner_children (For position first condition step body) e h = (one is_for_start is_inner inner_for_start h.0, (one is_expression is_inner inner_expression h.1, (one is_assignment is_inner inner_assignment h.2, (one is_statement is_inner inner_statement h.3, tt))))
  inner_children (Return position value) e h = maybe is_expression is_inner inner_expression value h
  inner_children (Binary position operator left right) e h = (one is_expression is_inner inner_expression h.0, (one is_expression is_inner inner_expression h.1, tt))
  inner_children (Unary position operator child) e h = (one is_expression is_inner inner_expression h, tt)
  inner_children (Cast position name_position name child) e h = (one is_expression is_inner inner_expression h, tt)
  inner_children (Parenthesized position inner) e h = (one is_expression is_inner inner_expression h, tt)
  inner_children (FieldAccess position name object) e h = (one is_expression is_inner inner_expression h, tt)
  inner_children (Call position name object arguments) e h = both is_inner (optional object) _ (maybe is_expression is_inner inner_expression object h.0) (listed is_argument is_inner inner_argument arguments h.1)
  inner_children (Element position array index) e h = (one is_expression is_inner inner_expression h.0, (one is_expression is_inner inner_expression h.1, tt))
  inner_children (New position name_position name arguments) e h = listed is_argument is_inner inner_argument arguments h
  inner_children (NewArray position element length_) e h = (one is_element_type is_inner inner_element_type h.0, (one is_expression is_inner inner_expression h.1, tt))
  inner_children (ScopeName position name) e h = tt
  inner_children (TypeArgument position name) e h = tt
  inner_children (IntType position is_array) e h = tt
  inner_children (BooleanType position is_array) e h = tt
  inner_children (VoidType position) e h = tt
  inner_children (LongType position) e h = tt
  inner_children (Empty position) e h = tt
  inner_children (SimpleName position name) e h = tt
  inner_children (Text position text) e h = tt
  inner_children (Number position value is_negative) e h = tt
  inner_children (True position) e h = tt
  inner_children (False position) e h = tt
  inner_children (Null position) e h = tt
  inner_children (This position) e h = tt

  class_children : (node : Node) → HasRightChildren nodes node → is_no_class node ≡ false → AllOf is_no_class nodes (children node)
  unfolding HasRightChildren children is_no_class
  class_children (Class position name flags header members) h e =
      both is_no_class (optional flags) _ (maybe is_flags is_no_class (λ n k. inner_no_class n (inner_flags n k)) flags h.0)
      (both is_no_class (optional header) _ (maybe is_header is_no_class (λ n k. inner_no_class n (inner_header n k)) header h.1) (listed is_member is_no_class member_no_class members h.2))
  class_children _ h e = absurd (true≢false e)

  -- no child is a class
  pub children_no_class : (node : Node) → HasRightChildren nodes node → AllOf is_no_class nodes (children node)
  children_no_class node h = go node h (is_no_class node) refl
    where
      go : (node : Node) → HasRightChildren nodes node → (t : Bool) → is_no_class node ≡ t → AllOf is_no_class nodes (children node)
      go node h true e = listed is_inner is_no_class inner_no_class (children node) (inner_children node e h)
      go node h false e = class_children node h e

member_not_inner : (n : Node) → is_member n ≡ true → is_inner n ≡ true → ⊥
unfolding is_member is_inner
member_not_inner (Field position name flags declared_type equals value) m e = true≢false (sym e)
member_not_inner (Method position name flags result_type parameters body) m e = true≢false (sym e)
member_not_inner (Constructor position name flags parameters super_call body) m e = true≢false (sym e)
member_not_inner _ m e = true≢false (sym m)

of_node : (test : Node → Bool) (nodes : List Node) (x : ℕ) (n : Node) → slice_get nodes x ≡ Some n → Of test nodes x → test n ≡ true
of_node test nodes x n e o = (let same : Some o.node ≡ Some n = sym o.is_there ∙ e in let q : o.node ≡ n = cc (same) in ap test (sym q) ∙ o.passes)

class_declares_nothing : (nodes : List Node) (node : Node) (x : ℕ) → is_no_class node ≡ false → declared_before nodes node x ≡ []
unfolding declared_before is_no_class
class_declares_nothing nodes (Class position name flags header members) x e = refl
class_declares_nothing nodes _ x e = absurd (true≢false e)

module _ (forest : Forest) (whole : IsForest forest) (sorted : IsWellSorted forest.nodes) where
  abbrev p : Declarations
  p = declarations_of forest

  abbrev nodes : List Node
  nodes = forest.nodes

  -- the parent of a member is a class
  pub parent_of_member : (k x : ℕ) (node child : Node) → slice_get nodes k ≡ Some node → is_among x (children node) ≡ true → slice_get nodes x ≡ Some child → is_member child ≡ true → is_no_class node ≡ false
  parent_of_member k x node child at among there member = go (is_no_class node) refl
    where
      go : (t : Bool) → is_no_class node ≡ t → is_no_class node ≡ false
      go true e = absurd (member_not_inner child member (of_node is_inner nodes x child there (among_of nodes is_inner x (children node) (inner_children nodes node e (sorted.each k node at)) among)))
      go false e = e

  -- a class is nobody's child
  pub class_has_no_parent : (k x : ℕ) (node child : Node) → slice_get nodes k ≡ Some node → is_among x (children node) ≡ true → slice_get nodes x ≡ Some child → is_no_class child ≡ true
  class_has_no_parent k x node child at among there = of_node is_no_class nodes x child there (among_of nodes is_no_class x (children node) (children_no_class nodes node (sorted.each k node at)) among)

  no_parent_is : (x : ℕ) → x < length nodes → parent_in nodes x ≡ None → context p x ≡ outermost
  unfolding declarations_of
  no_parent_is x l q = no-parent forest whole x l q

  -- the context of a class is the outermost
  pub class_outermost : (x : ℕ) (node : Node) → slice_get nodes x ≡ Some node → is_no_class node ≡ false → context p x ≡ outermost
  class_outermost x node there c = go (parent_in nodes x) refl
    where
      go : (o : Option ℕ) → parent_in nodes x ≡ o → context p x ≡ outermost
      go None e = no_parent_is x (slice_get_within nodes x node there) e
      go (Some k) e = absurd (let is = parent-is forest whole x k e node in true≢false (sym (class_has_no_parent k x is.node node is.there is.among there) ∙ c))

  -- no variable is in scope at a member
  pub member_knows_none : (x : ℕ) (node : Node) → slice_get nodes x ≡ Some node → is_member node ≡ true → (context p x).last ≡ None
  unfolding child_context last_variable
  member_knows_none x node there m = go (parent_in nodes x) refl
    where
      go : (o : Option ℕ) → parent_in nodes x ≡ o → (context p x).last ≡ None
      go None e = ap (λ c. c.last) (no_parent_is x (slice_get_within nodes x node there) e)
      go (Some k) e =
          let is = parent-is forest whole x k e node in
          let c = parent_of_member k x is.node node is.there is.among there m in
          ap (λ c. c.last) (child_context_is forest whole k x is.node is.there is.among)
          ∙ ap (last_variable nodes (context p k).last) (class_declares_nothing nodes is.node x c)
          ∙ ap (λ c. c.last) (class_outermost k is.node is.there c)
