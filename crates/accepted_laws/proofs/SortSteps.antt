-- Reading puts nodes behind the others, each behind all that is below it, and each has children of the right sorts.
use Rattle.std.specs.Prelude.{Bool, List, None, Option, Some, [], length, suc, true, ℕ, ◌++◌, ◌∷◌, ◌≡◌}
use Rattle.std.proofs.Common.{refl, sym, ap, ◌∙◌, subst, append-nil, append_assoc, inl, inr}
use Rattle.scj_tree.specs.declared.nodes.Node.{Node}
use Rattle.scj_tree.specs.declared.nodes.Node.TheVariants.{Class, Flags, DefineScope, Supers, SuperType, IntType, BooleanType, ClassType, Field, Method, Constructor, Parameters, Parameter, SuperCall, Block, Local, LocalWithValue, Assign, ExpressionStatement, If, While, For, Return, Binary, Unary, Cast, Parenthesized, SimpleName, FieldAccess, Call, Element, New, NewArray, Text, Number, True, False, Null, This}
use Rattle.scj_tree.specs.Nodes.{put}
use Rattle.scj_tree.specs.Shape.{children, optional}
use Rattle.accepted_laws.specs.Sorts.{Of, AllOf, OptionOf, HasRightChildren, IsWellSorted, is_expression, is_argument, is_type, is_result, is_assignment, is_statement, is_for_start}
use Rattle.accepted_laws.specs.Intervals.{AreInOrder, Subtree, subtree, Subtrees, no_tree, one_tree_more}
use Rattle.accepted_laws.proofs.Lists.{get_left, get_last, get_either}

pub of_more : (test : Node → Bool) (N M : List Node) (id : ℕ) → Of test N id → Of test (N ++ M) id
of_more test N M id o = record { node = o.node; is_there = get_left N M id o.node o.is_there; passes = o.passes }

all_more : (test : Node → Bool) (N M : List Node) (ids : List ℕ) → AllOf test N ids → AllOf test (N ++ M) ids
all_more test N M [] h = tt
all_more test N M (x ∷ xs) h = (of_more test N M x h.0, all_more test N M xs h.1)

option_more : (test : Node → Bool) (N M : List Node) (o : Option ℕ) → OptionOf test N o → OptionOf test (N ++ M) o
option_more test N M None h = tt
option_more test N M (Some x) h = of_more test N M x h

children_more : (N M : List Node) (node : Node) → HasRightChildren N node → HasRightChildren (N ++ M) node
unfolding HasRightChildren
children_more N M (Class position name flags header members) h = (option_more _ N M flags h.0, option_more _ N M header h.1, all_more _ N M members h.2)
children_more N M (Flags position define_scope scope runs_in is_static is_abstract is_synchronized) h = (option_more _ N M define_scope h.0, option_more _ N M scope h.1, option_more _ N M runs_in h.2)
children_more N M (DefineScope position first second parent_first) h = (of_more _ N M first h.0, of_more _ N M second h.1)
children_more N M (Supers position superclass interfaces) h = (option_more _ N M superclass h.0, all_more _ N M interfaces h.1)
children_more N M (SuperType position name argument) h = option_more _ N M argument h
children_more N M (ClassType position name argument is_array) h = option_more _ N M argument h
children_more N M (Field position name flags declared_type equals value) h = (option_more _ N M flags h.0, of_more _ N M declared_type h.1, option_more _ N M value h.2)
children_more N M (Method position name flags result_type parameters body) h = (option_more _ N M flags h.0, of_more _ N M result_type h.1, option_more _ N M parameters h.2, option_more _ N M body h.3)
children_more N M (Constructor position name flags parameters super_call body) h = (option_more _ N M flags h.0, option_more _ N M parameters h.1, option_more _ N M super_call h.2, of_more _ N M body h.3)
children_more N M (Parameters position list) h = all_more _ N M list h
children_more N M (Parameter position name flags declared_type) h = (option_more _ N M flags h.0, of_more _ N M declared_type h.1)
children_more N M (SuperCall position arguments) h = all_more _ N M arguments h
children_more N M (Block position statements) h = all_more _ N M statements h
children_more N M (Local position name flags declared_type) h = (option_more _ N M flags h.0, of_more _ N M declared_type h.1)
children_more N M (LocalWithValue position name_position name flags declared_type value) h = (option_more _ N M flags h.0, of_more _ N M declared_type h.1, of_more _ N M value h.2)
children_more N M (Assign position target value) h = (of_more _ N M target h.0, of_more _ N M value h.1)
children_more N M (ExpressionStatement position expression) h = of_more _ N M expression h
children_more N M (If position condition then_part else_part) h = (of_more _ N M condition h.0, of_more _ N M then_part h.1, option_more _ N M else_part h.2)
children_more N M (While position condition body) h = (of_more _ N M condition h.0, of_more _ N M body h.1)
children_more N M (For position first condition step body) h = (of_more _ N M first h.0, of_more _ N M condition h.1, of_more _ N M step h.2, of_more _ N M body h.3)
children_more N M (Return position value) h = option_more _ N M value h
children_more N M (Binary position operator left right) h = (of_more _ N M left h.0, of_more _ N M right h.1)
children_more N M (Unary position operator child) h = of_more _ N M child h
children_more N M (Cast position name_position name child) h = of_more _ N M child h
children_more N M (Parenthesized position inner) h = of_more _ N M inner h
children_more N M (FieldAccess position name object) h = of_more _ N M object h
children_more N M (Call position name object ids) h = (option_more _ N M object h.0, all_more _ N M ids h.1)
children_more N M (Element position array index) h = (of_more _ N M array h.0, of_more _ N M index h.1)
children_more N M (New position name_position name ids) h = all_more _ N M ids h
children_more N M (NewArray position element size) h = (of_more _ N M element h.0, of_more _ N M size h.1)
children_more N M _ h = h

sorted_put : (N : List Node) (node : Node) → IsWellSorted N → HasRightChildren N node → IsWellSorted (put N node)
sorted_put N node w s = record {
  each = λ id x e. elim (get_either N node id x e) as (λ z. HasRightChildren (put N node) x)
      [ inl h ↦ children_more N (node ∷ []) x (w.each id x h) | inr h ↦ children_more N (node ∷ []) x (subst (HasRightChildren N) h s) ];
}

-- ---- trees that stand one behind the other

mutual
  tree_more : (N M : List Node) {a x : ℕ} → Subtree N a x → Subtree (N ++ M) a x
  tree_more N M (subtree {x = x} {node = node} e o t) = subtree (get_left N M x node e) o (trees_more N M t)

  pub trees_more : (N M : List Node) {a b : ℕ} {ids : List ℕ} → Subtrees N a ids b → Subtrees (N ++ M) a ids b
  trees_more N M no_tree = no_tree
  trees_more N M (one_tree_more s t) = one_tree_more (tree_more N M s) (trees_more N M t)

pub trees_then : {N : List Node} {a b c : ℕ} {xs ys : List ℕ} → Subtrees N a xs b → Subtrees N b ys c → Subtrees N a (xs ++ ys) c
trees_then no_tree u = u
trees_then (one_tree_more s t) u = one_tree_more s (trees_then t u)

length_put : (N : List Node) (node : Node) → length (N ++ node ∷ []) ≡ suc (length N)
length_put [] node = refl
length_put (n ∷ N) node = ap suc (length_put N node)

-- reading goes on from the nodes N to N1: what it puts are the trees of these nodes
pub record GoesOn (N N1 : List Node) (ids : List ℕ) : Type 0 where
  pub more : List Node
  pub whole : N1 ≡ N ++ more
  pub keeps : IsWellSorted N → IsWellSorted N1
  pub trees : Subtrees N1 (length N) ids (length N1)

-- and what was read is of this sort
pub record Reads (test : Node → Bool) (N N1 : List Node) (id : ℕ) : Type 0 where
  pub goes : GoesOn N N1 (id ∷ [])
  pub is : Of test N1 id

pub record ReadsOption (test : Node → Bool) (N N1 : List Node) (o : Option ℕ) : Type 0 where
  pub goes : GoesOn N N1 (optional o)
  pub is : OptionOf test N1 o

pub record ReadsAll (test : Node → Bool) (N N1 : List Node) (ids : List ℕ) : Type 0 where
  pub goes : GoesOn N N1 ids
  pub are : AllOf test N1 ids

pub stays : {N : List Node} → GoesOn N N []
stays {N} = record { more = []; whole = sym (append-nil N); keeps = λ w. w; trees = no_tree }

pub goes_then : {N N1 N2 : List Node} {xs ys : List ℕ} → GoesOn N N1 xs → GoesOn N1 N2 ys → GoesOn N N2 (xs ++ ys)
goes_then {N} {N1} {N2} {xs} {ys} g h =
    record {
      more = g.more ++ h.more;
      whole = h.whole ∙ ap (λ t. t ++ h.more) g.whole ∙ append_assoc N g.more h.more;
      keeps = λ w. h.keeps (g.keeps w);
      trees = trees_then (subst (λ M. Subtrees M (length N) xs (length N1)) (sym h.whole) (trees_more N1 h.more g.trees)) h.trees;
    }

-- the same nodes, listed otherwise
pub goes_as : {N N1 : List Node} (xs ys : List ℕ) → xs ≡ ys → GoesOn N N1 xs → GoesOn N N1 ys
goes_as {N} {N1} xs ys e g = subst (GoesOn N N1) e g

pub of_later : {N N1 : List Node} {ids : List ℕ} (test : Node → Bool) → GoesOn N N1 ids → {id : ℕ} → Of test N id → Of test N1 id
of_later {N} {N1} test g {id} o = subst (λ M. Of test M id) (sym g.whole) (of_more test N g.more id o)

pub all_later : {N N1 : List Node} {more : List ℕ} (test : Node → Bool) → GoesOn N N1 more → (ids : List ℕ) → AllOf test N ids → AllOf test N1 ids
all_later {N} {N1} test g ids o = subst (λ M. AllOf test M ids) (sym g.whole) (all_more test N g.more ids o)

pub option_later : {N N1 : List Node} {more : List ℕ} (test : Node → Bool) → GoesOn N N1 more → (ids : Option ℕ) → OptionOf test N ids → OptionOf test N1 ids
option_later {N} {N1} test g ids o = subst (λ M. OptionOf test M ids) (sym g.whole) (option_more test N g.more ids o)

-- a node is put behind the others, and its children are what was read last
pub put_in_order : {N N1 : List Node} {ids : List ℕ} (node : Node) → GoesOn N N1 ids → AreInOrder node ids → HasRightChildren N1 node → GoesOn N (put N1 node) (length N1 ∷ [])
put_in_order {N} {N1} {ids} node g o s =
    record {
      more = g.more ++ node ∷ [];
      whole = ap (λ t. t ++ node ∷ []) g.whole ∙ append_assoc N g.more (node ∷ []);
      keeps = λ w. sorted_put N1 node (g.keeps w) s;
      trees = one_tree_more (subtree (get_last N1 node) o (trees_more N1 (node ∷ []) g.trees))
          (subst (λ n. Subtrees (put N1 node) (suc (length N1)) [] n) (sym (length_put N1 node)) no_tree);
    }

pub put_on : {N N1 : List Node} (node : Node) → GoesOn N N1 (children node) → HasRightChildren N1 node → GoesOn N (put N1 node) (length N1 ∷ [])
put_on node g s = put_in_order node g (record { as_listed = λ _. refl; same = λ _. refl }) s

pub of_last : (test : Node → Bool) (N : List Node) (node : Node) → test node ≡ true → Of test (put N node) (length N)
of_last test N node e = record { node = node; is_there = get_last N node; passes = e }

pub made : {N N1 : List Node} (test : Node → Bool) (node : Node) → GoesOn N N1 (children node) → test node ≡ true → HasRightChildren N1 node → Reads test N (put N1 node) (length N1)
made {N} {N1} test node g e s = record { goes = put_on node g s; is = of_last test N1 node e }

pub all_push : (test : Node → Bool) (N : List Node) (ids : List ℕ) (id : ℕ) → AllOf test N ids → Of test N id → AllOf test N (ids ++ id ∷ [])
all_push test N [] id h o = (o, tt)
all_push test N (x ∷ xs) id h o = (h.0, all_push test N xs id h.1 o)

-- one element more
pub one_more : {N N1 N2 : List Node} (test : Node → Bool) (ids : List ℕ) (id : ℕ) → ReadsAll test N N1 ids → Reads test N1 N2 id → ReadsAll test N N2 (ids ++ id ∷ [])
one_more test ids id x y = record { goes = goes_then x.goes y.goes; are = all_push test _ ids id (all_later test y.goes ids x.are) y.is }

-- a narrower sort is a wider one
pub wider : {N N1 : List Node} {id : ℕ} (narrow wide : Node → Bool) → ((n : Node) → narrow n ≡ true → wide n ≡ true) → Reads narrow N N1 id → Reads wide N N1 id
wider narrow wide h r = record { goes = r.goes; is = record { node = r.is.node; is_there = r.is.is_there; passes = h r.is.node r.is.passes } }

pub expression_is_argument : (n : Node) → is_expression n ≡ true → is_argument n ≡ true
unfolding is_argument is_expression
expression_is_argument (Text position text) e = refl
expression_is_argument n e = is_other n e
  where
    is_other : (n : Node) → is_expression n ≡ true → is_argument n ≡ true
    is_other (Binary a b c d) e = refl
    is_other (Unary a b c) e = refl
    is_other (Cast a b c d) e = refl
    is_other (Parenthesized a b) e = refl
    is_other (SimpleName a b) e = refl
    is_other (FieldAccess a b c) e = refl
    is_other (Call a b c d) e = refl
    is_other (Element a b c) e = refl
    is_other (New a b c d) e = refl
    is_other (NewArray a b c) e = refl
    is_other (Number a b c) e = refl
    is_other (True a) e = refl
    is_other (False a) e = refl
    is_other (Null a) e = refl
    is_other (This a) e = refl
    is_other _ e = absurd (cc (e))

pub type_is_result : (n : Node) → is_type n ≡ true → is_result n ≡ true
unfolding is_type is_result
type_is_result (IntType a b) e = refl
type_is_result (BooleanType a b) e = refl
type_is_result (ClassType a b c d) e = refl
type_is_result _ e = absurd (cc (e))

pub assignment_is_statement : (n : Node) → is_assignment n ≡ true → is_statement n ≡ true
unfolding is_assignment is_statement
assignment_is_statement (Assign a b c) e = refl
assignment_is_statement _ e = absurd (cc (e))

pub assignment_is_start : (n : Node) → is_assignment n ≡ true → is_for_start n ≡ true
unfolding is_assignment is_for_start
assignment_is_start (Assign a b c) e = refl
assignment_is_start _ e = absurd (cc (e))
