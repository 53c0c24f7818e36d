-- The parameters of a member have the first numbers among its variables: they are read before its body.
use Rattle.std.proofs.Common.{◌≡◌, ℕ, ◌+◌, ◌<◌, ◌≤◌, zero, suc, List, [], ◌∷◌, ◌++◌, length, map, filter, filter_map, refl, sym, ap, ◌∙◌, subst, arith, Option, Some, None, Bool, true, false, ◌&&◌, true≢false, ◌⊎◌, inl, inr, slice_get, is_some, if◌then◌else◌, ◌==◌, nat_lt, option_and_then, unwrap_or, append_assoc}
use Rattle.std.proofs.lemmas.Bool.Decides.{nat_tests}
use Rattle.std.proofs.lemmas.Option.{slice_get_within}
use Rattle.std.specs.List.{cons_option}
use Rattle.scj_base.specs.declared.positions.Position.{Position}
use Rattle.scj_tree.specs.declared.nodes.Node.{Node}
use Rattle.scj_tree.specs.declared.nodes.Node.TheVariants.{Flags, DefineScope, ScopeName, TypeArgument, IntType, BooleanType, ClassType, VoidType, LongType, Method as MethodNode, Constructor, Parameters, Parameter, Local, LocalWithValue}
use Rattle.scj_tree.specs.Forest.{Forest, IsForest}
use Rattle.scj_tree.specs.Shape.{children, optional}
use Rattle.scj_rules.specs.declared.views.Declared.{Declared}
use Rattle.scj_rules.specs.Definitions.{read}
use Rattle.scj_rules.specs.Words.{is_among, holds}
use Rattle.scj_rules.specs.Views.{variable_at, variable_of, parameters_of}
use Rattle.scj_rules.specs.ClassRules.{numbers_from}
use Rattle.scj_rules.specs.LimitRules.{is_variable_of, variables_of}
use Rattle.scj_rules.specs.Contexts.{Declarations, declarations_of, outermost, context, child_context, is_member, parent_in}
use Rattle.scj_rules.proofs.ChainLemmas.{or_cases, or_left, or_right, is_same_number, same_number}
use Rattle.scj_rules.proofs.ParentLemmas.{parent-is, no-parent, child-less}
use Rattle.accepted_laws.specs.Intervals.{AreInOrder, Subtree, subtree, Subtrees, no_tree, one_tree_more, AreIntervals}
use Rattle.accepted_laws.specs.Sorts.{Of, AllOf, HasRightChildren, IsWellSorted, is_flags, is_define_scope, is_scope_name, is_type, is_result, is_type_argument, is_parameter, is_parameter_list}
use Rattle.accepted_laws.specs.Variables.{BeginWithParameters, body_parameters, parameter_list}
use Rattle.accepted_laws.proofs.Children.{one, maybe, both, among_of}
use Rattle.accepted_laws.proofs.Contexts.{child_context_is}
use Rattle.accepted_laws.proofs.InnerNodes.{Within}
use Rattle.accepted_laws.proofs.Intervals.{by_test, tree_bound, trees_bound, TreeFrom, below_head, child_tree, BothTrees, split_trees, first_tree, each_has_tree}
use Rattle.accepted_laws.proofs.MemberContexts.{outside}
use Rattle.accepted_laws.proofs.Rows.{get_from_within}
use Rattle.accepted_laws.proofs.Tools.{some_inj}

-- ---- annotations and types hold no variables

unfoldable is_quiet : Node → Bool
is_quiet (Flags position define_scope scope runs_in is_static is_abstract is_synchronized) = true
is_quiet (DefineScope position first second parent_first) = true
is_quiet (ScopeName position name) = true
is_quiet (TypeArgument position name) = true
is_quiet (IntType position is_array) = true
is_quiet (BooleanType position is_array) = true
is_quiet (ClassType position name argument is_array) = true
is_quiet (VoidType position) = true
is_quiet (LongType position) = true
is_quiet _ = false

quiet_flags : Within is_flags is_quiet
unfolding is_flags is_quiet
quiet_flags (Flags position define_scope scope runs_in is_static is_abstract is_synchronized) e = refl
quiet_flags _ e = absurd (true≢false (sym e))

quiet_definition : Within is_define_scope is_quiet
unfolding is_define_scope is_quiet
quiet_definition (DefineScope position first second parent_first) e = refl
quiet_definition _ e = absurd (true≢false (sym e))

quiet_name : Within is_scope_name is_quiet
unfolding is_scope_name is_quiet
quiet_name (ScopeName position name) e = refl
quiet_name _ e = absurd (true≢false (sym e))

quiet_argument : Within is_type_argument is_quiet
unfolding is_type_argument is_quiet
quiet_argument (TypeArgument position name) e = refl
quiet_argument _ e = absurd (true≢false (sym e))

quiet_result : Within is_result is_quiet
unfolding is_result is_type is_quiet
quiet_result (VoidType position) e = refl
quiet_result (LongType position) e = refl
quiet_result (IntType position is_array) e = refl
quiet_result (BooleanType position is_array) e = refl
quiet_result (ClassType position name argument is_array) e = refl
quiet_result _ e = absurd (true≢false (sym e))

quiet_type : Within is_type is_quiet
unfolding is_type is_quiet
quiet_type (IntType position is_array) e = refl
quiet_type (BooleanType position is_array) e = refl
quiet_type (ClassType position name argument is_array) e = refl
quiet_type _ e = absurd (true≢false (sym e))

no_variable : (nodes : List Node) (x : ℕ) (node : Node) → is_quiet node ≡ true → is_some (variable_of nodes x node) ≡ false
unfolding is_quiet variable_of
no_variable nodes x (Parameter position name flags declared_type) e = absurd (true≢false (sym e))
no_variable nodes x (Local position name flags declared_type) e = absurd (true≢false (sym e))
no_variable nodes x (LocalWithValue position name_position name flags declared_type value) e = absurd (true≢false (sym e))
no_variable nodes x _ e = refl

module _ (nodes : List Node) where
  quiet_children : (node : Node) → is_quiet node ≡ true → HasRightChildren nodes node → AllOf is_quiet nodes (children node)
  unfolding HasRightChildren children is_quiet
  quiet_children (Flags position define_scope scope runs_in is_static is_abstract is_synchronized) e h =
      both nodes is_quiet (optional define_scope) _ (maybe nodes is_define_scope is_quiet quiet_definition define_scope h.0)
      (both nodes is_quiet (optional scope) _ (maybe nodes is_scope_name is_quiet quiet_name scope h.1) (maybe nodes is_scope_name is_quiet quiet_name runs_in h.2))
  quiet_children (DefineScope position first second parent_first) e h = (one nodes is_scope_name is_quiet quiet_name h.0, (one nodes is_scope_name is_quiet quiet_name h.1, tt))
  quiet_children (ScopeName position name) e h = tt
  quiet_children (TypeArgument position name) e h = tt
  quiet_children (IntType position is_array) e h = tt
  quiet_children (BooleanType position is_array) e h = tt
  quiet_children (ClassType position name argument is_array) e h = maybe nodes is_type_argument is_quiet quiet_argument argument h
  quiet_children (VoidType position) e h = tt
  quiet_children (LongType position) e h = tt
  quiet_children _ e h = absurd (true≢false (sym e))

-- ---- a filtered row of numbers, and what it begins with

-- ascending numbers from n on and below q
abbrev Ascends : ℕ → List ℕ → ℕ → Type 0
Ascends n [] q = Unit {0}
Ascends n (y ∷ ys) q = (n ≤ y) × (y < q) × Ascends (y + 1) ys q

ascends : (nodes : List Node) {a b : ℕ} {ids : List ℕ} (n : ℕ) → n ≤ a → Subtrees nodes a ids b → Ascends n ids b
ascends nodes n l no_tree = tt
ascends nodes n l (one_tree_more {x = x} s t) =
    ((let m = tree_bound nodes s in omega (arith, l, m)), (let m = trees_bound nodes t in omega (arith, m)), ascends nodes (x + 1) (omega arith) t)

ascends_among : (n x q : ℕ) (ys : List ℕ) → Ascends n ys q → is_among x ys ≡ true → (n ≤ x) × (x < q)
ascends_among n x q [] a h = absurd (true≢false (sym h))
ascends_among n x q (y ∷ ys) a h =
    elim (or_cases (x == y) (is_among x ys) h) as (λ z. (n ≤ x) × (x < q)) [
      | inl e ↦ (let same : x ≡ y = same_number x y e in let l = a.0 in let m = a.1 in (omega (arith, same, l), omega (arith, same, m)))
      | inr k ↦ (let l = a.0 in let m = ascends_among (y + 1) x q ys a.2 k in (let f = m.0 in omega (arith, l, f), m.1))
    ]

abbrev Passes : (ℕ → Bool) → ℕ → List ℕ → Type 0
Passes test n ys = (y : ℕ) → is_among y ys ≡ true → (test y ≡ true) × (y < n)

abbrev Only : (ℕ → Bool) → ℕ → List ℕ → ℕ → Type 0
Only test n ys q = (x : ℕ) → n ≤ x → test x ≡ true → (is_among x ys ≡ true) ⊎ (q ≤ x)

abbrev Begins : List ℕ → List ℕ → Type 0
Begins row ys = (others : List ℕ) × (row ≡ ys ++ others)

head_among : (y : ℕ) (ys : List ℕ) → is_among y (y ∷ ys) ≡ true
head_among y ys = or_left (y == y) (is_among y ys) (is_same_number y y refl)

-- the number n isn't the head: it doesn't pass
skips : (test : ℕ → Bool) (n y q : ℕ) (rest ys : List ℕ) → Ascends n (y ∷ ys) q → Only test n (y ∷ ys) q → n < y → Begins (filter test rest) (y ∷ ys) → Begins (filter test (n ∷ rest)) (y ∷ ys)
skips test n y q rest ys a only l ih = go (test n) refl
  where
    later : (is_among n (y ∷ ys) ≡ true) ⊎ (q ≤ n) → ⊥
    later (inl h) = elim (or_cases (n == y) (is_among n ys) h) as (λ z. ⊥)
        [ inl e ↦ (let same : n ≡ y = same_number n y e in omega (arith, same, l)) | inr k ↦ (let m = (ascends_among (y + 1) n q ys a.2 k).0 in omega (arith, l, m)) ]
    later (inr h) = (let m = a.1 in omega (arith, h, l, m))

    go : (t : Bool) → test n ≡ t → (others : List ℕ) × (filter test (n ∷ rest) ≡ (y ∷ ys) ++ others)
    go true h = absurd (later (only n (omega arith) h))
    go false h = (ih.0, rw h ih.1)

takes : (test : ℕ → Bool) (n : ℕ) (rest ys : List ℕ) → test n ≡ true → Begins (filter test rest) ys → Begins (filter test (n ∷ rest)) (n ∷ ys)
takes test n rest ys h ih = (ih.0, rw h (ap (λ row. n ∷ row) ih.1))

-- behind the head the rest of the numbers remains
passes_on : (test : ℕ → Bool) (n m y : ℕ) (ys : List ℕ) → n ≡ m → Passes test n (y ∷ ys) → Passes test m ys
passes_on test n m y ys e pass x h = (let q = pass x (or_right (x == y) (is_among x ys) h) in (q.0, (let l = q.1 in omega (arith, l, e))))

only_on : (test : ℕ → Bool) (n y q : ℕ) (ys : List ℕ) → n ≡ y → Only test n (y ∷ ys) q → Only test (n + 1) ys q
only_on test n y q ys e only x l h =
    elim (only x (omega (arith, l)) h) as (λ z. (is_among x ys ≡ true) ⊎ (q ≤ x)) [
      | inl k ↦ elim (or_cases (x == y) (is_among x ys) k) as (λ z. (is_among x ys ≡ true) ⊎ (q ≤ x)) [
        | inl s ↦ absurd (let same : x ≡ y = same_number x y s in omega (arith, same, e, l))
        | inr m ↦ inl m
      ]
      | inr k ↦ inr k
    ]

only_later : (test : ℕ → Bool) (n q : ℕ) (ys : List ℕ) → Only test n ys q → Only test (n + 1) ys q
only_later test n q ys only x l h = only x (omega (arith, l)) h

passes_later : (test : ℕ → Bool) (n m : ℕ) (ys : List ℕ) → n ≡ m → Passes test n ys → Passes test m ys
passes_later test n m ys e pass x h = (let q = pass x h in (q.0, (let l = q.1 in omega (arith, l, e))))

one_step : (test : ℕ → Bool) (n y q bound : ℕ) (rest ys : List ℕ) → Ascends n (y ∷ ys) q → Passes test bound (y ∷ ys) → Only test n (y ∷ ys) q
    → ((zs : List ℕ) → Ascends (n + 1) zs q → Passes test bound zs → Only test (n + 1) zs q → Begins (filter test rest) zs) → Begins (filter test (n ∷ rest)) (y ∷ ys)
one_step test n y q bound rest ys a pass only ih = by_test (nat_lt n y) (λ h. less (let l : n < y = grind (arith, nat_tests) in l)) (λ h. same (let l : y ≤ n = grind (arith, nat_tests) in let m = a.0 in omega (arith, l, m)))
  where
    less : n < y → Begins (filter test (n ∷ rest)) (y ∷ ys)
    less l = skips test n y q rest ys a only l (ih (y ∷ ys) (omega (arith, l), a.1, a.2) pass (only_later test n q (y ∷ ys) only))

    same : n ≡ y → Begins (filter test (n ∷ rest)) (y ∷ ys)
    same e =
        subst (λ m. Begins (filter test (n ∷ rest)) (m ∷ ys)) e
        (takes test n rest ys (ap test e ∙ (pass y (head_among y ys)).0)
        (ih ys (subst (λ m. Ascends (m + 1) ys q) (sym e) a.2) (passes_on test bound bound y ys refl pass) (only_on test n y q ys e only)))

-- a filtered row of numbers begins with these, where what else passes stands behind them
begins : {A : Type 0} (test : ℕ → Bool) (q : ℕ) (xs : List A) (n : ℕ) (ys : List ℕ) → Ascends n ys q → Passes test (n + length xs) ys → Only test n ys q → Begins (filter test (numbers_from n xs)) ys
unfolding numbers_from
begins test q [] n ys a pass only = none ys a pass
  where
    none : (ys : List ℕ) → Ascends n ys q → Passes test (n + 0) ys → Begins [] ys
    none [] a pass = ([], refl)
    none (y ∷ ys) a pass = absurd (let l = (pass y (head_among y ys)).1 in let m = (ascends_among n y q (y ∷ ys) a (head_among y ys)).0 in omega (arith, l, m))
begins test q (x ∷ xs) n [] a pass only = (filter test (numbers_from n (x ∷ xs)), refl)
begins test q (x ∷ xs) n (y ∷ ys) a pass only =
    let e : n + length (x ∷ xs) ≡ (n + 1) + length xs = omega arith in
    one_step test n y q ((n + 1) + length xs) (numbers_from (n + 1) xs) ys a (passes_later test _ _ (y ∷ ys) e pass) only (λ zs b p o. begins test q xs (n + 1) zs b p o)

-- ---- the parameters of a member

parameter_made : (nodes : List Node) (x : ℕ) (node : Node) → is_parameter node ≡ true → (d : Declared) × (variable_of nodes x node ≡ Some d) × (d.node ≡ x)
unfolding is_parameter variable_of
parameter_made nodes x (Parameter position name flags declared_type) e = (_, refl, refl)
parameter_made nodes x _ e = absurd (true≢false (sym e))

-- those of a list of parameters
listed_parameters : (nodes : List Node) (ids : List ℕ) → AllOf is_parameter nodes ids → map (λ (d : Declared). d.node) (filter_map (variable_at nodes) ids) ≡ ids
listed_parameters nodes [] h = refl
listed_parameters nodes (x ∷ ids) h = go (variable_at nodes x) (made h.0) (listed_parameters nodes ids h.1)
  where
    of : (node : Node) → is_parameter node ≡ true → (d : Declared) × (variable_of nodes x node ≡ Some d) × (d.node ≡ x)
    of node e = parameter_made nodes x node e

    made : Of is_parameter nodes x → (d : Declared) × (variable_at nodes x ≡ Some d) × (d.node ≡ x)
    made o = (let q = of o.node o.passes in (q.0, ap (option_and_then (variable_of nodes x)) o.is_there ∙ q.1, q.2))

    go : (o : Option Declared) → (d : Declared) × (o ≡ Some d) × (d.node ≡ x) → map (λ (d : Declared). d.node) (filter_map (variable_at nodes) ids) ≡ ids → map (λ (d : Declared). d.node) (cons_option o (filter_map (variable_at nodes) ids)) ≡ x ∷ ids
    go None m ih = absurd (let e = m.1 in cc (e))
    go (Some d) m ih = (let e = some_inj d m.0 m.1 in ap (λ (c : Declared). c.node ∷ map (λ (d : Declared). d.node) (filter_map (variable_at nodes) ids)) e ∙ ap (λ n. n ∷ map (λ (d : Declared). d.node) (filter_map (variable_at nodes) ids)) m.2 ∙ ap (λ t. x ∷ t) ih)

-- the list of parameters of a member: where it stands, and what stands before it
record HasList (nodes : List Node) (node : Node) (list : List ℕ) : Type 0 where
  q : ℕ
  position : Position
  is_there : slice_get nodes q ≡ Some (Parameters position list)
  before : List ℕ
  behind : List ℕ
  children_are : children node ≡ before ++ q ∷ behind
  quiet : AllOf is_quiet nodes before
  all : AllOf is_parameter nodes list

module _ (forest : Forest) (whole : IsForest forest) (sorted : IsWellSorted forest.nodes) (intervals : AreIntervals forest) where
  abbrev p : Declarations
  p = declarations_of forest

  abbrev nodes : List Node
  nodes = forest.nodes

  abbrev TreeAt : ℕ → ℕ → Type 0
  TreeAt a x = TreeFrom nodes a x

  -- ---- what stands in a member stands in its tree

  abbrev InMember : ℕ → ℕ → ℕ → Type 0
  InMember a b x = (context p x).member ≡ Some b → TreeAt a x

  in_child : (a k x : ℕ) (node : Node) → slice_get nodes k ≡ Some node → is_among x (children node) ≡ true → TreeAt a k → TreeAt a x
  in_child a k x node at among t =
      let c = child_tree nodes node x t.tree at among in
      record { from = c.from; behind = (let l = t.behind in let m = c.behind in omega (arith, l, m)); tree = c.tree }

  member_step : (a b : ℕ) → Subtree nodes a b → (x k : ℕ) (node : Node) → slice_get nodes k ≡ Some node → is_among x (children node) ≡ true → InMember a b k → InMember a b x
  unfolding child_context
  member_step a b s x k node at among ih e = go (is_member node) refl
    where
      member : (if is_member node then Some k else (context p k).member) ≡ Some b
      member = sym (ap (λ c. c.member) (child_context_is forest whole k x node at among)) ∙ e

      go : (t : Bool) → is_member node ≡ t → TreeAt a x
      go true t =
          let same : k ≡ b = some_inj k b (sym (ap (λ t. if t then Some k else (context p k).member) t) ∙ member) in
          in_child a k x node at among (record { from = a; behind = omega arith; tree = subst (Subtree nodes a) (sym same) s })
      go false t = in_child a k x node at among (ih (sym (ap (λ t. if t then Some k else (context p k).member) t) ∙ member))

  no_parent_is : (x : ℕ) → x < length nodes → parent_in nodes x ≡ None → context p x ≡ outermost
  unfolding declarations_of
  no_parent_is x l q = no-parent forest whole x l q

  member_down : (a b : ℕ) → Subtree nodes a b → (d x : ℕ) → length nodes ≤ x + d → InMember a b x
  member_down a b s zero x l e = absurd (let z : None ≡ Some b = sym (ap (λ c. c.member) (outside forest whole sorted x (omega (arith, l)))) ∙ e in cc (z))
  member_down a b s (suc d) x l e = go (nat_lt x (length nodes)) refl (member_down a b s d)
    where
      by_parent : (o : Option ℕ) → parent_in nodes x ≡ o → x < length nodes → ((x : ℕ) → length nodes ≤ x + d → InMember a b x) → TreeAt a x
      by_parent None q inside ih = absurd (let z : None ≡ Some b = sym (ap (λ c. c.member) (no_parent_is x inside q)) ∙ e in cc (z))
      by_parent (Some k) q inside ih =
          let is = parent-is forest whole x k q (get_from_within nodes x inside).0 in
          let less : x < k = child-less forest whole k x is.node is.there is.among in
          member_step a b s x k is.node is.there is.among (ih k (omega (arith, l, less))) e

      go : (t : Bool) → nat_lt x (length nodes) ≡ t → ((x : ℕ) → length nodes ≤ x + d → InMember a b x) → TreeAt a x
      go true h ih = (let inside : x < length nodes = grind (arith, nat_tests) in by_parent (parent_in nodes x) refl inside ih)
      go false h ih = absurd (let out : length nodes ≤ x = grind (arith, nat_tests) in let z : None ≡ Some b = sym (ap (λ c. c.member) (outside forest whole sorted x out)) ∙ e in cc (z))

  -- ---- the trees of annotations and types hold no variables

  abbrev Quiet : ℕ → Type 0
  Quiet x = is_some (variable_at nodes x) ≡ false

  quiet_node : (x : ℕ) → Of is_quiet nodes x → Quiet x
  quiet_node x o = ap (λ (n : Option Node). is_some (option_and_then (variable_of nodes x) n)) o.is_there ∙ no_variable nodes x o.node o.passes

  all_quiet : (node : Node) (ids : List ℕ) → AreInOrder node ids → is_quiet node ≡ true → HasRightChildren nodes node → (c : ℕ) → is_among c ids ≡ true → Of is_quiet nodes c
  all_quiet node ids o e h c among = among_of nodes is_quiet c (children node) (quiet_children nodes node e h) (sym (o.same c) ∙ among)

  passes_at : (y : ℕ) (node : Node) → Of is_quiet nodes y → slice_get nodes y ≡ Some node → is_quiet node ≡ true
  passes_at y node k e = (let same : k.node ≡ node = some_inj k.node node (sym k.is_there ∙ e) in ap is_quiet (sym same) ∙ k.passes)

  mutual
    quiet_tree : {a y : ℕ} (x : ℕ) → Subtree nodes a y → Of is_quiet nodes y → a ≤ x → x ≤ y → Quiet x
    quiet_tree {a} {y} x (subtree {node = node} {ids = ids} e o t) k l m =
        by_test (nat_lt x y)
        (λ h. quiet_trees x t (all_quiet node ids o (passes_at y node k e) (sorted.each y node e)) l (let k : x < y = grind (arith, nat_tests) in k))
        (λ h. (let same : y ≡ x = grind (arith, nat_tests) in subst Quiet same (quiet_node y k)))

    quiet_trees : {a b : ℕ} {ids : List ℕ} (x : ℕ) → Subtrees nodes a ids b → ((c : ℕ) → is_among c ids ≡ true → Of is_quiet nodes c) → a ≤ x → x < b → Quiet x
    quiet_trees x no_tree k l m = absurd (omega (arith, l, m))
    quiet_trees {a} x (one_tree_more {x = y} {ids = ids} s t) k l m =
        by_test (nat_lt y x)
        (λ h. quiet_trees x t (λ c f. k c (or_right (c == y) (is_among c ids) f)) (let k : suc y ≤ x = grind (arith, nat_tests) in k) m)
        (λ h. quiet_tree x s (k y (head_among y ids)) l (let k : x ≤ y = grind (arith, nat_tests) in k))

  parameter_quiet : (node : Node) → is_parameter node ≡ true → HasRightChildren nodes node → AllOf is_quiet nodes (children node)
  unfolding HasRightChildren children is_parameter
  parameter_quiet (Parameter position name flags declared_type) e h = both nodes is_quiet (optional flags) _ (maybe nodes is_flags is_quiet quiet_flags flags h.0) (one nodes is_type is_quiet quiet_type h.1, tt)
  parameter_quiet _ e h = absurd (true≢false (sym e))

  below_parameter : {a y : ℕ} (x : ℕ) → Subtree nodes a y → Of is_parameter nodes y → a ≤ x → x < y → Quiet x
  below_parameter {a} {y} x (subtree {node = node} e o t) k l m =
      let same : k.node ≡ node = some_inj k.node node (sym k.is_there ∙ e) in
      quiet_trees x t (λ c among. among_of nodes is_quiet c (children node) (parameter_quiet node (ap is_parameter (sym same) ∙ k.passes) (sorted.each y node e)) (sym (o.same c) ∙ among)) l m

  -- what stands in the interval of a list of parameters is one of them, or no variable
  in_list : {a b : ℕ} {ids : List ℕ} (x : ℕ) → Subtrees nodes a ids b → ((c : ℕ) → is_among c ids ≡ true → Of is_parameter nodes c) → a ≤ x → x < b → (is_among x ids ≡ true) ⊎ Quiet x
  in_list x no_tree k l m = absurd (omega (arith, l, m))
  in_list {a} x (one_tree_more {x = y} {ids = ids} s t) k l m =
      by_test (nat_lt y x)
      (λ h. elim (in_list x t (λ c f. k c (or_right (c == y) (is_among c ids) f)) (let n : suc y ≤ x = grind (arith, nat_tests) in n) m) as (λ z. (is_among x (y ∷ ids) ≡ true) ⊎ Quiet x)
      [ inl f ↦ inl (or_right (x == y) (is_among x ids) f) | inr f ↦ inr f ])
      (λ h. by_test (nat_lt x y)
      (λ g. inr (below_parameter x s (k y (head_among y ids)) l (let n : x < y = grind (arith, nat_tests) in n)))
      (λ g. inl (let n : x ≡ y = grind (arith, nat_tests) in or_left (x == y) (is_among x ids) (is_same_number x y n))))

  -- ---- a member with a list of parameters

  variable_parts : (a b : Bool) → (a && b) ≡ true → (a ≡ true) × (b ≡ true)
  variable_parts true b e = (refl, e)
  variable_parts false b e = absurd (true≢false (sym e))

  member_number : (o : Option ℕ) (b : ℕ) → holds o (λ m. m == b) ≡ true → o ≡ Some b
  member_number None b e = absurd (true≢false (sym e))
  member_number (Some m) b e = ap (λ m. Some m) (same_number m b e)

  in_middle : (q : ℕ) (xs ys : List ℕ) → is_among q (xs ++ q ∷ ys) ≡ true
  in_middle q [] ys = head_among q ys
  in_middle q (x ∷ xs) ys = or_right (q == x) (is_among q (xs ++ q ∷ ys)) (in_middle q xs ys)

  no_flags_member : (node : Node) → is_member node ≡ true → is_flags node ≡ false
  unfolding is_member is_flags
  no_flags_member (Flags position define_scope scope runs_in is_static is_abstract is_synchronized) e = absurd (true≢false (sym e))
  no_flags_member _ e = refl

  parameters_plain : (position : Position) (list : List ℕ) → (is_flags (Parameters position list) ≡ false) × (is_member (Parameters position list) ≡ false) × (children (Parameters position list) ≡ list)
  unfolding is_flags is_member children
  parameters_plain position list = (refl, refl, refl)

  module _ (b : ℕ) (node : Node) (there : slice_get nodes b ≡ Some node) (member : is_member node ≡ true) (list : List ℕ) (h : HasList nodes node list) where
    abbrev head : Node
    head = Parameters h.position list

    tree : TreeFrom nodes 0 b
    tree = each_has_tree forest intervals b node there

    parts : BothTrees nodes tree.from b h.before (h.q ∷ h.behind)
    parts = split_trees nodes h.before (h.q ∷ h.behind) (subst (λ ids. Subtrees nodes tree.from ids b) h.children_are (below_head nodes node tree.tree there (no_flags_member node member)))

    of_list : Subtree nodes parts.between h.q
    of_list = (first_tree nodes parts.second).0

    list_trees : Subtrees nodes parts.between list h.q
    list_trees = (let k = parameters_plain h.position list in subst (λ ids. Subtrees nodes parts.between ids h.q) k.2 (below_head nodes head of_list h.is_there k.0))

    list_child : is_among h.q (children node) ≡ true
    list_child = ap (is_among h.q) h.children_are ∙ in_middle h.q h.before h.behind

    of_parameter : (c : ℕ) → is_among c list ≡ true → Of is_parameter nodes c
    of_parameter c e = among_of nodes is_parameter c list h.all e

    is_parameter_variable : (c : ℕ) → is_among c list ≡ true → is_variable_of p b c ≡ true
    unfolding child_context declarations_of
    is_parameter_variable c e =
        let o = of_parameter c e in
        let d = parameter_made nodes c o.node o.passes in
        let variable : variable_at nodes c ≡ Some d.0 = ap (option_and_then (variable_of nodes c)) o.is_there ∙ d.1 in
        let k = parameters_plain h.position list in
        let of_q : (context p h.q).member ≡ Some b = ap (λ c. c.member) (child_context_is forest whole b h.q node there list_child) ∙ ap (λ t. if t then Some b else (context p b).member) member in
        let of_c : (context p c).member ≡ Some b = ap (λ c. c.member) (child_context_is forest whole h.q c head h.is_there (ap (is_among c) k.2 ∙ e)) ∙ ap (λ t. if t then Some h.q else (context p h.q).member) k.1 ∙ of_q in
        ap (λ (o : Option Declared). is_some o && holds (context p c).member (λ m. m == b)) variable ∙ ap (λ (o : Option ℕ). holds o (λ m. m == b)) of_c ∙ is_same_number b b refl

    only : Only (is_variable_of p b) 0 list h.q
    unfolding declarations_of
    only x l e =
        let both = variable_parts (is_some (variable_at nodes x)) (holds (context p x).member (λ m. m == b)) e in
        let t = member_down tree.from b tree.tree (length nodes) x (omega arith) (member_number (context p x).member b both.1) in
        let start : tree.from ≤ x = (let m = t.behind in let n = tree_bound nodes t.tree in omega (arith, m, n)) in
        by_test (nat_lt x h.q)
        (λ f. by_test (nat_lt x parts.between)
        (λ g. absurd (true≢false (sym both.0 ∙ quiet_trees x parts.first (λ c k. among_of nodes is_quiet c h.before h.quiet k) start (let n : x < parts.between = grind (arith, nat_tests) in n))))
        (λ g. elim (in_list x list_trees of_parameter (let n : parts.between ≤ x = grind (arith, nat_tests) in n) (let n : x < h.q = grind (arith, nat_tests) in n)) as (λ z. (is_among x list ≡ true) ⊎ (h.q ≤ x))
        [ inl k ↦ inl k | inr k ↦ absurd (true≢false (sym both.0 ∙ k)) ]))
        (λ f. inr (let n : h.q ≤ x = grind (arith, nat_tests) in n))

    passes : Passes (is_variable_of p b) (0 + length nodes) list
    passes c e = (is_parameter_variable c e, (let o = of_parameter c e in let l = slice_get_within nodes c o.node o.is_there in omega (arith, l)))

    listed : Begins (variables_of p b) list
    unfolding variables_of declarations_of
    listed = begins (is_variable_of p b) h.q nodes 0 list (ascends nodes 0 (omega arith) list_trees) passes only

    begin_with : body_parameters p b ≡ filter_map (variable_at nodes) list → BeginWithParameters p b
    begin_with e = record { others = listed.0; is = listed.1 ∙ ap (λ ids. ids ++ listed.0) (sym (ap (map (λ (d : Declared). d.node)) e ∙ listed_parameters nodes list h.all)) }

  without : (b : ℕ) → body_parameters p b ≡ [] → BeginWithParameters p b
  without b e = record { others = variables_of p b; is = ap (λ (ds : List Declared). map (λ (d : Declared). d.node) ds ++ variables_of p b) (sym e) }

  parameters_at_list : (q : ℕ) (node : Node) → slice_get nodes q ≡ Some node → is_parameter_list node ≡ true → HasRightChildren nodes node → (position : Position) × (list : List ℕ) × (slice_get nodes q ≡ Some (Parameters position list)) × AllOf is_parameter nodes list
  unfolding is_parameter_list HasRightChildren
  parameters_at_list q (Parameters position list) there e h = (position, list, there, h)
  parameters_at_list q _ there e h = absurd (true≢false (sym e))

  list_node : (q : ℕ) → Of is_parameter_list nodes q → (position : Position) × (list : List ℕ) × (slice_get nodes q ≡ Some (Parameters position list)) × AllOf is_parameter nodes list
  list_node q o = parameters_at_list q o.node o.is_there o.passes (sorted.each q o.node o.is_there)

  no_parameters : (b : ℕ) → slice_get nodes b ≡ None → body_parameters p b ≡ []
  unfolding body_parameters declarations_of
  no_parameters b e = ap (λ (o : Option Node). unwrap_or (option_and_then (read nodes (parameters_of nodes)) (option_and_then parameter_list o)) []) e

  parameters_are : (b : ℕ) (node : Node) → slice_get nodes b ≡ Some node → body_parameters p b ≡ unwrap_or (option_and_then (read nodes (parameters_of nodes)) (parameter_list node)) []
  unfolding body_parameters declarations_of
  parameters_are b node there = ap (λ (o : Option Node). unwrap_or (option_and_then (read nodes (parameters_of nodes)) (option_and_then parameter_list o)) []) there

  listed_are : (q : ℕ) (position : Position) (list : List ℕ) → slice_get nodes q ≡ Some (Parameters position list) → unwrap_or (read nodes (parameters_of nodes) q) [] ≡ filter_map (variable_at nodes) list
  unfolding parameters_of
  listed_are q position list e = ap (λ (o : Option Node). unwrap_or (option_and_then (parameters_of nodes) o) []) e

  by_node : (b : ℕ) (node : Node) → slice_get nodes b ≡ Some node → HasRightChildren nodes node → body_parameters p b ≡ unwrap_or (option_and_then (read nodes (parameters_of nodes)) (parameter_list node)) [] → BeginWithParameters p b
  unfolding parameter_list HasRightChildren children is_member
  by_node b (MethodNode position name flags result_type (Some q) body) there h e =
      let l = list_node q h.2 in
      let has : HasList nodes (MethodNode position name flags result_type (Some q) body) l.1 = record {
        q = q;
        position = l.0;
        is_there = l.2;
        before = optional flags ++ result_type ∷ [];
        behind = optional body;
        children_are = sym (append_assoc (optional flags) (result_type ∷ []) (q ∷ optional body));
        quiet = both nodes is_quiet (optional flags) _ (maybe nodes is_flags is_quiet quiet_flags flags h.0) (one nodes is_result is_quiet quiet_result h.1, tt);
        all = l.3;
      } in
      begin_with b _ there refl l.1 has (e ∙ listed_are q l.0 l.1 l.2)
  by_node b (Constructor position name flags (Some q) super_call body) there h e =
      let l = list_node q h.1 in
      let has : HasList nodes (Constructor position name flags (Some q) super_call body) l.1 = record {
        q = q;
        position = l.0;
        is_there = l.2;
        before = optional flags;
        behind = optional super_call ++ body ∷ [];
        children_are = refl;
        quiet = maybe nodes is_flags is_quiet quiet_flags flags h.0;
        all = l.3;
      } in
      begin_with b _ there refl l.1 has (e ∙ listed_are q l.0 l.1 l.2)
  by_node b _ there h e = without b e

  -- the variables of a member begin with its parameters
  pub begin_with_parameters : (b : ℕ) → BeginWithParameters p b
  begin_with_parameters b = go (slice_get nodes b) refl
    where
      go : (o : Option Node) → slice_get nodes b ≡ o → BeginWithParameters p b
      go None e = without b (no_parameters b e)
      go (Some node) e = by_node b node e (sorted.each b node e) (parameters_are b node e)
