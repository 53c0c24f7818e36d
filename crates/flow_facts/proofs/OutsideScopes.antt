-- What is in scope at a node is declared outside it: no variable that is declared below a node is in scope there.
use Rattle.std.proofs.Common.{◌≡◌, ℕ, ◌+◌, ◌<◌, ◌≤◌, zero, suc, List, [], ◌∷◌, ◌++◌, length, filter, refl, sym, ap, ◌∙◌, subst, arith, true≢false, ◌⊎◌, inl, inr, Option, Some, None, option_and_then, Bool, true, false, ◌==◌, if◌then◌else◌, is_some, slice_get}
use Rattle.std.proofs.lemmas.Bool.{lt-ltb}
use Rattle.std.proofs.lemmas.Option.{slice_get_within}
use Rattle.scj_tree.specs.declared.nodes.Node.{Node}
use Rattle.scj_tree.specs.declared.nodes.Node.TheVariants.{Block, For, Parameters, Method as MethodNode, Constructor}
use Rattle.scj_tree.specs.Forest.{Forest, IsForest}
use Rattle.scj_tree.specs.Recursion.{above as larger_than}
use Rattle.scj_tree.specs.Shape.{optional, children}
use Rattle.scj_tree.proofs.RecursionLemmas.{by_larger-is}
use Rattle.scj_rules.specs.Chains.{Follows, one, more}
use Rattle.scj_rules.specs.Words.{is_among}
use Rattle.scj_rules.specs.Views.{variable_at}
use Rattle.scj_rules.specs.Contexts.{parent_in, those_before, parameter_nodes, parameters_before, declared_before, variables_among, variables_from_parent, variables_in_scope}
use Rattle.scj_rules.proofs.ChainLemmas.{among-behind, among-front, is_same_number}
use Rattle.scj_rules.proofs.InScopeLemmas.{before-same, before-other}
use Rattle.scj_rules.proofs.ParentLemmas.{child-less, parent-of, parent-is}
use Rattle.accepted_laws.proofs.Fields.{In as Element, here as at_head, there as in_tail}
use Rattle.accepted_laws.proofs.Subtypes.{among_in}
use Rattle.accepted_laws.proofs.Tools.{some_inj}
use Rattle.scope_flow.proofs.Rests.{here, later}
use Rattle.flow_facts.proofs.IfsAround.{grows}
use Rattle.flow_facts.proofs.SlotScopes.{in_reversed}

-- ---- elements of lists

nowhere : (x : ℕ) → Element x [] → ⊥
nowhere x i = elim i [ ]

append_cases : (x : ℕ) (xs ys : List ℕ) → Element x (xs ++ ys) → Element x xs ⊎ Element x ys
append_cases x [] ys i = inr i
append_cases x (y ∷ xs) ys at_head = inl at_head
append_cases x (y ∷ xs) ys (in_tail i) =
    elim (append_cases x xs ys i) as (λ _. Element x (y ∷ xs) ⊎ Element x ys) [
      | inl h ↦ inl (in_tail h)
      | inr h ↦ inr h
    ]

in_longer : (x y : ℕ) (xs ys : List ℕ) → (Element x xs → Element x ys) → Element x (y ∷ xs) → Element x (y ∷ ys)
in_longer x y xs ys behind at_head = at_head
in_longer x y xs ys behind (in_tail i) = in_tail (behind i)

filtered : (test : ℕ → Bool) (x : ℕ) (xs : List ℕ) → Element x (filter test xs) → Element x xs
filtered test x [] i = elim i [ ]
filtered test x (y ∷ xs) i = go (λ i. filtered test x xs i) (test y) i
  where
    go : (Element x (filter test xs) → Element x xs) → (t : Bool) →
        Element x (if t then y ∷ filter test xs else filter test xs) → Element x (y ∷ xs)
    go behind true i = in_longer x y (filter test xs) xs behind i
    go behind false i = in_tail (behind i)

stands_before : (x y : ℕ) (ids : List ℕ) → Element x (those_before y ids) → Element x ids
stands_before x y [] i = elim i [ ]
stands_before x y (z ∷ ids) i = go (λ i. stands_before x y ids i) (z == y) refl
  where
    go : (Element x (those_before y ids) → Element x ids) → (t : Bool) → (z == y) ≡ t → Element x (z ∷ ids)
    go behind true e = absurd (nowhere x (subst (Element x) (before-same y z ids e) i))
    go behind false e =
        in_longer x z (those_before y ids) ids behind (subst (Element x) (before-other y z ids e) i)

-- ---- parents

pub extend : (next : ℕ → Option ℕ) (x y k : ℕ) → Follows next x y → next y ≡ Some k → Follows next x k
extend next x y k (one e) f = more e (one f)
extend next x y k (more {b = b} e h) f = more e (extend next b y k h f)

module _ (forest : Forest) (whole : IsForest forest) where
  abbrev nodes : List Node
  nodes = forest.nodes

  abbrev next : ℕ → Option ℕ
  next = parent_in nodes

  -- what stands below a node has its parent there, or the node itself as its parent
  parent_below : Node → (x y k : ℕ) → Follows next x y → next x ≡ Some k → k ≤ y
  parent_below any x y k (one e) f = let same : y ≡ k = some_inj y k (sym e ∙ f) in omega (arith, same)
  parent_below any x y k (more {b = b} e h) f =
      let same : b ≡ k = some_inj b k (sym e ∙ f) in
      let l = grows forest whole any b y h in omega (arith, same, l)

  -- a sibling doesn't stand below a node
  sibling_apart : (k y x : ℕ) (node : Node) → slice_get nodes k ≡ Some node → is_among y (children node) ≡ true →
      is_among x (children node) ≡ true → Follows next x y → ⊥
  sibling_apart k y x node there among_y among_x h =
      let l = parent_below node x y k h (parent-of forest whole k x node there among_x) in
      let m = child-less forest whole k y node there among_y in
      absurd (omega (arith, l, m))

  -- a child of a sibling doesn't either
  nephew_apart : (k y q x : ℕ) (node list : Node) → slice_get nodes k ≡ Some node → is_among y (children node) ≡ true →
      is_among q (children node) ≡ true → (y == q) ≡ false → slice_get nodes q ≡ Some list →
      is_among x (children list) ≡ true → Follows next x y → ⊥
  nephew_apart k y q x node list there among_y among_q other there_q among_x h =
      let parent = parent-of forest whole q x list there_q among_x in
      go h parent
    where
      go : Follows next x y → next x ≡ Some q → ⊥
      go (one e) f =
          let same : y ≡ q = some_inj y q (sym e ∙ f) in
          absurd (true≢false (sym (is_same_number y q same) ∙ other))
      go (more {b = b} e h) f =
          let same : b ≡ q = some_inj b q (sym e ∙ f) in
          sibling_apart k y q node there among_y among_q (subst (λ b. Follows next b y) same h)

  -- ---- what is declared before a node in its parent

  listed : (read_ : Option Node) (x : ℕ) → Element x
      (elim (option_and_then parameter_nodes read_) as (λ _. List ℕ) [ None ↦ [] | Some list ↦ list ]) →
      (node : Node) × (read_ ≡ Some node) × Element x (children node)
  unfolding parameter_nodes children
  listed None x i = absurd (nowhere x i)
  listed (Some (Parameters position list)) x i = (Parameters position list, refl, i)
  listed (Some _) x i = absurd (nowhere x i)

  parameters_apart : (k y x : ℕ) (node : Node) (parameters : Option ℕ) → slice_get nodes k ≡ Some node →
      is_among y (children node) ≡ true →
      ((q : ℕ) → parameters ≡ Some q → is_among q (children node) ≡ true) →
      Element x (parameters_before nodes parameters y) → Follows next x y → ⊥
  parameters_apart k y x node None there among_y among_q i h = elim i [ ]
  parameters_apart k y x node (Some q) there among_y among_q i h = go (y == q) refl i
    where
      declared : List ℕ
      declared =
          elim (option_and_then parameter_nodes (slice_get nodes q)) as (λ _. List ℕ) [ None ↦ [] | Some list ↦ list ]

      go : (t : Bool) → (y == q) ≡ t → Element x (if t then [] else declared) → ⊥
      go true e i = elim i [ ]
      go false e i =
          let l = listed (slice_get nodes q) x i in
          nephew_apart k y q x node l.0 there among_y (among_q q refl) e l.1 (among_in x (children l.0) l.2) h

  optional_there : (o : Option ℕ) (q : ℕ) → o ≡ Some q → is_among q (optional o) ≡ true
  optional_there o q e = subst (λ o. is_among q (optional o) ≡ true) (sym e) (here q [])

  declared_apart : (k y x : ℕ) (node : Node) → slice_get nodes k ≡ Some node → is_among y (children node) ≡ true →
      Element x (declared_before nodes node y) → Follows next x y → ⊥
  unfolding declared_before children
  declared_apart k y x (Block position statements) there among i h =
      sibling_apart k y x (Block position statements) there among
      (among_in x statements (stands_before x y statements i)) h
  declared_apart k y x (For position first condition step body) there among i h =
      sibling_apart k y x (For position first condition step body) there among
      (among_in x (first ∷ condition ∷ step ∷ body ∷ [])
      (stands_before x y (first ∷ condition ∷ step ∷ body ∷ []) i)) h
  declared_apart k y x (Parameters position list) there among i h =
      sibling_apart k y x (Parameters position list) there among (among_in x list (stands_before x y list i)) h
  declared_apart k y x (MethodNode position name flags result_type parameters body) there among i h =
      parameters_apart k y x (MethodNode position name flags result_type parameters body) parameters there among
      (λ q e. among-behind q (optional flags) _
      (later q result_type (optional parameters ++ optional body)
      (among-front q (optional parameters) (optional body) (optional_there parameters q e)))) i h
  declared_apart k y x (Constructor position name flags parameters super_call body) there among i h =
      parameters_apart k y x (Constructor position name flags parameters super_call body) parameters there among
      (λ q e. among-behind q (optional flags) _
      (among-front q (optional parameters) (optional super_call ++ (body ∷ [])) (optional_there parameters q e))) i h
  declared_apart k y x _ there among i h = elim i [ ]

  -- ---- all that is in scope

  abbrev in_scope : ℕ → List ℕ
  in_scope y = variables_in_scope forest y

  scope_by : (y : ℕ) → y < length nodes → (o : Option ℕ) → next y ≡ o →
      in_scope y ≡ elim o as (λ _. List ℕ) [
        | None ↦ []
        | Some k ↦ elim (slice_get nodes k) as (λ _. List ℕ) [
          | None ↦ []
          | Some node ↦ variables_among nodes (declared_before nodes node y) ++ larger_than [] y in_scope k
        ]
      ]
  unfolding variables_in_scope variables_from_parent
  scope_by y l o e =
      by_larger-is [] (variables_from_parent nodes) (length nodes) y l
      ∙ ap (λ (p : Option ℕ). elim p as (λ _. List ℕ) [
        | None ↦ []
        | Some k ↦ elim (slice_get nodes k) as (λ _. List ℕ)
            [ None ↦ [] | Some node ↦ variables_among nodes (declared_before nodes node y) ++ larger_than [] y in_scope k ]
      ]) e

  scope_of_child : (k y : ℕ) (node : Node) → y < k → y < length nodes → next y ≡ Some k →
      slice_get nodes k ≡ Some node → in_scope y ≡ variables_among nodes (declared_before nodes node y) ++ in_scope k
  scope_of_child k y node less l e there =
      scope_by y l (Some k) e
      ∙ ap (λ (o : Option Node). elim o as (λ _. List ℕ)
      [ None ↦ [] | Some n ↦ variables_among nodes (declared_before nodes n y) ++ larger_than [] y in_scope k ]) there
      ∙ ap (λ t. variables_among nodes (declared_before nodes node y) ++ (if t then in_scope k else [])) (lt-ltb y k less)

  not_below : (bound y x : ℕ) → length nodes ≤ y + bound → y < length nodes → Node → Follows next x y →
      Element x (in_scope y) → ⊥
  not_below zero y x l inside any h i = absurd (omega (arith, l, inside))
  not_below (suc bound) y x l inside any h i = go (next y) refl (λ k. not_below bound k x)
    where
      go : (o : Option ℕ) → next y ≡ o →
          ((k : ℕ) → length nodes ≤ k + bound → k < length nodes → Node → Follows next x k → Element x (in_scope k) → ⊥) →
          ⊥
      go None e up = nowhere x (subst (Element x) (scope_by y inside None e) i)
      go (Some k) e up =
          let is = parent-is forest whole y k e any in
          let less : y < k = child-less forest whole k y is.node is.there is.among in
          let within : k < length nodes = slice_get_within nodes k is.node is.there in
          elim (append_cases x (variables_among nodes (declared_before nodes is.node y)) (in_scope k)
          (subst (Element x) (scope_of_child k y is.node less inside e is.there) i)) as (λ _. ⊥) [
            | inl d ↦ declared_apart k y x is.node is.there is.among
                (filtered (λ v. is_some (variable_at nodes v)) x (declared_before nodes is.node y)
                (in_reversed x (filter (λ v. is_some (variable_at nodes v)) (declared_before nodes is.node y)) d)) h
            | inr u ↦ up k (omega (arith, l, less)) within is.node (extend next x y k h e) u
          ]

  pub none_in_scope : (x y : ℕ) (node : Node) → slice_get nodes y ≡ Some node → Follows next x y →
      Element x (in_scope y) → ⊥
  none_in_scope x y node there h i =
      not_below (length nodes) y x (omega arith) (slice_get_within nodes y node there) node h i
