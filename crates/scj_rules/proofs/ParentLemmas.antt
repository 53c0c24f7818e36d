-- In a forest children stand before their parents and have one parent, and the context of a node is told by its parent.
use Rattle.std.proofs.Common.{◌≡◌, ℕ, ◌+◌, ◌<◌, ◌≤◌, zero, suc, List, [], ◌∷◌, ◌++◌, length, get_or, refl, sym, ap, ◌∙◌, subst, arith, Option, Some, None, Bool, true, false, if◌then◌else◌, ◌==◌, nat_lt, cond, slice_get, ⊎_elim}
use Rattle.std.proofs.lemmas.Bool.{cases_Bool, lt-ltb, true≢false, or_cases, eqb-true}
use Rattle.std.proofs.lemmas.List.Sums.{position_or_len_is}
use Rattle.std.proofs.lemmas.List.Quantifiers.{position-Some}
use Rattle.std.proofs.lemmas.Option.{slice_get_within, get_or_from_slice_get, slice_get-get_or}
use Rattle.std.specs.List.{position_or_len}
use Rattle.scj_tree.specs.declared.nodes.Node.{Node}
use Rattle.scj_tree.specs.Counts.{times}
use Rattle.scj_tree.specs.Forest.{Forest, IsForest, AllBelow, ChildrenFirst, joined, all_children}
use Rattle.scj_tree.specs.Shape.{children}
use Rattle.scj_tree.specs.Recursion.{lookup, above}
use Rattle.scj_tree.proofs.ForestLemmas.{times-append}
use Rattle.scj_tree.proofs.RecursionLemmas.{by_larger-is}
use Rattle.scj_rules.specs.Words.{is_among}
use Rattle.scj_rules.specs.Contexts.{outermost, parent_in, child_context, context_of, contexts_in}
use Rattle.scj_rules.specs.declared.contexts.Context.{Context}

-- ---- children stand before their parents, and have one parent

pub children_below : (nodes : List Node) (from k : ℕ) (node : Node) → ChildrenFirst from nodes →
    slice_get nodes k ≡ Some node → AllBelow (from + k) (children node)
unfolding ChildrenFirst
children_below [] from k node h e = cc
children_below (n ∷ nodes) from zero node h e =
    let same : n ≡ node = cc in
    let a : from ≡ from + 0 = omega arith in
    (let P : ℕ → Type 0 = λ m. AllBelow m (children node) in
    subst P a (let Q : Node → Type 0 = λ x. AllBelow from (children x) in subst Q same h.0))
children_below (n ∷ nodes) from (suc k) node h e =
    let a : (from + 1) + k ≡ from + suc k = omega arith in
    (let P : ℕ → Type 0 = λ m. AllBelow m (children node) in subst P a (children_below nodes (from + 1) k node h.1 e))

pub all_below_more : (m n : ℕ) (ids : List ℕ) → m ≤ n → AllBelow m ids → AllBelow n ids
unfolding AllBelow
all_below_more m n [] l h = tt
all_below_more m n (x ∷ ids) l h = (omega (arith, l, h.0), all_below_more m n ids l h.1)

pub among-below : (n x : ℕ) (ids : List ℕ) → AllBelow n ids → is_among x ids ≡ true → x < n
unfolding AllBelow
among-below n x [] h e = absurd (true≢false (sym e))
among-below n x (y ∷ ids) h e =
    ⊎_elim (λ (same : (x == y) ≡ true). omega (arith, eqb-true x y same, h.0))
    (λ (later : is_among x ids ≡ true). among-below n x ids h.1 later) (or_cases (x == y) (is_among x ids) e)

pub times-among : (x : ℕ) (ids : List ℕ) → is_among x ids ≡ true → 1 ≤ times x ids
unfolding times
times-among x [] e = absurd (true≢false (sym e))
times-among x (y ∷ ids) e =
    ⊎_elim (λ (same : (x == y) ≡ true). rw same (omega arith))
    (λ (later : is_among x ids ≡ true). omega (arith, times-among x ids later))
    (or_cases (x == y) (is_among x ids) e)

pub times-once : (x : ℕ) (nodes : List Node) (k : ℕ) (d : Node) → k < length nodes →
    is_among x (children (get_or nodes k d)) ≡ true → 1 ≤ times x (all_children nodes)
unfolding all_children
times-once x [] k d l e = absurd (omega (arith, l))
times-once x (n ∷ nodes) zero d l e =
    omega (arith, times-append x (children n) (all_children nodes), times-among x (children n) e)
times-once x (n ∷ nodes) (suc k) d l e =
    omega (arith, times-append x (children n) (all_children nodes), times-once x nodes k d (omega (arith, l)) e)

pub times-twice : (x : ℕ) (nodes : List Node) (j k : ℕ) (d : Node) → j < k → k < length nodes →
    is_among x (children (get_or nodes j d)) ≡ true → is_among x (children (get_or nodes k d)) ≡ true →
    2 ≤ times x (all_children nodes)
unfolding all_children
times-twice x [] j k d less l e f = absurd (omega (arith, l))
times-twice x (n ∷ nodes) j zero d less l e f = absurd (omega (arith, less))
times-twice x (n ∷ nodes) zero (suc k) d less l e f =
    omega (
      arith,
      times-append x (children n) (all_children nodes),
      times-among x (children n) e,
      times-once x nodes k d (omega (arith, l)) f,
    )
times-twice x (n ∷ nodes) (suc j) (suc k) d less l e f =
    omega (
      arith,
      times-append x (children n) (all_children nodes),
      times-twice x nodes j k d (omega (arith, less)) (omega (arith, l)) e f,
    )

pub times-part : (x : ℕ) (nodes : List Node) (k : ℕ) (node : Node) → slice_get nodes k ≡ Some node →
    times x (children node) ≤ times x (all_children nodes)
unfolding all_children
times-part x [] k node e = cc
times-part x (n ∷ nodes) zero node e =
    let same : n ≡ node = cc in
    let P : Node → Type 0 = λ m. times x (children m) ≤ times x (children n ++ all_children nodes) in
    subst P same (omega (arith, times-append x (children n) (all_children nodes)))
times-part x (n ∷ nodes) (suc k) node e =
    omega (arith, times-append x (children n) (all_children nodes), times-part x nodes k node e)

-- the context of a node, by its parent
pub by-parent : (nodes : List Node) (classes : List ℕ) (id : ℕ) (larger : ℕ → Context) (o : Option ℕ) →
    parent_in nodes id ≡ o
    → context_of nodes classes id larger
    ≡ elim o as (λ _. Context) [
      | None ↦ outermost
      | Some parent ↦ elim (slice_get nodes parent) as (λ _. Context)
          [ None ↦ outermost | Some node ↦ child_context nodes classes parent node (larger parent) id ]
    ]
unfolding context_of
by-parent nodes classes id larger o e =
    ap (λ (p : Option ℕ). elim p as (λ _. Context) [
      | None ↦ outermost
      | Some parent ↦ elim (slice_get nodes parent) as (λ _. Context)
          [ None ↦ outermost | Some node ↦ child_context nodes classes parent node (larger parent) id ]
    ]) e

pub by-parent-node : (nodes : List Node) (classes : List ℕ) (id : ℕ) (larger : ℕ → Context) (parent : ℕ) (node : Node) →
    parent_in nodes id ≡ Some parent → slice_get nodes parent ≡ Some node
    → context_of nodes classes id larger ≡ child_context nodes classes parent node (larger parent) id
by-parent-node nodes classes id larger parent node e f =
    by-parent nodes classes id larger (Some parent) e
    ∙ ap (λ (o : Option Node). elim o as (λ _. Context)
    [ None ↦ outermost | Some n ↦ child_context nodes classes parent n (larger parent) id ]) f

module _ (forest : Forest) (whole : IsForest forest) where
  abbrev nodes : List Node
  nodes = forest.nodes

  abbrev all : List Context
  all = contexts_in forest

  pub once : (x : ℕ) → times x (all_children nodes) ≤ 1
  once x = omega (arith, whole.one_place x, times-append x (joined forest.files) (all_children nodes))

  pub children_apart : (k : ℕ) (node : Node) → slice_get nodes k ≡ Some node → (x : ℕ) → times x (children node) ≤ 1
  children_apart k node e x = omega (arith, once x, times-part x nodes k node e)

  pub children_within : (k : ℕ) (node : Node) → slice_get nodes k ≡ Some node → AllBelow (length nodes) (children node)
  children_within k node e =
      let a : 0 + k ≤ length nodes = omega (arith, slice_get_within nodes k node e) in
      all_below_more (0 + k) (length nodes) (children node) a (children_below nodes 0 k node whole.children_first e)

  pub child-less : (k x : ℕ) (node : Node) → slice_get nodes k ≡ Some node → is_among x (children node) ≡ true → x < k
  child-less k x node e h =
      let l = among-below (0 + k) x (children node) (children_below nodes 0 k node whole.children_first e) h in
      omega (arith, l)

  pub parent-of : (k x : ℕ) (node : Node) → slice_get nodes k ≡ Some node → is_among x (children node) ≡ true →
      parent_in nodes x ≡ Some k
  unfolding parent_in
  parent-of k x node e h =
      let inside : k < length nodes = slice_get_within nodes k node e in
      let same : get_or nodes k node ≡ node = get_or_from_slice_get nodes k node node e in
      let test : Node → Bool = λ n. is_among x (children n) in
      let here : test (get_or nodes k node) ≡ true = ap test same ∙ h in
      let none : (j : ℕ) → j < k → test (get_or nodes j node) ≡ false = λ j l.
      ⊎_elim
      (λ (f : test (get_or nodes j node) ≡ true). absurd
      (omega (arith, once x, times-twice x nodes j k node l inside f here)))
      (λ (f : test (get_or nodes j node) ≡ false). f) (cases_Bool (test (get_or nodes j node))) in
      let first : position_or_len test nodes ≡ k =
      position_or_len_is test nodes k node (omega (arith, inside)) none (λ l. here) in
      let P : ℕ → Type 0 = λ (n : ℕ). cond (nat_lt n (length nodes)) (Some n) None ≡ Some k in
      subst P (sym first) (rw (lt-ltb k (length nodes) inside) refl)

  -- what a parent is
  pub record IsParent (x q : ℕ) : Type 0 where
    pub node : Node
    pub there : slice_get nodes q ≡ Some node
    pub among : is_among x (children node) ≡ true

  pub parent-is : (x q : ℕ) → parent_in nodes x ≡ Some q → (d : Node) → IsParent x q
  unfolding parent_in
  parent-is x q h d =
      let found = position-Some (λ n. is_among x (children n)) nodes q d h in
      record { node = get_or nodes q d; there = slice_get-get_or nodes q d found.0; among = found.1 }

  pub context-is : (x : ℕ) → x < length nodes → lookup outermost all x ≡ context_of nodes (joined forest.files) x
      (above outermost x (lookup outermost all))
  unfolding contexts_in
  context-is x l = by_larger-is outermost (context_of nodes (joined forest.files)) (length nodes) x l

  pub no-parent : (x : ℕ) → x < length nodes → parent_in nodes x ≡ None → lookup outermost all x ≡ outermost
  no-parent x l e =
      context-is x l ∙ by-parent nodes (joined forest.files) x (above outermost x (lookup outermost all)) None e

  pub child-is : (k x : ℕ) (node : Node) → slice_get nodes k ≡ Some node → is_among x (children node) ≡ true →
      lookup outermost all x ≡ child_context nodes (joined forest.files) k node (lookup outermost all k) x
  child-is k x node e h =
      let less : x < k = child-less k x node e h in
      context-is x (omega (arith, less, slice_get_within nodes k node e))
      ∙ by-parent-node nodes (joined forest.files) x (above outermost x (lookup outermost all)) k node
      (parent-of k x node e h) e
      ∙ ap (λ t. child_context nodes (joined forest.files) k node (if t then lookup outermost all k else outermost) x)
      (lt-ltb x k less)
