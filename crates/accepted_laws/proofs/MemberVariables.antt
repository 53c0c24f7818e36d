-- The variables of a member of an accepted program: no variable has two numbers, and each that is in scope in the member is
-- among them.
use Rattle.std.proofs.Common.{◌≡◌, ℕ, ◌+◌, ◌<◌, ◌≤◌, zero, suc, List, [], ◌∷◌, length, filter, refl, sym, ap, ◌∙◌, subst, arith, Option, Some, None, Bool, true, false, ◌&&◌, true≢false, ◌⊎◌, inl, inr, slice_get, is_some, if◌then◌else◌, ◌==◌, nat_lt, option_and_then}
use Rattle.std.proofs.lemmas.Bool.Decides.{nat_tests}
use Rattle.std.proofs.lemmas.Option.{slice_get_within}
use Rattle.scj_tree.specs.declared.nodes.Node.{Node}
use Rattle.scj_tree.specs.Forest.{Forest, IsForest}
use Rattle.scj_tree.specs.Shape.{children}
use Rattle.scj_rules.specs.Words.{is_among, chain, holds}
use Rattle.scj_rules.specs.Views.{variable_at, variable_of}
use Rattle.scj_rules.specs.ClassRules.{numbers_from}
use Rattle.scj_rules.specs.LimitRules.{is_variable_of, variables_of}
use Rattle.scj_rules.specs.Contexts.{Declarations, declarations_of, outermost, context, child_context, last_variable, declared_before, parent_in, variable_before, known_variables}
use Rattle.scj_rules.proofs.ChainLemmas.{or_cases, or_left, or_right, is_same_number, same_number}
use Rattle.scj_rules.proofs.ParentLemmas.{parent-is, no-parent, child-less}
use Rattle.accepted_laws.specs.Sorts.{IsWellSorted}
use Rattle.accepted_laws.proofs.Children.{member_knows_none}
use Rattle.accepted_laws.proofs.Contexts.{child_context_is}
use Rattle.accepted_laws.proofs.MemberContexts.{outside}
use Rattle.accepted_laws.proofs.Rows.{get_from_within}
use Rattle.accepted_laws.proofs.Tools.{some_inj}
use Rattle.accepted_laws.proofs.Variables.{same_member}

-- ---- filtered numbers

-- each is at least the first number
at_least : {A : Type 0} (test : ℕ → Bool) (xs : List A) (n i v : ℕ) → slice_get (filter test (numbers_from n xs)) i ≡ Some v → n ≤ v
unfolding numbers_from
at_least test [] n i v e = absurd (cc (e))
at_least {A} test (x ∷ xs) n i v e = go (test n) refl i e (λ i e. at_least test xs (n + 1) i v e)
  where
    go : (t : Bool) → test n ≡ t → (i : ℕ) → slice_get (filter test (n ∷ numbers_from (n + 1) xs)) i ≡ Some v → ((i : ℕ) → slice_get (filter test (numbers_from (n + 1) xs)) i ≡ Some v → n + 1 ≤ v) → n ≤ v
    go false t i e ih = (let l = ih i (rw t at e) in omega (arith, l))
    go true t zero e ih = (let f : Some n ≡ Some v = rw t at e in let same : n ≡ v = some_inj n v f in omega (arith, same))
    go true t (suc i) e ih = (let f : slice_get (n ∷ filter test (numbers_from (n + 1) xs)) (suc i) ≡ Some v = rw t at e in let l = ih i f in omega (arith, l))

one_place : {A : Type 0} (test : ℕ → Bool) (xs : List A) (n i j v : ℕ) → slice_get (filter test (numbers_from n xs)) i ≡ Some v → slice_get (filter test (numbers_from n xs)) j ≡ Some v → i ≡ j
unfolding numbers_from
one_place test [] n i j v e f = absurd (cc (e))
one_place {A} test (x ∷ xs) n i j v e f = go (test n) refl i j e f (λ i j e f. one_place test xs (n + 1) i j v e f)
  where
    later : (i : ℕ) → slice_get (filter test (numbers_from (n + 1) xs)) i ≡ Some n → ⊥
    later i e = (let l : n + 1 ≤ n = at_least test xs (n + 1) i n e in omega (arith, l))

    go : (t : Bool) → test n ≡ t → (i j : ℕ) → slice_get (filter test (n ∷ numbers_from (n + 1) xs)) i ≡ Some v → slice_get (filter test (n ∷ numbers_from (n + 1) xs)) j ≡ Some v
        → ((i j : ℕ) → slice_get (filter test (numbers_from (n + 1) xs)) i ≡ Some v → slice_get (filter test (numbers_from (n + 1) xs)) j ≡ Some v → i ≡ j) → i ≡ j
    go false t i j e f ih = ih i j (rw t at e) (rw t at f)
    go true t zero zero e f ih = refl
    go true t zero (suc j) e f ih =
        (let a : Some n ≡ Some v = rw t at e in
        let b : slice_get (filter test (numbers_from (n + 1) xs)) j ≡ Some v = rw t at f in absurd (later j (b ∙ sym a)))
    go true t (suc i) zero e f ih =
        (let a : Some n ≡ Some v = rw t at f in
        let b : slice_get (filter test (numbers_from (n + 1) xs)) i ≡ Some v = rw t at e in absurd (later i (b ∙ sym a)))
    go true t (suc i) (suc j) e f ih =
        (let a : slice_get (filter test (numbers_from (n + 1) xs)) i ≡ Some v = rw t at e in
        let b : slice_get (filter test (numbers_from (n + 1) xs)) j ≡ Some v = rw t at f in ap suc (ih i j a b))

-- what passes is there
passes_there : {A : Type 0} (test : ℕ → Bool) (xs : List A) (n k : ℕ) → k < length xs → test (n + k) ≡ true → is_among (n + k) (filter test (numbers_from n xs)) ≡ true
unfolding numbers_from
passes_there test [] n k l h = absurd (omega (arith, l))
passes_there {A} test (x ∷ xs) n k l h = go (test n) refl k l h (λ k l h. passes_there test xs (n + 1) k l h)
  where
    go : (t : Bool) → test n ≡ t → (k : ℕ) → k < suc (length xs) → test (n + k) ≡ true → ((k : ℕ) → k < length xs → test ((n + 1) + k) ≡ true → is_among ((n + 1) + k) (filter test (numbers_from (n + 1) xs)) ≡ true)
        → is_among (n + k) (filter test (n ∷ numbers_from (n + 1) xs)) ≡ true
    go true t zero l h ih = rw t (let a : n + 0 ≡ n = omega arith in or_left ((n + 0) == n) _ (is_same_number (n + 0) n a))
    go false t zero l h ih = absurd (let a : n + 0 ≡ n = omega arith in true≢false (sym h ∙ ap test a ∙ t))
    go true t (suc k) l h ih =
        rw t (let a : (n + 1) + k ≡ n + suc k = omega arith in or_right ((n + suc k) == n) _ (subst (λ m. is_among m (filter test (numbers_from (n + 1) xs)) ≡ true) a (ih k (omega (arith, l)) (ap test a ∙ h))))
    go false t (suc k) l h ih =
        rw t (let a : (n + 1) + k ≡ n + suc k = omega arith in subst (λ m. is_among m (filter test (numbers_from (n + 1) xs)) ≡ true) a (ih k (omega (arith, l)) (ap test a ∙ h)))

module _ (forest : Forest) where
  abbrev p : Declarations
  p = declarations_of forest

  -- a variable of a member has one number
  pub variable_once : (b i j v : ℕ) → slice_get (variables_of p b) i ≡ Some v → slice_get (variables_of p b) j ≡ Some v → i ≡ j
  unfolding variables_of
  variable_once b i j v e f = one_place (is_variable_of p b) p.nodes 0 i j v e f

  module _ (whole : IsForest forest) (sorted : IsWellSorted forest.nodes) where
    abbrev nodes : List Node
    nodes = forest.nodes

    -- ---- what is in scope is a variable

    last_is_variable : (known : Option ℕ) (ids : List ℕ) (v : ℕ) → last_variable nodes known ids ≡ Some v → (is_some (variable_at nodes v) ≡ true) ⊎ (known ≡ Some v)
    unfolding last_variable
    last_is_variable known [] v e = inr e
    last_is_variable known (x ∷ ids) v e = go (is_some (variable_at nodes x)) refl (last_is_variable (if is_some (variable_at nodes x) then Some x else known) ids v e)
      where
        go : (t : Bool) → is_some (variable_at nodes x) ≡ t → (is_some (variable_at nodes v) ≡ true) ⊎ ((if t then Some x else known) ≡ Some v) → (is_some (variable_at nodes v) ≡ true) ⊎ (known ≡ Some v)
        go t s (inl h) = inl h
        go true s (inr h) = inl (ap (λ x. is_some (variable_at nodes x)) (sym (some_inj x v h)) ∙ s)
        go false s (inr h) = inr h

    abbrev LastIs : ℕ → Type 0
    LastIs x = (v : ℕ) → (context p x).last ≡ Some v → is_some (variable_at nodes v) ≡ true

    last_step : (x k : ℕ) (node : Node) → slice_get nodes k ≡ Some node → is_among x (children node) ≡ true → LastIs k → LastIs x
    unfolding child_context
    last_step x k node at among ih v e =
        elim (last_is_variable (context p k).last (declared_before nodes node x) v (sym (ap (λ c. c.last) (child_context_is forest whole k x node at among)) ∙ e)) as (λ z. is_some (variable_at nodes v) ≡ true)
        [ inl h ↦ h | inr h ↦ ih v h ]

    no_parent_is : (x : ℕ) → x < length nodes → parent_in nodes x ≡ None → context p x ≡ outermost
    unfolding declarations_of
    no_parent_is x l q = no-parent forest whole x l q

    last_down : (d x : ℕ) → length nodes ≤ x + d → LastIs x
    last_down zero x l v e = absurd (let z : None ≡ Some v = sym (ap (λ c. c.last) (outside forest whole sorted x (omega (arith, l)))) ∙ e in cc (z))
    last_down (suc d) x l v e = go (nat_lt x (length nodes)) refl (last_down d)
      where
        by_parent : (o : Option ℕ) → parent_in nodes x ≡ o → x < length nodes → ((x : ℕ) → length nodes ≤ x + d → LastIs x) → is_some (variable_at nodes v) ≡ true
        by_parent None q inside ih = absurd (let z : None ≡ Some v = sym (ap (λ c. c.last) (no_parent_is x inside q)) ∙ e in cc (z))
        by_parent (Some k) q inside ih =
            let is = parent-is forest whole x k q (get_from_within nodes x inside).0 in
            let less : x < k = child-less forest whole k x is.node is.there is.among in
            last_step x k is.node is.there is.among (ih k (omega (arith, l, less))) v e

        go : (t : Bool) → nat_lt x (length nodes) ≡ t → ((x : ℕ) → length nodes ≤ x + d → LastIs x) → is_some (variable_at nodes v) ≡ true
        go true h ih = (let inside : x < length nodes = grind (arith, nat_tests) in by_parent (parent_in nodes x) refl inside ih)
        go false h ih = absurd (let out : length nodes ≤ x = grind (arith, nat_tests) in let z : None ≡ Some v = sym (ap (λ c. c.last) (outside forest whole sorted x out)) ∙ e in cc (z))

    -- a variable that is in scope is of the node's member
    pub record IsInScope (x v : ℕ) : Type 0 where
      pub is_variable : is_some (variable_at nodes v) ≡ true
      pub same : (context p v).member ≡ (context p x).member

    last_in_scope : (x v : ℕ) → (context p x).last ≡ Some v → IsInScope x v
    last_in_scope x v e = record { is_variable = last_down (length nodes) x (omega arith) v e; same = same_member forest whole (member_knows_none forest whole sorted) x v e }

    along_chain : (m x a v : ℕ) → IsInScope x a → is_among v (chain (variable_before p) m a) ≡ true → IsInScope x v
    unfolding chain
    along_chain zero x a v i h = absurd (true≢false (sym h))
    along_chain (suc m) x a v i h = go (variable_before p a) refl (or_cases (v == a) _ h) (along_chain m)
      where
        go : (o : Option ℕ) → variable_before p a ≡ o → ((v == a) ≡ true) ⊎ (is_among v (elim o as (λ _. List ℕ) [ None ↦ [] | Some b ↦ chain (variable_before p) m b ]) ≡ true) → ((x a v : ℕ) → IsInScope x a → is_among v (chain (variable_before p) m a) ≡ true → IsInScope x v) → IsInScope x v
        go o e (inl s) ih = subst (IsInScope x) (sym (same_number v a s)) i
        go None e (inr s) ih = absurd (true≢false (sym s))
        go (Some b) e (inr s) ih = (let n = last_in_scope a b e in ih x b v (record { is_variable = n.is_variable; same = n.same ∙ i.same }) s)

    pub in_scope : (x v : ℕ) → is_among v (known_variables p x) ≡ true → IsInScope x v
    unfolding known_variables
    in_scope x v h = go (context p x).last refl h
      where
        go : (o : Option ℕ) → (context p x).last ≡ o → is_among v (elim o as (λ _. List ℕ) [ None ↦ [] | Some last ↦ chain (variable_before p) (length p.nodes) last ]) ≡ true → IsInScope x v
        go None e h = absurd (true≢false (sym h))
        go (Some a) e h = along_chain (length p.nodes) x a v (last_in_scope x a e) h

    there_of : (o : Option Node) (v : ℕ) → is_some (option_and_then (variable_of nodes v) o) ≡ true → slice_get nodes v ≡ o → (node : Node) × (slice_get nodes v ≡ Some node)
    there_of None v h e = absurd (true≢false (sym h))
    there_of (Some node) v h e = (node, e)

    -- each variable that is in scope in a member is among its variables
    pub known_is_variable : (x b v : ℕ) → (context p x).member ≡ Some b → is_among v (known_variables p x) ≡ true → is_among v (variables_of p b) ≡ true
    unfolding variables_of declarations_of
    known_is_variable x b v m h =
        let i = in_scope x v h in
        let n = there_of (slice_get nodes v) v i.is_variable refl in
        let a : 0 + v ≡ v = omega arith in
        let is : is_variable_of p b v ≡ true = ap (λ t. t && holds (context p v).member (λ m. m == b)) i.is_variable ∙ ap (λ (o : Option ℕ). holds o (λ m. m == b)) (i.same ∙ m) ∙ is_same_number b b refl in
        subst (λ w. is_among w (filter (is_variable_of p b) (numbers_from 0 p.nodes)) ≡ true) a
        (passes_there (is_variable_of p b) p.nodes 0 v (slice_get_within p.nodes v n.0 n.1) (ap (is_variable_of p b) a ∙ is))
