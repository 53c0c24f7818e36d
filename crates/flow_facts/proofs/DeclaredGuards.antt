-- A variable that is declared in the first part of an `if` is no subject of the guard that the `if` is.
use Rattle.std.specs.List.{cons_option}
use Rattle.std.proofs.Common.{◌≡◌, ℕ, zero, suc, List, [], ◌∷◌, length, filter_map, refl, sym, ap, ◌∙◌, subst, true≢false, ◌⊎◌, inl, inr, Option, Some, None, option_and_then, Bool, true, false, ◌==◌, if◌then◌else◌, slice_get}
use Rattle.std.proofs.lemmas.Option.{slice_get_within}
use Rattle.scj_base.specs.declared.positions.Position.{Position}
use Rattle.scj_tree.specs.declared.nodes.Node.{Node}
use Rattle.scj_tree.specs.declared.nodes.Node.TheVariants.{If, Call, SimpleName, This as ThisNode}
use Rattle.scj_tree.specs.Forest.{Forest, IsForest}
use Rattle.scj_tree.specs.Shape.{optional, children}
use Rattle.scj_rules.specs.declared.typing.Guard.{Guard}
use Rattle.scj_rules.specs.declared.typing.Meaning.{Meaning}
use Rattle.scj_rules.specs.declared.typing.Meaning.TheVariants.{Variable as a_variable}
use Rattle.scj_rules.specs.declared.typing.Subject.{Subject}
use Rattle.scj_rules.specs.declared.typing.Subject.TheVariants.{This as this_object, Variable as the_variable}
use Rattle.scj_rules.specs.Chains.{Follows, one, more}
use Rattle.scj_rules.specs.CheckedProgram.{IsReadFromTexts}
use Rattle.scj_rules.specs.Words.{is_among, chain, holds}
use Rattle.scj_rules.specs.Contexts.{Declarations, declarations_of, known_variables, declared_before, parent_in, variables_in_scope}
use Rattle.scj_rules.specs.Types.{meaning}
use Rattle.scj_rules.specs.Bindings.{bindings_in}
use Rattle.scj_rules.specs.Guards.{subject_of_meaning, subject_of, subject_at, are_same_subject, asked_by, condition_of, is_undone, is_subject, guard_at, if_of, ifs_around, is_first_part}
use Rattle.scj_rules.specs.Phases.{IsAccepted}
use Rattle.scj_rules.proofs.ChainLemmas.{among-behind, or_cases, same_number}
use Rattle.scj_rules.proofs.InScopeLemmas.{known-in-scope}
use Rattle.accepted_laws.specs.Judgements.{type_at_node}
use Rattle.accepted_laws.specs.Sorts.{IsWellSorted}
use Rattle.accepted_laws.proofs.Contexts.{known_same}
use Rattle.accepted_laws.proofs.Fields.{in_among}
use Rattle.accepted_laws.proofs.Tools.{some_inj}
use Rattle.accepted_nodes.proofs.TypesComplete.{variable_meant}
use Rattle.scj_model.specs.Code.{Code}
use Rattle.scope_flow.specs.Guards.{guard_of, SparesGuards}
use Rattle.scope_flow.proofs.Rests.{here, later}
use Rattle.flow_facts.proofs.OutsideScopes.{none_in_scope, extend}
use Rattle.flow_facts.proofs.Subjects.{names_variable, AskedCall, asked_guard}

-- ---- chains

chain_follows : (next : ℕ → Option ℕ) (bound x z : ℕ) → is_among z (chain next bound x) ≡ true →
    (z ≡ x) ⊎ Follows next x z
unfolding chain
chain_follows next zero x z e = absurd (true≢false (sym e))
chain_follows next (suc bound) x z e = go (λ b h. chain_follows next bound b z h) (next x) refl (or_cases (z == x) _ e)
  where
    go : ((b : ℕ) → is_among z (chain next bound b) ≡ true → (z ≡ b) ⊎ Follows next b z) → (o : Option ℕ) →
        next x ≡ o →
        ((z == x) ≡ true) ⊎
        (is_among z (elim o as (λ _. List ℕ) [ None ↦ [] | Some b ↦ chain next bound b ]) ≡ true) →
        (z ≡ x) ⊎ Follows next x z
    go up o f (inl h) = inl (same_number z x h)
    go up None f (inr h) = absurd (true≢false (sym h))
    go up (Some b) f (inr h) =
        elim (up b h) as (λ _. (z ≡ x) ⊎ Follows next x z) [
          | inl same ↦ inr (one (f ∙ ap (λ n. Some n) (sym same)))
          | inr k ↦ inr (more f k)
        ]

abbrev Found : (ℕ → Option ℕ) → ℕ → List ℕ → Type 0
Found f n ids = (z : ℕ) × (is_among z ids ≡ true) × (f z ≡ Some n)

mapped : (f : ℕ → Option ℕ) (n : ℕ) (xs : List ℕ) → is_among n (filter_map f xs) ≡ true → Found f n xs
mapped f n [] e = absurd (true≢false (sym e))
mapped f n (x ∷ xs) e = go (λ h. mapped f n xs h) (f x) refl e
  where
    behind : Found f n xs → Found f n (x ∷ xs)
    behind q = (q.0, later q.0 x xs q.1, q.2)

    go : (is_among n (filter_map f xs) ≡ true → Found f n xs) → (o : Option ℕ) → f x ≡ o →
        is_among n (cons_option o (filter_map f xs)) ≡ true →
        Found f n (x ∷ xs)
    go up None k h = behind (up h)
    go up (Some y) k h =
        elim (or_cases (n == y) (is_among n (filter_map f xs)) h) as
        (λ _. Found f n (x ∷ xs)) [
          | inl same ↦ (x, here x xs, k ∙ ap (λ n. Some n) (sym (same_number n y same)))
          | inr t ↦ behind (up t)
        ]

module _ (forest : Forest) (accepted : IsAccepted forest) (whole : IsForest forest) (sorted : IsWellSorted forest.nodes)
    (is_read : IsReadFromTexts forest) where
  abbrev p : Declarations
  p = declarations_of forest

  abbrev code : Code
  code = record { program = p; bindings = bindings_in p }

  abbrev next : ℕ → Option ℕ
  next = parent_in forest.nodes

  -- what stands in the first part of an `if` stands below it
  below_if : (x number : ℕ) → is_among number (ifs_around forest.nodes x) ≡ true → Follows next x number
  unfolding ifs_around
  below_if x number e =
      let q = mapped (if_of forest.nodes) number (chain next (length forest.nodes) x) e in
      let parent = parent_of_part q.0 q.2 in
      elim (chain_follows next (length forest.nodes) x q.0 q.1) as (λ _. Follows next x number) [
        | inl same ↦ one (subst (λ z. next z ≡ Some number) same parent)
        | inr h ↦ extend next x q.0 number h parent
      ]
    where
      tested : (t : Bool) (k : ℕ) → (if t then Some k else None) ≡ Some number → Some k ≡ Some number
      tested true k e = e
      tested false k e = absurd (cc (e))

      parent_of_part : (z : ℕ) → if_of forest.nodes z ≡ Some number → next z ≡ Some number
      parent_of_part z e = go (next z) e
        where
          go : (o : Option ℕ) →
              option_and_then (λ k. if holds (slice_get forest.nodes k) (is_first_part z) then Some k else None) o
              ≡ Some number → o ≡ Some number
          go None e = absurd (cc (e))
          go (Some k) e = tested (holds (slice_get forest.nodes k) (is_first_part z)) k e

  -- a variable that a subject names is in scope there
  subject_known : (a v : ℕ) → subject_at p a ≡ Some (the_variable v) → is_among v (known_variables p a) ≡ true
  unfolding subject_of subject_of_meaning declarations_of
  subject_known a v e = on_node (slice_get forest.nodes a) e
    where
      by_meaning : (name : List ℕ) (m : Meaning) → meaning p a name ≡ m →
          subject_of_meaning m ≡ Some (the_variable v) → is_among v (known_variables p a) ≡ true
      by_meaning name (a_variable u) meant e =
          let h : the_variable u ≡ the_variable v = some_inj (the_variable u) (the_variable v) e in
          let same : u ≡ v = cc (h) in
          (variable_meant forest accepted whole sorted a v name
          (names_variable forest accepted whole sorted is_read a v name (meant ∙ ap (λ u. a_variable u) same))).2
      by_meaning name _ meant e = absurd (cc (e))

      on_node : (o : Option Node) → option_and_then (subject_of p a) o ≡ Some (the_variable v) →
          is_among v (known_variables p a) ≡ true
      on_node None e = absurd (cc (e))
      on_node (Some (SimpleName position name)) e = by_meaning name (meaning p a name) refl e
      on_node (Some (ThisNode position)) e =
          absurd (let h : this_object ≡ the_variable v = some_inj this_object (the_variable v) e in cc (h))
      on_node (Some _) e = absurd (cc (e))

  -- an `if` that is a guard
  record GuardIf (number : ℕ) (guard : Guard) : Type 0 where
    position : Position
    condition : ℕ
    first : ℕ
    second : Option ℕ
    there : slice_get forest.nodes number ≡ Some (If position condition first second)
    asked : AskedCall forest accepted whole sorted is_read condition guard

  guard_if : (number : ℕ) (guard : Guard) → guard_of code number ≡ Some guard → GuardIf number guard
  unfolding guard_at condition_of declarations_of
  guard_if number guard e = on_node (slice_get forest.nodes number) refl e
    where
      conditions : Option Node → Option Guard
      conditions o =
          option_and_then (λ (g : Guard). if is_undone p number g then None else Some g)
          (option_and_then (λ condition.
          option_and_then (asked_by p (type_at_node p) condition) (slice_get forest.nodes condition))
          (option_and_then condition_of o))

      on_node : (o : Option Node) → slice_get forest.nodes number ≡ o → conditions o ≡ Some guard → GuardIf number guard
      on_node None there e = absurd (cc (e))
      on_node (Some (If position condition first second)) there k =
          record {
            position = position;
            condition = condition;
            first = first;
            second = second;
            there = there;
            asked =
                asked_guard forest accepted whole sorted is_read number condition first position second guard there
                (ap conditions there ∙ k);
          }
      on_node (Some _) there e = absurd (cc (e))

  pub declaration_spares : (x : ℕ) → SparesGuards code x x
  unfolding children declared_before are_same_subject declarations_of
  declaration_spares x number guard among is = go (is_subject guard (the_variable x)) refl
    where
      f : GuardIf number guard
      f = guard_if number guard is

      node : Node
      node = If f.position f.condition f.first f.second

      call : Node
      call = Call f.asked.position f.asked.name f.asked.object (f.asked.a ∷ f.asked.b ∷ [])

      -- what is in scope at a subject is in scope at the `if`
      known_there : (a : ℕ) → is_among a (children call) ≡ true → is_among x (known_variables p a) ≡ true → ⊥
      known_there a at known =
          let k = known_same forest whole f.condition a call f.asked.there at refl x known in
          let n =
          known_same forest whole number f.condition node f.there
          (here f.condition (f.first ∷ optional f.second)) refl x k in
          none_in_scope forest whole x number node f.there (below_if x number among)
          (in_among x (variables_in_scope forest number)
          (ap (is_among x) (sym (known-in-scope forest whole number
          (slice_get_within forest.nodes number node f.there))) ∙ n))

      named : (s : Subject) (a : ℕ) → is_among a (children call) ≡ true → subject_at p a ≡ Some s →
          are_same_subject (the_variable x) s ≡ true → ⊥
      named (the_variable v) a at e same =
          let one : x ≡ v = same_number x v same in
          known_there a at (subject_known a x (e ∙ ap (λ v. Some (the_variable v)) (sym one)))
      named this_object a at e same = absurd (true≢false (sym same))

      first_at : is_among f.asked.a (children call) ≡ true
      first_at =
          among-behind f.asked.a (optional f.asked.object) (f.asked.a ∷ f.asked.b ∷ []) (here f.asked.a (f.asked.b ∷ []))

      second_at : is_among f.asked.b (children call) ≡ true
      second_at =
          among-behind f.asked.b (optional f.asked.object) (f.asked.a ∷ f.asked.b ∷ [])
          (later f.asked.b f.asked.a (f.asked.b ∷ []) (here f.asked.b []))

      go : (t : Bool) → is_subject guard (the_variable x) ≡ t → is_subject guard (the_variable x) ≡ false
      go false e = e
      go true e =
          absurd (elim (or_cases (are_same_subject (the_variable x) guard.first)
          (are_same_subject (the_variable x) guard.second) e) as (λ _. ⊥) [
            | inl h ↦ named guard.first f.asked.a first_at f.asked.first h
            | inr h ↦ named guard.second f.asked.b second_at f.asked.second h
          ])
