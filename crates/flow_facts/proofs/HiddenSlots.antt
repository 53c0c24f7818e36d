-- Each object of a class under a framework's handler has the hidden slots of the handler, which are numbers.
use Rattle.std.proofs.Common.{◌≡◌, ℕ, ◌<◌, nat_lt, List, [], ◌∷◌, length, refl, sym, ap, ◌∙◌, subst, arith, Option, Some, None, Bool, true, false, true≢false, ◌⊎◌, inl, inr, ◌==◌, option_and_then, slice_get, if◌then◌else◌}
use Rattle.std.proofs.lemmas.Bool.{lt-ltb}
use Rattle.scj_builtins.specs.Framework.{object, mission_sequencer, periodic_handler, aperiodic_handler}
use Rattle.scj_tree.specs.Forest.{Forest, IsForest}
use Rattle.scj_rules.specs.Words.{is_among}
use Rattle.scj_rules.specs.Classes.{ClassRow, superclass_in, superclasses, all_interfaces, is_sub, hidden_fields}
use Rattle.scj_rules.specs.Contexts.{Declarations, declarations_of}
use Rattle.scj_rules.specs.Types.{has_form}
use Rattle.scj_rules.specs.Phases.{IsAccepted}
use Rattle.scj_rules.proofs.ChainLemmas.{or_cases, or_left, or_right, is_same_number, same_number}
use Rattle.accepted_laws.specs.Sorts.{IsWellSorted}
use Rattle.accepted_laws.proofs.Interfaces.{interface_of_framework}
use Rattle.accepted_laws.proofs.Rows.{IsFrameworkRow}
use Rattle.accepted_laws.proofs.ScopesOfClasses.{chain_is}
use Rattle.accepted_laws.proofs.Subtypes.{is_above_on}
use Rattle.accepted_laws.proofs.Tools.{some_inj}
use Rattle.scope_flow.specs.Needs.{hidden_count, HasHidden}
use Rattle.scope_flow.specs.Slots.{kind_of_own_slot}
use Rattle.flow_facts.proofs.HeldFields.{in_object}
use Rattle.scj_rules.proofs.WithinLemmas.{counted-stays}

module _ (forest : Forest) (accepted : IsAccepted forest) (whole : IsForest forest) (sorted : IsWellSorted forest.nodes)
  where
    abbrev p : Declarations
    p = declarations_of forest

    -- a superclass under which a form is due is above each class under the class
    above_each : (c superclass under : ℕ) → c < length p.classes → superclass_in p.classes c ≡ Some superclass →
        has_form superclass ≡ true → under < length p.classes → is_sub p.classes under c ≡ true →
        is_among superclass (superclasses p.classes under) ≡ true
    unfolding is_sub
    above_each c superclass under l up form m sub =
        elim (or_cases (is_among c (superclasses p.classes under)) (is_among c (all_interfaces p.classes under)) sub) as
        (λ z. is_among superclass (superclasses p.classes under) ≡ true) [
          | inl h ↦ is_above_on forest accepted under c superclass m h own
          | inr h ↦ absurd (let r = interface_of_framework forest accepted under c h in no_interface r.0 r.1 r.2)
        ]
      where
        next_is : (row : ClassRow) → slice_get p.classes c ≡ Some row → superclass_in p.classes c ≡ row.superclass
        next_is row e = ap (λ (o : Option ClassRow). option_and_then (λ (row : ClassRow). row.superclass) o) e

        itself : is_among superclass (superclasses p.classes superclass) ≡ true
        itself = ap (is_among superclass) (chain_is forest accepted superclass (counted-stays forest c superclass up))
            ∙ or_left (superclass == superclass) _ (is_same_number superclass superclass refl)

        own : is_among superclass (superclasses p.classes c) ≡ true
        own =
            ap (is_among superclass)
            (chain_is forest accepted c l
            ∙ ap (λ (o : Option ℕ). c ∷ (elim o as (λ _. List ℕ) [ None ↦ [] | Some b ↦ superclasses p.classes b ])) up)
            ∙ or_right (superclass == c) (is_among superclass (superclasses p.classes superclass)) itself

        no_object : superclass ≡ object → ⊥
        no_object e = true≢false (sym form ∙ ap has_form e)

        no_interface : (row : ClassRow) → slice_get p.classes c ≡ Some row → IsFrameworkRow c row → ⊥
        no_interface row e k = elim k.extends_object as (λ z. ⊥) [
          | inl s ↦ no_object (some_inj superclass object (sym up ∙ next_is row e ∙ s))
          | inr s ↦ (let z : None ≡ Some superclass = sym (next_is row e ∙ s.0) ∙ up in cc (z))
        ]

    enough : (superclass slot : ℕ) (list : List ℕ) → has_form superclass ≡ true → is_among superclass list ≡ true →
        slot < hidden_count superclass →
        slot < (if is_among periodic_handler list then 4 else (if is_among aperiodic_handler list then 2 else 0))
    unfolding hidden_count
    enough superclass slot list form among l =
        by_class
        (or_cases (superclass == periodic_handler) (is_among superclass (aperiodic_handler ∷ mission_sequencer ∷ []))
        form)
      where
        count : ℕ
        count = if is_among periodic_handler list then 4 else (if is_among aperiodic_handler list then 2 else 0)

        at_periodic : is_among periodic_handler list ≡ true → slot < 4 → slot < count
        at_periodic h l = subst (λ t. slot < (if t then 4 else (if is_among aperiodic_handler list then 2 else 0)))
            (sym h) l

        at_aperiodic : is_among aperiodic_handler list ≡ true → slot < 2 → (t : Bool) →
            slot < (if t then 4 else (if is_among aperiodic_handler list then 2 else 0))
        at_aperiodic h l true = omega (arith, l)
        at_aperiodic h l false = subst (λ t. slot < (if t then 2 else 0)) (sym h) l

        at_sequencer : slot < 0 → slot < count
        at_sequencer l = absurd (omega (arith, l))

        by_other : ((superclass == aperiodic_handler) ≡ true) ⊎ (is_among superclass (mission_sequencer ∷ []) ≡ true) →
            slot < count
        by_other (inl e) =
            (let same = same_number superclass aperiodic_handler e in
            at_aperiodic (subst (λ k. is_among k list ≡ true) same among) (subst (λ k. slot < hidden_count k) same l)
            (is_among periodic_handler list))
        by_other (inr e) =
            elim (or_cases (superclass == mission_sequencer) (is_among superclass []) e) as (λ z. slot < count) [
              | inl e ↦ at_sequencer (subst (λ k. slot < hidden_count k) (same_number superclass mission_sequencer e) l)
              | inr e ↦ absurd (true≢false (sym e))
            ]

        by_class : ((superclass == periodic_handler) ≡ true) ⊎
            (is_among superclass (aperiodic_handler ∷ mission_sequencer ∷ []) ≡ true) → slot < count
        by_class (inl e) =
            (let same = same_number superclass periodic_handler e in
            at_periodic (subst (λ k. is_among k list ≡ true) same among) (subst (λ k. slot < hidden_count k) same l))
        by_class (inr e) =
            by_other (or_cases (superclass == aperiodic_handler) (is_among superclass (mission_sequencer ∷ [])) e)

    pub has_hidden : (c superclass : ℕ) → c < length p.classes → superclass_in p.classes c ≡ Some superclass →
        has_form superclass ≡ true → HasHidden p c (hidden_count superclass)
    unfolding kind_of_own_slot hidden_fields
    has_hidden c superclass l up form under slot m sub within =
        let more =
        enough superclass slot (superclasses p.classes under) form (above_each c superclass under l up form m sub)
        within in
        let test : nat_lt slot
        (if is_among periodic_handler (superclasses p.classes under) then 4
        else (if is_among aperiodic_handler (superclasses p.classes under) then 2 else 0)) ≡ true = lt-ltb slot _ more
        in
        (more, in_object forest accepted whole sorted under slot m ∙ rw test refl)
