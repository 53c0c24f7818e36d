-- Handlers are classes, and what defines a Runnable's scope is no mission.
use Rattle.std.proofs.Common.{arith, ◌≡◌, ℕ, ◌<◌, length, ap, ◌∙◌, refl, Option, Some, Bool, true, false, ◌⊎◌, inl, inr, slice_get}
use Rattle.std.proofs.lemmas.Option.{slice_get_within}
use Rattle.scj_builtins.specs.Framework.{runnable, mission, periodic_handler, aperiodic_handler}
use Rattle.scj_tree.specs.Forest.{Forest, IsForest}
use Rattle.scj_rules.specs.Chains.{Follows, one, more}
use Rattle.scj_rules.specs.Words.{is_among}
use Rattle.scj_rules.specs.Classes.{ClassRow, superclass_in, superclasses, all_interfaces, is_sub}
use Rattle.scj_rules.specs.Contexts.{Declarations, declarations_of}
use Rattle.scj_rules.specs.ScopeRules.{definer, defined_by_chain, is_mission, is_handler}
use Rattle.scj_rules.specs.Phases.{IsAccepted}
use Rattle.scj_rules.proofs.ChainLemmas.{or_cases, on_chain_follows}
use Rattle.accepted_laws.specs.Sorts.{IsWellSorted}
use Rattle.accepted_laws.proofs.Subtypes.{is_above_on}
use Rattle.accepted_nodes.proofs.ScopesComplete.{of_option}
use Rattle.mission_facts.proofs.Lines.{of_framework, not_under_both}
use Rattle.mission_facts.proofs.OneKind.{not_two_kinds}
use Rattle.mission_facts.proofs.ScopeDefinitions.{definer_of}

module _ (forest : Forest) (accepted : IsAccepted forest) (whole : IsForest forest) (sorted : IsWellSorted forest.nodes)
  where
    abbrev p : Declarations
    p = declarations_of forest

    abbrev next : ℕ → Option ℕ
    next = superclass_in p.classes

    known : (i : ℕ) → i < 16 → i < length p.classes
    known i l = (let f = of_framework forest accepted whole sorted i l in slice_get_within p.classes i f.0 f.1)

    -- what has a superclass is a class
    steps_within : (a b : ℕ) → Follows next a b → a < length p.classes
    steps_within a b (one e) = first a b e
      where
        first : (a b : ℕ) → next a ≡ Some b → a < length p.classes
        first a b e =
            (let row = of_option (slice_get p.classes a) (λ (row : ClassRow). row.superclass) b e in
            slice_get_within p.classes a row.0 row.1)
    steps_within a c (more {b = b} e f) =
        (let row = of_option (slice_get p.classes a) (λ (row : ClassRow). row.superclass) b e in
        slice_get_within p.classes a row.0 row.1)

    -- what is under a class of the framework is a class
    under_within : (class i : ℕ) → i < 16 → is_among i (superclasses p.classes class) ≡ true → class < length p.classes
    unfolding superclasses
    under_within class i few h = go (on_chain_follows next i class (length p.classes) h)
      where
        go : (class ≡ i) ⊎ Follows next class i → class < length p.classes
        go (inl e) = (let l = known i few in omega (arith, e, l))
        go (inr f) = steps_within class i f

    pub handler_within : (class : ℕ) → is_handler p class ≡ true → class < length p.classes
    handler_within class h =
        elim (or_cases (is_among periodic_handler (superclasses p.classes class))
        (is_among aperiodic_handler (superclasses p.classes class)) h) as (λ z. class < length p.classes) [
          | inl s ↦ under_within class periodic_handler (omega arith) s
          | inr s ↦ under_within class aperiodic_handler (omega arith) s
        ]

    -- no class is a mission and a Runnable
    not_both : (class : ℕ) → is_among mission (superclasses p.classes class) ≡ true →
        is_sub p.classes class runnable ≡ true → ⊥
    unfolding is_sub
    not_both class m h =
        let l = under_within class mission (omega arith) m in
        elim (or_cases (is_among runnable (superclasses p.classes class))
        (is_among runnable (all_interfaces p.classes class)) h) as (λ z. ⊥) [
          | inl s ↦ not_under_both forest accepted whole sorted class mission runnable l (omega arith) (omega arith)
              (λ e. omega (arith, e)) (λ e. omega (arith, e)) (λ e. omega (arith, e)) m s
          | inr s ↦ not_two_kinds forest accepted whole sorted class runnable l (omega arith) refl
              (λ e. omega (arith, e)) m s
        ]

    -- a class above which something stands that defines a scope is a class
    pub runnable_scope : (class scope : ℕ) → is_sub p.classes class runnable ≡ true →
        defined_by_chain p class ≡ Some scope → is_mission p (definer scope) ≡ false
    unfolding superclasses
    runnable_scope class scope sub e = go (is_mission p scope) refl
      where
        above_mission : is_among mission (superclasses p.classes scope) ≡ true →
            is_among mission (superclasses p.classes class) ≡ true
        above_mission m =
            let x = definer_of forest accepted whole sorted class scope e in
            up (on_chain_follows next scope class (length p.classes) x.above) x.above
          where
            up : (class ≡ scope) ⊎ Follows next class scope → is_among scope (superclasses p.classes class) ≡ true →
                is_among mission (superclasses p.classes class) ≡ true
            up (inl s) h = ap (λ y. is_among mission (superclasses p.classes y)) s ∙ m
            up (inr f) h = is_above_on forest accepted class scope mission (steps_within class scope f) h m

        go : (t : Bool) → is_among mission (superclasses p.classes scope) ≡ t →
            is_among mission (superclasses p.classes scope) ≡ false
        go false m = m
        go true m = absurd (not_both class (above_mission m) sub)
