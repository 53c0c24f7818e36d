-- The parents of the scopes that missions and handlers define (S5): a mission's scope lies in IMMORTAL, a handler's in
-- that of a mission, where the handler lies itself. What defines a Runnable's scope is no mission.
use Rattle.std.proofs.Common.{arith, ◌≡◌, ℕ, ◌<◌, length, sym, ap, ◌∙◌, refl, Option, Some, None, Bool, true, false, not, ◌&&◌, ◌==◌, true≢false, inl, inr, option_and_then, if◌then◌else◌, is_some}
use Rattle.scj_base.specs.Bytes.{is_same}
use Rattle.scj_builtins.specs.Framework.{object, mission, periodic_handler, aperiodic_handler}
use Rattle.scj_tree.specs.Forest.{Forest, IsForest}
use Rattle.scj_rules.specs.declared.scopes.Definition.{Definition}
use Rattle.scj_rules.specs.declared.scopes.Written.{Written}
use Rattle.scj_rules.specs.declared.typing.Scope.TheVariants.{In}
use Rattle.scj_rules.specs.Words.{is_among, holds}
use Rattle.scj_rules.specs.Classes.{superclasses}
use Rattle.scj_rules.specs.Contexts.{Declarations, declarations_of}
use Rattle.scj_rules.specs.ScopeRules.{immortal_scope, definer, scope_number, parent_scope, is_mission, is_handler, is_runnable, lies_in_parent, misfits_parent, scope_written_in, scope_written_on_chain}
use Rattle.scj_rules.specs.StaticScopes.{this_in}
use Rattle.scj_rules.specs.Phases.{IsAccepted}
use Rattle.scj_rules.proofs.ChainLemmas.{or_cases, or_left, or_right, same_number}
use Rattle.accepted_laws.specs.Sorts.{IsWellSorted}
use Rattle.accepted_laws.proofs.Fields.{along_in}
use Rattle.accepted_laws.proofs.MethodNodes.{same_bytes, not_false}
use Rattle.accepted_laws.proofs.ScopesOfClasses.{scope_of_above}
use Rattle.accepted_laws.proofs.Subtypes.{above_below, among_in, is_above_on}
use Rattle.accepted_facts.proofs.OverridingKinds.{and_true}
use Rattle.mission_facts.proofs.ImpliedScopes.{named_class_scope, lies_in}
use Rattle.mission_facts.proofs.Lines.{under_framework, not_under_both}
use Rattle.mission_facts.proofs.ScopeDefinitions.{IsDefiner}
use Rattle.accepted_nodes.proofs.FormParts.{held}

there_known : (o : Option ℕ) → not (is_some o) ≡ false → (n : ℕ) × (o ≡ Some n)
there_known None e = absurd (true≢false e)
there_known (Some n) e = (n, refl)

module _ (forest : Forest) (accepted : IsAccepted forest) (whole : IsForest forest) (sorted : IsWellSorted forest.nodes)
  where
    abbrev p : Declarations
    p = declarations_of forest

    abbrev Defines : ℕ → ℕ → Type 0
    Defines class scope = IsDefiner forest accepted whole sorted class scope

    -- the scope's parent, and S5
    pub record HasParent (scope : ℕ) (d : Definition) : Type 0 where
      pub parent : ℕ
      pub named : scope_number p d.parent.name ≡ Some parent
      pub is : parent_scope p scope ≡ Some parent
      pub fits : misfits_parent p scope d parent ≡ false

    pub has_parent : (class scope : ℕ) → (x : Defines class scope) → HasParent scope x.definition
    unfolding parent_scope
    has_parent class scope x =
        let d : Definition = x.definition in
        let n = there_known (scope_number p d.parent.name) x.defined.known_parent in
        record {
          parent = n.0;
          named = n.1;
          is = ap (option_and_then (λ (d : Definition). scope_number p d.parent.name)) x.writes ∙ n.1;
          fits = ap (λ (o : Option ℕ). holds o (misfits_parent p scope d)) (sym n.1) ∙ x.defined.right_parent;
        }

    -- what defines the scope of a class under one of the framework's classes is under it too
    definer_under : (class scope i : ℕ) → class < length p.classes → i < 16 → Defines class scope →
        is_among i (superclasses p.classes class) ≡ true → is_among i (superclasses p.classes scope) ≡ true
    definer_under class scope i l few x h =
        under_framework forest accepted whole sorted class scope i x.defined.row x.defined.written l x.above h few
        x.defined.stands x.defined.is

    pub mission_defines : (class scope : ℕ) → class < length p.classes → Defines class scope →
        is_mission p class ≡ true → is_mission p (definer scope) ≡ true
    mission_defines class scope l x h = definer_under class scope mission l (omega arith) x h

    pub mission_parent : (class scope : ℕ) → class < length p.classes → Defines class scope →
        is_mission p class ≡ true → parent_scope p scope ≡ Some immortal_scope
    unfolding misfits_parent
    mission_parent class scope l x h =
        let q = has_parent class scope x in
        let e : not (q.parent == immortal_scope) ≡ false =
        ap (λ t. if t then not (q.parent == immortal_scope) else (if is_handler p scope then not
        (is_mission p (definer q.parent) && lies_in_parent p scope x.definition) else (is_runnable p scope
        && (q.parent == immortal_scope)))) (sym (mission_defines class scope l x h))
        ∙ q.fits in
        q.is ∙ ap (λ n. Some n) (same_number q.parent immortal_scope (not_false (q.parent == immortal_scope) e))

    -- ---- handlers

    -- a handler is of one of the two classes
    handler_cases : (class : ℕ) → is_handler p class ≡ true →
        (i : ℕ) × (i < 16) × (i ≡ mission → ⊥) × (i ≡ object → ⊥) × (is_among i (superclasses p.classes class) ≡ true)
        × ((c : ℕ) → is_among i (superclasses p.classes c) ≡ true → is_handler p c ≡ true)
    handler_cases class h =
        elim (or_cases (is_among periodic_handler (superclasses p.classes class))
        (is_among aperiodic_handler (superclasses p.classes class)) h) as (λ z. (i : ℕ) × (i < 16) × (i ≡ mission → ⊥)
        × (i ≡ object → ⊥) × (is_among i (superclasses p.classes class) ≡ true)
        × ((c : ℕ) → is_among i (superclasses p.classes c) ≡ true → is_handler p c ≡ true)) [
          | inl s ↦ (
            periodic_handler,
            omega arith,
            λ e. omega (arith, e),
            λ e. omega (arith, e),
            s,
            λ c k.
                or_left (is_among periodic_handler (superclasses p.classes c))
                (is_among aperiodic_handler (superclasses p.classes c)) k,
          )
          | inr s ↦ (
            aperiodic_handler,
            omega arith,
            λ e. omega (arith, e),
            λ e. omega (arith, e),
            s,
            λ c k.
                or_right (is_among periodic_handler (superclasses p.classes c))
                (is_among aperiodic_handler (superclasses p.classes c)) k,
          )
        ]

    -- no handler is a mission
    pub handler_no_mission : (class : ℕ) → class < length p.classes → is_handler p class ≡ true →
        is_mission p class ≡ false
    handler_no_mission class l h = go (is_mission p class) refl
      where
        go : (t : Bool) → is_among mission (superclasses p.classes class) ≡ t →
            is_among mission (superclasses p.classes class) ≡ false
        go false e = e
        go true e =
            let i = handler_cases class h in
            absurd (not_under_both forest accepted whole sorted class i.0 mission l i.1 (omega arith) i.2 i.3
            (λ e. omega (arith, e)) i.4 e)

    pub handler_defines : (class scope : ℕ) → class < length p.classes → Defines class scope →
        is_handler p class ≡ true → is_handler p scope ≡ true
    handler_defines class scope l x h =
        let i = handler_cases class h in i.5 scope (definer_under class scope i.0 l i.1 x i.4)

    pub record InParent (class scope : ℕ) : Type 0 where
      pub is_no_missions : is_mission p (definer scope) ≡ false
      pub parent : ℕ
      pub is_parent : parent_scope p scope ≡ Some parent
      pub parent_is_missions : is_mission p (definer parent) ≡ true
      pub lies_in_parent : this_in p class ≡ Some (In parent)

    pub handler_parent : (class scope : ℕ) → class < length p.classes → Defines class scope →
        is_handler p class ≡ true → InParent class scope
    unfolding misfits_parent scope_written_on_chain
    handler_parent class scope l x h =
        let q = has_parent class scope x in
        let d : Definition = x.definition in
        let handler = handler_defines class scope l x h in
        let within : scope < length p.classes = above_below forest accepted class scope l x.above in
        let no_mission = handler_no_mission scope within handler in
        let e : not (is_mission p (definer q.parent) && lies_in_parent p scope d) ≡ false =
        ap (λ t. if t then not (is_mission p (definer q.parent) && lies_in_parent p scope d) else (is_runnable p scope
        && (q.parent == immortal_scope))) (sym handler)
        ∙ ap (λ t. if t then not (q.parent == immortal_scope) else (if is_handler p scope then not
        (is_mission p (definer q.parent) && lies_in_parent p scope d) else (is_runnable p scope
        && (q.parent == immortal_scope)))) (sym no_mission)
        ∙ q.fits in
        let both = and_true (is_mission p (definer q.parent)) (lies_in_parent p scope d) (not_false _ e) in
        let w = held (scope_written_on_chain p scope) (λ (w : Written). is_same w.name d.parent.name) both.1 in
        let y = along_in (scope_written_in p) (superclasses p.classes scope) w.0 w.1 in
        let above : is_among y.0 (superclasses p.classes scope) ≡ true =
        among_in y.0 (superclasses p.classes scope) y.1 in
        let named = named_class_scope forest accepted whole sorted y.0 w.0 q.parent
        (above_below forest accepted scope y.0 within above) y.2
        (ap (scope_number p) (same_bytes w.0.name d.parent.name w.2) ∙ q.named) in
        let reached = is_above_on forest accepted class scope y.0 l x.above above in
        record {
          is_no_missions = no_mission;
          parent = q.parent;
          is_parent = q.is;
          parent_is_missions = both.0;
          lies_in_parent =
              lies_in forest accepted whole sorted class q.parent
              (scope_of_above forest accepted whole sorted class y.0 q.parent l reached named);
        }
