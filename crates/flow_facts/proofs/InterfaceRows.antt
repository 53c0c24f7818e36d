-- The interfaces of a class are interfaces of the framework, and no handlers (C10).
use Rattle.std.proofs.Common.{◌≡◌, ℕ, List, [], ◌∷◌, ◌++◌, refl, sym, ap, ◌∙◌, subst, Option, Some, None, Bool, true, false, true≢false, ◌⊎◌, inl, inr, slice_get, if◌then◌else◌}
use Rattle.scj_builtins.specs.Framework.{framework_classes, periodic_handler, aperiodic_handler}
use Rattle.scj_tree.specs.Forest.{Forest, IsForest}
use Rattle.scj_rules.specs.declared.scopes.Written.{Written}
use Rattle.scj_rules.specs.Words.{is_among, holds}
use Rattle.scj_rules.specs.Views.{WrittenClass}
use Rattle.scj_rules.specs.Classes.{ClassRow, class_number, class_names, user_row, framework_row, framework_rows_from, written_rows, superclasses, interfaces_in, all_interfaces, kinds_of, with_kinds, is_implemented, is_forbidden_interface, is_forbidden_superclass, forbidden_interfaces, forbidden_supers}
use Rattle.scj_rules.specs.ClassRules.{c10}
use Rattle.scj_rules.specs.Contexts.{Declarations, declarations_of}
use Rattle.scj_rules.specs.Phases.{IsAccepted}
use Rattle.accepted_laws.specs.Sorts.{IsWellSorted}
use Rattle.accepted_laws.proofs.Breaks.{both_empty}
use Rattle.accepted_laws.proofs.Dispatch.{written_of}
use Rattle.accepted_laws.proofs.Fields.{In as Element, in_among}
use Rattle.accepted_laws.proofs.Interfaces.{flat_in, mapped_in, row_is}
use Rattle.accepted_laws.proofs.MethodNodes.{not_false}
use Rattle.accepted_laws.proofs.Rows.{IsUserRow, at_class_unbroken, none_broken, counted_is_written}
use Rattle.accepted_laws.proofs.Tools.{some_inj}
use Rattle.accepted_facts.proofs.StatementFacts.{or_false}
use Rattle.flow_facts.proofs.SlotScopes.{in_head}

unless_empty : (t : Bool) (w : Written) → (if t then w ∷ [] else []) ≡ [] → t ≡ false
unless_empty true w e = absurd (cc (e))
unless_empty false w e = refl

allowed : (names : List (List ℕ)) (rows : List ClassRow) (before : List ℕ) (ws : List Written) →
    forbidden_interfaces names rows before ws ≡ [] → (w : Written) → Element w ws → (i : ℕ) →
    class_number names w.name ≡ Some i
    → holds (slice_get rows i) (λ (row : ClassRow). is_implemented row.kind) ≡ true
unfolding forbidden_interfaces
allowed names rows before [] e w h i n = elim h [ ]
allowed names rows before (v ∷ ws) e w h i n =
    go (class_number names v.name) refl e (in_head w v ws h) (λ before e h. allowed names rows before ws e w h i n)
  where
    go : (o : Option ℕ) → class_number names v.name ≡ o
        → elim o as (λ _. List Written) [
          | None ↦ forbidden_interfaces names rows before ws
          | Some class ↦ (if is_forbidden_interface rows before class then v ∷ [] else [])
              ++ forbidden_interfaces names rows (with_kinds before (kinds_of rows class)) ws
        ] ≡ []
        → (v ≡ w) ⊎ Element w ws → ((before : List ℕ) → forbidden_interfaces names rows before ws ≡ [] → Element w ws →
        holds (slice_get rows i) (λ (row : ClassRow). is_implemented row.kind) ≡ true) →
        holds (slice_get rows i) (λ (row : ClassRow). is_implemented row.kind) ≡ true
    go None k e (inl s) ih =
        absurd (let z : None ≡ Some i = sym k ∙ ap (λ (v : Written). class_number names v.name) s ∙ n in cc (z))
    go None k e (inr h) ih = ih before e h
    go (Some class) k e (inl s) ih =
        let parts = both_empty (if is_forbidden_interface rows before class then v ∷ [] else [])
        (forbidden_interfaces names rows (with_kinds before (kinds_of rows class)) ws) e in
        let same : class ≡ i = some_inj class i (sym k ∙ ap (λ (v : Written). class_number names v.name) s ∙ n) in
        subst (λ i. holds (slice_get rows i) (λ (row : ClassRow). is_implemented row.kind) ≡ true) same
        (not_false _ (or_false _ _ (unless_empty (is_forbidden_interface rows before class) v parts.0)).0)
    go (Some class) k e (inr h) ih =
        let parts = both_empty (if is_forbidden_interface rows before class then v ∷ [] else [])
        (forbidden_interfaces names rows (with_kinds before (kinds_of rows class)) ws) e in
        ih (with_kinds before (kinds_of rows class)) parts.1 h

interfaces_allowed : (names : List (List ℕ)) (rows : List ClassRow) (c : WrittenClass) →
    forbidden_supers names rows c ≡ [] → (before : List ℕ) × (forbidden_interfaces names rows before c.implements ≡ [])
unfolding forbidden_supers
interfaces_allowed names rows c e = go c.extends e
  where
    numbered : (w : Written) (o : Option ℕ) →
        elim o as (λ _. List Written) [
          | None ↦ forbidden_interfaces names rows [] c.implements
          | Some class ↦ (if is_forbidden_superclass rows class then w ∷ [] else [])
              ++ forbidden_interfaces names rows (kinds_of rows class) c.implements
        ] ≡ []
        → (before : List ℕ) × (forbidden_interfaces names rows before c.implements ≡ [])
    numbered w None e = ([], e)
    numbered w (Some class) e = (
      kinds_of rows class,
      (both_empty (if is_forbidden_superclass rows class then w ∷ [] else [])
          (forbidden_interfaces names rows (kinds_of rows class) c.implements) e).1,
    )

    go : (o : Option Written) → elim o as (λ _. List Written) [
      | None ↦ forbidden_interfaces names rows [] c.implements
      | Some w ↦ elim (class_number names w.name) as (λ _. List Written) [
        | None ↦ forbidden_interfaces names rows [] c.implements
        | Some class ↦ (if is_forbidden_superclass rows class then w ∷ [] else [])
            ++ forbidden_interfaces names rows (kinds_of rows class) c.implements
      ]
    ] ≡ []
        → (before : List ℕ) × (forbidden_interfaces names rows before c.implements ≡ [])
    go None e = ([], e)
    go (Some w) e = numbered w (class_number names w.name) e

module _ (forest : Forest) (accepted : IsAccepted forest) (whole : IsForest forest) (sorted : IsWellSorted forest.nodes)
  where
    abbrev p : Declarations
    p = declarations_of forest

    abbrev IsInterface : ℕ → Type 0
    IsInterface i = holds (slice_get p.classes i) (λ (row : ClassRow). is_implemented row.kind) ≡ true

    of_user : (class i j : ℕ) (row : ClassRow) → slice_get p.classes class ≡ Some row → IsUserRow p.nodes p.users j row →
        Element i row.interfaces → IsInterface i
    unfolding c10 user_row declarations_of
    of_user class i j row e u h =
        let n = at_class_unbroken forest accepted class row u.class e (written_of forest accepted whole sorted j row u) in
        let q = mapped_in (λ (w : Written). class_number (class_names p.users) w.name) i u.class.implements
        (subst (Element i) (ap (λ (r : ClassRow). r.interfaces) u.is) h) in
        let a =
        interfaces_allowed p.names p.written u.class
        (none_broken _ _ (forbidden_supers p.names p.written u.class) n.forbidden_super) in
        ap (λ rows. holds (slice_get rows i) (λ (row : ClassRow). is_implemented row.kind))
        (counted_is_written forest accepted) ∙ allowed p.names p.written a.0 u.class.implements a.1 q.0 q.1 i q.2

    none_in : (i : ℕ) (xs : List ℕ) → xs ≡ [] → Element i xs → ⊥
    none_in i [] e h = elim h [ ]
    none_in i (x ∷ xs) e h = cc (e)

    own_interface : (class i : ℕ) → Element i (interfaces_in p.classes class) → IsInterface i
    own_interface class i h = go (slice_get p.classes class) refl h
      where
        go : (o : Option ClassRow) → slice_get p.classes class ≡ o →
            Element i (elim o as (λ _. List ℕ) [ None ↦ [] | Some row ↦ row.interfaces ]) → IsInterface i
        go None e h = absurd (none_in i [] refl h)
        go (Some row) e h =
            elim (row_is forest accepted class row e) as (λ z. IsInterface i)
            [ inl f ↦ absurd (none_in i row.interfaces f.implements_nothing h) | inr u ↦ of_user class i u.0 row e u.2 h ]

    is_interface : (class i : ℕ) → is_among i (all_interfaces p.classes class) ≡ true → IsInterface i
    unfolding all_interfaces
    is_interface class i h =
        (let q = flat_in (interfaces_in p.classes) i (superclasses p.classes class)
        (in_among i (all_interfaces p.classes class) h) in own_interface q.0 i q.2)

    periodic_plain : holds (slice_get p.classes periodic_handler) (λ (row : ClassRow). is_implemented row.kind) ≡ false
    unfolding declarations_of written_rows framework_rows_from framework_row framework_classes is_implemented
    periodic_plain = ap (λ rows. holds (slice_get rows periodic_handler) (λ (row : ClassRow). is_implemented row.kind))
        (counted_is_written forest accepted)

    aperiodic_plain : holds (slice_get p.classes aperiodic_handler) (λ (row : ClassRow). is_implemented row.kind) ≡ false
    unfolding declarations_of written_rows framework_rows_from framework_row framework_classes is_implemented
    aperiodic_plain = ap (λ rows. holds (slice_get rows aperiodic_handler) (λ (row : ClassRow). is_implemented row.kind))
        (counted_is_written forest accepted)

    -- no class implements a handler
    pub no_handler_implemented : (class y : ℕ) → (y ≡ periodic_handler) ⊎ (y ≡ aperiodic_handler) →
        is_among y (all_interfaces p.classes class) ≡ true → ⊥
    no_handler_implemented class y (inl e) h =
        true≢false
        (sym (is_interface class y h)
        ∙ ap (λ y. holds (slice_get p.classes y) (λ (row : ClassRow). is_implemented row.kind)) e ∙ periodic_plain)
    no_handler_implemented class y (inr e) h =
        true≢false
        (sym (is_interface class y h)
        ∙ ap (λ y. holds (slice_get p.classes y) (λ (row : ClassRow). is_implemented row.kind)) e ∙ aperiodic_plain)
