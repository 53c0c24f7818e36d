-- What classes of an accepted program name in their headers (C10): a class after `extends`, interfaces after
-- `implements`. So a class is under a class of the framework by superclasses alone, and under an interface of it by the
-- interfaces of the chain.
use Rattle.std.proofs.Common.{arith, ◌≡◌, ℕ, List, [], ◌∷◌, ◌++◌, length, map, sym, ap, ◌∙◌, subst, refl, Option, Some, None, true, true≢false, ◌⊎◌, inl, inr, option_and_then, slice_get, if◌then◌else◌}
use Rattle.scj_builtins.specs.Framework.{object, safelet, mission, mission_sequencer, framework_classes}
use Rattle.scj_tree.specs.Forest.{Forest, IsForest}
use Rattle.scj_rules.specs.declared.scopes.Written.{Written}
use Rattle.scj_rules.specs.Chains.{Follows, one, more}
use Rattle.scj_rules.specs.Words.{is_among, holds}
use Rattle.scj_rules.specs.Views.{WrittenClass}
use Rattle.scj_rules.specs.Classes.{ClassRow, class_number, framework_row, framework_rows_from, user_row, written_rows, superclass_written, superclass_in, superclasses, interfaces_in, all_interfaces, is_sub, kinds_of, with_kinds, brings_too_many, is_implemented, is_extended, is_forbidden_interface, is_forbidden_superclass, forbidden_interfaces, forbidden_supers}
use Rattle.scj_rules.specs.ClassRules.{c10}
use Rattle.scj_rules.specs.Contexts.{Declarations, declarations_of}
use Rattle.scj_rules.specs.Phases.{IsAccepted}
use Rattle.scj_rules.proofs.ChainLemmas.{or_cases, on_chain_follows}
use Rattle.accepted_laws.specs.Sorts.{IsWellSorted}
use Rattle.accepted_laws.proofs.Breaks.{both_empty}
use Rattle.accepted_laws.proofs.ClassChains.{top_row}
use Rattle.accepted_laws.proofs.Subtypes.{among_in}
use Rattle.accepted_laws.proofs.Dispatch.{written_of}
use Rattle.accepted_laws.proofs.Fields.{In as Element, in_among}
use Rattle.accepted_laws.proofs.Interfaces.{row_is, flat_in, mapped_in}
use Rattle.accepted_laws.proofs.Lists.{get_left}
use Rattle.accepted_laws.proofs.Rows.{IsUserRow, at_class_unbroken, none_broken}
use Rattle.accepted_laws.proofs.Tools.{some_inj}
use Rattle.accepted_facts.proofs.OverridingKinds.{or_false}
use Rattle.flow_facts.proofs.SlotScopes.{in_head}
use Rattle.mission_facts.proofs.Lines.{framework_line}
use Rattle.mission_facts.proofs.OneKind.{under_super, user_supers}
use Rattle.accepted_laws.proofs.MethodNodes.{not_false}
use Rattle.mission_facts.proofs.Tests.{none_if}

abbrev Implemented : List ClassRow → ℕ → Type 0
Implemented rows i = holds (slice_get rows i) (λ (row : ClassRow). is_implemented row.kind) ≡ true

-- the names after `implements` are interfaces'
named_interface : (names : List (List ℕ)) (rows : List ClassRow) (before : List ℕ) (ws : List Written) →
    forbidden_interfaces names rows before ws ≡ [] → (w : Written) → Element w ws → (i : ℕ) →
    class_number names w.name ≡ Some i → Implemented rows i
unfolding forbidden_interfaces
named_interface names rows before [] e w h i n = elim h [ ]
named_interface names rows before (v ∷ ws) e w h i n =
    go (class_number names v.name) refl e (in_head w v ws h)
    (λ before e h. named_interface names rows before ws e w h i n)
  where
    go : (o : Option ℕ) → class_number names v.name ≡ o →
        elim o as (λ _. List Written) [
          | None ↦ forbidden_interfaces names rows before ws
          | Some class ↦ (if is_forbidden_interface rows before class then v ∷ [] else [])
              ++ forbidden_interfaces names rows (with_kinds before (kinds_of rows class)) ws
        ] ≡ [] →
        (v ≡ w) ⊎ Element w ws →
        ((before : List ℕ) → forbidden_interfaces names rows before ws ≡ [] → Element w ws → Implemented rows i) →
        Implemented rows i
    go None a e (inl s) ih =
        absurd (let z : None ≡ Some i = sym a ∙ ap (λ (v : Written). class_number names v.name) s ∙ n in cc (z))
    go None a e (inr k) ih = ih before e k
    go (Some class) a e (inl s) ih =
        let same : class ≡ i =
        some_inj class i (sym a ∙ ap (λ (v : Written). class_number names v.name) s ∙ n) in
        let none =
        none_if (is_forbidden_interface rows before class) v
        (both_empty (if is_forbidden_interface rows before class then v ∷ [] else [])
        (forbidden_interfaces names rows (with_kinds before (kinds_of rows class)) ws) e).0 in
        subst (Implemented rows) same
        (not_false (holds (slice_get rows class) (λ (row : ClassRow). is_implemented row.kind))
        (or_false _ (brings_too_many before (kinds_of rows class)) none).0)
    go (Some class) a e (inr k) ih =
        ih (with_kinds before (kinds_of rows class))
        (both_empty (if is_forbidden_interface rows before class then v ∷ [] else [])
        (forbidden_interfaces names rows (with_kinds before (kinds_of rows class)) ws) e).1 k

-- of a class, whatever its superclass is
interfaces_right : (names : List (List ℕ)) (rows : List ClassRow) (c : WrittenClass) →
    forbidden_supers names rows c ≡ [] →
    (before : List ℕ) × (forbidden_interfaces names rows before c.implements ≡ [])
unfolding forbidden_supers
interfaces_right names rows c e = go c.extends e
  where
    numbered : (w : Written) (o : Option ℕ) →
        elim o as (λ _. List Written) [
          | None ↦ forbidden_interfaces names rows [] c.implements
          | Some class ↦ (if is_forbidden_superclass rows class then w ∷ [] else [])
              ++ forbidden_interfaces names rows (kinds_of rows class) c.implements
        ] ≡ [] →
        (before : List ℕ) × (forbidden_interfaces names rows before c.implements ≡ [])
    numbered w None e = ([], e)
    numbered w (Some class) e = (
      kinds_of rows class,
      (both_empty (if is_forbidden_superclass rows class then w ∷ [] else [])
          (forbidden_interfaces names rows (kinds_of rows class) c.implements) e).1,
    )

    go : (o : Option Written) →
        elim o as (λ _. List Written) [
          | None ↦ forbidden_interfaces names rows [] c.implements
          | Some w ↦ elim (class_number names w.name) as (λ _. List Written) [
            | None ↦ forbidden_interfaces names rows [] c.implements
            | Some class ↦ (if is_forbidden_superclass rows class then w ∷ [] else [])
                ++ forbidden_interfaces names rows (kinds_of rows class) c.implements
          ]
        ] ≡ [] →
        (before : List ℕ) × (forbidden_interfaces names rows before c.implements ≡ [])
    go None e = ([], e)
    go (Some w) e = numbered w (class_number names w.name) e

last_step : (next : ℕ → Option ℕ) (a b : ℕ) → Follows next a b → (y : ℕ) × (next y ≡ Some b)
last_step next a b (one e) = (a, e)
last_step next a b (more e f) = last_step next _ b f

module _ (forest : Forest) (accepted : IsAccepted forest) (whole : IsForest forest) (sorted : IsWellSorted forest.nodes)
  where
    abbrev p : Declarations
    p = declarations_of forest

    abbrev next : ℕ → Option ℕ
    next = superclass_in p.classes

    unbroken : (y j : ℕ) (row : ClassRow) → slice_get p.classes y ≡ Some row → (u : IsUserRow p.nodes p.users j row) →
        forbidden_supers p.names p.written u.class ≡ []
    unfolding c10
    unbroken y j row stands u =
        none_broken _ _ (forbidden_supers p.names p.written u.class)
        (at_class_unbroken forest accepted y row u.class stands
        (written_of forest accepted whole sorted j row u)).forbidden_super

    -- an interface of a class is one
    interface_is : (class i : ℕ) → is_among i (all_interfaces p.classes class) ≡ true → Implemented p.written i
    unfolding all_interfaces
    interface_is class i h =
        let q = flat_in (interfaces_in p.classes) i (superclasses p.classes class)
        (in_among i (all_interfaces p.classes class) h) in
        by_row q.0 (slice_get p.classes q.0) refl q.2
      where
        none : (is : List ℕ) → is ≡ [] → Element i is → Implemented p.written i
        none [] e h = elim h [ ]
        none (x ∷ xs) e h = absurd (cc (e))

        by_row : (y : ℕ) → (o : Option ClassRow) → slice_get p.classes y ≡ o →
            Element i (elim o as (λ _. List ℕ) [ None ↦ [] | Some row ↦ row.interfaces ]) → Implemented p.written i
        by_row y None e h = elim h [ ]
        by_row y (Some row) e h = elim (row_is forest accepted y row e) as (λ z. Implemented p.written i) [
          | inl f ↦ none row.interfaces f.implements_nothing h
          | inr u ↦
              (let w = mapped_in (λ (w : Written). class_number p.names w.name) i u.2.class.implements
              (subst (Element i) (user_supers forest accepted whole sorted u.0 row u.2).1 h) in
              let r = interfaces_right p.names p.written u.2.class (unbroken y u.0 row e u.2) in
              named_interface p.names p.written r.0 u.2.class.implements r.1 w.0 w.1 i w.2)
        ]

    -- a class's superclass is a class
    superclass_is : (y z : ℕ) → next y ≡ Some z → (z ≡ object → ⊥) →
        holds (slice_get p.written z) (λ (row : ClassRow). is_extended row.kind) ≡ true
    unfolding superclass_written
    superclass_is y z e other = by_row (slice_get p.classes y) refl e
      where
        of_user : (j : ℕ) (row : ClassRow) → slice_get p.classes y ≡ Some row → (u : IsUserRow p.nodes p.users j row) →
            (o : Option Written) → u.class.extends ≡ o → superclass_written p.names o ≡ Some z →
            holds (slice_get p.written z) (λ (row : ClassRow). is_extended row.kind) ≡ true
        of_user j row stands u None extends k = absurd (other (some_inj z object (sym k)))
        of_user j row stands u (Some w) extends k =
            let r = under_super p.names p.written u.class w z (unbroken y j row stands u) extends k in
            not_false (holds (slice_get p.written z) (λ (row : ClassRow). is_extended row.kind))
            (or_false _ (brings_too_many [] (kinds_of p.written z)) r.0).0

        by_row : (o : Option ClassRow) → slice_get p.classes y ≡ o →
            option_and_then (λ (row : ClassRow). row.superclass) o ≡ Some z →
            holds (slice_get p.written z) (λ (row : ClassRow). is_extended row.kind) ≡ true
        by_row None s k = absurd (cc (k))
        by_row (Some row) s k = elim (row_is forest accepted y row s)
            as (λ x. holds (slice_get p.written z) (λ (row : ClassRow). is_extended row.kind) ≡ true) [
              | inl f ↦ absurd (elim f.extends_object as (λ x. ⊥) [
                | inl t ↦ other (some_inj z object (sym k ∙ t))
                | inr t ↦ (let n : None ≡ Some z = sym t.0 ∙ k in cc (n))
              ])
              | inr u ↦ of_user u.0 row s u.2 u.2.class.extends refl
                  (sym (user_supers forest accepted whole sorted u.0 row u.2).0 ∙ k)
            ]

    -- ---- the framework's

    -- the row of a class of the framework
    in_table : (i : ℕ) (row : ClassRow) → slice_get (framework_rows_from 0 framework_classes) i ≡ Some row →
        slice_get p.written i ≡ Some row
    unfolding declarations_of written_rows
    in_table i row e =
        get_left (framework_rows_from 0 framework_classes) (map (user_row p.nodes p.names) p.users) i row e

    mission_kind : Implemented p.written mission → ⊥
    unfolding framework_rows_from framework_row framework_classes is_implemented
    mission_kind e =
        true≢false (sym e ∙ ap (λ (o : Option ClassRow). holds o (λ (row : ClassRow). is_implemented row.kind))
        (in_table mission _ refl))

    sequencer_kind : Implemented p.written mission_sequencer → ⊥
    unfolding framework_rows_from framework_row framework_classes is_implemented
    sequencer_kind e =
        true≢false (sym e ∙ ap (λ (o : Option ClassRow). holds o (λ (row : ClassRow). is_implemented row.kind))
        (in_table mission_sequencer _ refl))

    safelet_kind : holds (slice_get p.written safelet) (λ (row : ClassRow). is_extended row.kind) ≡ true → ⊥
    unfolding framework_rows_from framework_row framework_classes is_extended
    safelet_kind e =
        true≢false (sym e ∙ ap (λ (o : Option ClassRow). holds o (λ (row : ClassRow). is_extended row.kind))
        (in_table safelet _ refl))

    pub under_mission : (class : ℕ) → is_sub p.classes class mission ≡ true →
        is_among mission (superclasses p.classes class) ≡ true
    unfolding is_sub
    under_mission class h =
        elim (or_cases (is_among mission (superclasses p.classes class))
        (is_among mission (all_interfaces p.classes class)) h)
        as (λ z. is_among mission (superclasses p.classes class) ≡ true)
        [ inl s ↦ s | inr s ↦ absurd (mission_kind (interface_is class mission s)) ]

    pub under_sequencer : (class : ℕ) → is_sub p.classes class mission_sequencer ≡ true →
        is_among mission_sequencer (superclasses p.classes class) ≡ true
    unfolding is_sub
    under_sequencer class h =
        elim (or_cases (is_among mission_sequencer (superclasses p.classes class))
        (is_among mission_sequencer (all_interfaces p.classes class)) h)
        as (λ z. is_among mission_sequencer (superclasses p.classes class) ≡ true)
        [ inl s ↦ s | inr s ↦ absurd (sequencer_kind (interface_is class mission_sequencer s)) ]

    -- of a class that isn't Safelet itself
    pub under_safelet : (class : ℕ) → (class ≡ safelet → ⊥) → is_sub p.classes class safelet ≡ true →
        is_among safelet (all_interfaces p.classes class) ≡ true
    unfolding is_sub superclasses
    under_safelet class other h =
        elim (or_cases (is_among safelet (superclasses p.classes class))
        (is_among safelet (all_interfaces p.classes class)) h)
        as (λ z. is_among safelet (all_interfaces p.classes class) ≡ true)
        [ inl s ↦ absurd (go (on_chain_follows next safelet class (length p.classes) s)) | inr s ↦ s ]
      where
        go : (class ≡ safelet) ⊎ Follows next class safelet → ⊥
        go (inl e) = other e
        go (inr f) =
            (let y = last_step next class safelet f in
            safelet_kind (superclass_is y.0 safelet y.1 (λ e. omega (arith, e))))

    -- Object isn't under Safelet
    pub object_no_safelet : is_sub p.classes object safelet ≡ true → ⊥
    unfolding is_sub all_interfaces
    object_no_safelet h =
        elim (or_cases (is_among safelet (superclasses p.classes object))
        (is_among safelet (all_interfaces p.classes object)) h) as (λ z. ⊥) [
          | inl s ↦ elim (framework_line forest accepted whole sorted object safelet (omega arith) s) as (λ z. ⊥)
              [ inl e ↦ omega (arith, e) | inr e ↦ omega (arith, e) ]
          | inr s ↦
              (let q = flat_in (interfaces_in p.classes) safelet (superclasses p.classes object)
              (in_among safelet (all_interfaces p.classes object) s) in
              let same = framework_line forest accepted whole sorted object q.0 (omega arith)
              (among_in q.0 (superclasses p.classes object) q.1) in
              let at : q.0 ≡ object = elim same as (λ z. q.0 ≡ object) [ inl e ↦ e | inr e ↦ e ] in
              none (subst (λ y. Element safelet (interfaces_in p.classes y)) at q.2))
        ]
      where
        empty : Element safelet [] → ⊥
        empty h = elim h [ ]

        none : Element safelet (interfaces_in p.classes object) → ⊥
        none h =
            let r = top_row forest accepted in
            empty (subst (Element safelet)
            (ap (λ (o : Option ClassRow). elim o as (λ _. List ℕ) [ None ↦ [] | Some row ↦ row.interfaces ]) r.1
            ∙ r.3) h)
