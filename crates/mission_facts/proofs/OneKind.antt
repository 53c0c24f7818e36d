-- No class of an accepted program is a mission and implements Runnable or Safelet too (C10).
use Rattle.std.proofs.Common.{arith, ◌≡◌, ℕ, ◌<◌, ◌+◌, List, [], ◌∷◌, ◌++◌, length, filter_map, sym, ap, ◌∙◌, subst, refl, Option, Some, None, Bool, true, false, not, ◌&&◌, ◌==◌, true≢false, ◌⊎◌, inl, inr, option_and_then, slice_get, if◌then◌else◌}
use Rattle.std.specs.List.{list_any}
use Rattle.std.proofs.lemmas.Option.{slice_get_within}
use Rattle.scj_builtins.specs.Framework.{object, mission, framework_classes}
use Rattle.scj_tree.specs.Forest.{Forest, IsForest}
use Rattle.scj_rules.specs.declared.scopes.Written.{Written}
use Rattle.scj_rules.specs.Words.{is_among}
use Rattle.scj_rules.specs.Views.{WrittenClass}
use Rattle.scj_rules.specs.Classes.{ClassRow, class_number, framework_rows_from, user_row, superclass_written, superclass_in, superclasses, interfaces_in, all_interfaces, kinds, is_kind, kinds_of, more_than_one, brings_too_many, with_kinds, is_forbidden_interface, is_forbidden_superclass, forbidden_interfaces, forbidden_supers}
use Rattle.scj_rules.specs.ClassRules.{c10}
use Rattle.scj_rules.specs.Contexts.{Declarations, declarations_of}
use Rattle.scj_rules.specs.Phases.{IsAccepted}
use Rattle.scj_rules.proofs.ChainLemmas.{among-front, or_cases, same_number}
use Rattle.accepted_laws.specs.Sorts.{IsWellSorted}
use Rattle.accepted_laws.proofs.Breaks.{both_empty}
use Rattle.accepted_laws.proofs.ClassNumbers.{framework_count}
use Rattle.accepted_laws.proofs.Dispatch.{written_of}
use Rattle.accepted_laws.proofs.Fields.{In as Element, here as at_head, there as in_tail, in_left, in_filter, in_among}
use Rattle.accepted_laws.proofs.Interfaces.{row_is, flat_in, mapped_in}
use Rattle.accepted_laws.proofs.Rows.{IsUserRow, at_class_unbroken, none_broken, counted_is_written}
use Rattle.accepted_laws.proofs.ScopesOfClasses.{chain_is}
use Rattle.accepted_laws.proofs.Subtypes.{among_in}
use Rattle.accepted_laws.proofs.Tools.{some_inj}
use Rattle.accepted_facts.proofs.OverridingKinds.{or_false}
use Rattle.flow_facts.proofs.SlotScopes.{in_head}
use Rattle.mission_facts.proofs.Lines.{of_framework, under_framework, framework_line}
use Rattle.mission_facts.proofs.Searches.{none_passes, in_back}
use Rattle.mission_facts.proofs.Tests.{none_if, not_other}

-- ---- kinds of which there is one alone

abbrev AllMission : List ℕ → Type 0
AllMission ks = (k : ℕ) → Element k ks → k ≡ mission

-- where no two differ, all are the same
all_same : (ks : List ℕ) → more_than_one ks ≡ false → (j k : ℕ) → Element j ks → Element k ks → j ≡ k
unfolding more_than_one
all_same [] e j k h i = elim h [ ]
all_same (x ∷ ks) e j k h i = first j (in_head j x ks h) ∙ sym (first k (in_head k x ks i))
  where
    first : (m : ℕ) → (x ≡ m) ⊎ Element m ks → m ≡ x
    first m (inl s) = sym s
    first m (inr i) = not_other m x (none_passes (λ m. not (m == x)) ks e m i)

-- what is added to missions alone is missions alone
adds_none : (before added : List ℕ) → brings_too_many before added ≡ false → AllMission before →
    Element mission (before ++ added) → AllMission added
adds_none before added e all m k h = go (list_any (λ k. not (is_among k before)) added) refl e
  where
    inside : (t : Bool) → is_among k before ≡ t → not t ≡ false → k ≡ mission
    inside true s n = all k (in_among k before s)
    inside false s n = absurd (true≢false n)

    go : (t : Bool) → list_any (λ k. not (is_among k before)) added ≡ t →
        (t && more_than_one (before ++ added)) ≡ false →
        k ≡ mission
    go true a e = all_same (before ++ added) e k mission (in_back k before added h) m
    go false a e = inside (is_among k before) refl (none_passes (λ k. not (is_among k before)) added a k h)

with_all : (before added : List ℕ) → AllMission before → AllMission added → AllMission (with_kinds before added)
unfolding with_kinds
with_all before [] all new = all
with_all before (x ∷ added) all new =
    with_all (if is_among x before then before else before ++ (x ∷ [])) added (go (is_among x before))
    (λ k h. new k (in_tail h))
  where
    last : (xs : List ℕ) → AllMission xs → AllMission (xs ++ (x ∷ []))
    last [] a k h = elim (in_head k x [] h) as (λ z. k ≡ mission)
        [ inl s ↦ sym s ∙ new x at_head | inr i ↦ absurd (elim i [ ]) ]
    last (y ∷ xs) a k h = elim (in_head k y (xs ++ (x ∷ [])) h) as (λ z. k ≡ mission)
        [ inl s ↦ sym s ∙ a y at_head | inr i ↦ last xs (λ k h. a k (in_tail h)) k i ]

    go : (t : Bool) → AllMission (if t then before else before ++ (x ∷ []))
    go true = all
    go false = last before all

with_keeps : (before added : List ℕ) (k : ℕ) → Element k before → Element k (with_kinds before added)
unfolding with_kinds
with_keeps before [] k h = h
with_keeps before (x ∷ added) k h =
    with_keeps (if is_among x before then before else before ++ (x ∷ [])) added k (go (is_among x before))
  where
    go : (t : Bool) → Element k (if t then before else before ++ (x ∷ []))
    go true = h
    go false = in_left k before (x ∷ []) h

-- an interface that is named behind a mission class has no other kind
no_other_kind : (names : List (List ℕ)) (rows : List ClassRow) (before : List ℕ) (ws : List Written) →
    forbidden_interfaces names rows before ws ≡ [] → AllMission before → Element mission before → (w : Written) →
    Element w ws → (i : ℕ) → class_number names w.name ≡ Some i → AllMission (kinds_of rows i)
unfolding forbidden_interfaces
no_other_kind names rows before [] e all m w h i n = elim h [ ]
no_other_kind names rows before (v ∷ ws) e all m w h i n =
    go (class_number names v.name) refl e (in_head w v ws h)
    (λ before e all m h. no_other_kind names rows before ws e all m w h i n)
  where
    at : (class : ℕ) → (if is_forbidden_interface rows before class then v ∷ [] else []) ≡ [] →
        AllMission (kinds_of rows class)
    at class e =
        adds_none before (kinds_of rows class)
        (or_false _ (brings_too_many before (kinds_of rows class))
        (none_if (is_forbidden_interface rows before class) v e)).1 all
        (in_left mission before (kinds_of rows class) m)

    go : (o : Option ℕ) → class_number names v.name ≡ o →
        elim o as (λ _. List Written) [
          | None ↦ forbidden_interfaces names rows before ws
          | Some class ↦ (if is_forbidden_interface rows before class then v ∷ [] else [])
              ++ forbidden_interfaces names rows (with_kinds before (kinds_of rows class)) ws
        ] ≡ [] →
        (v ≡ w) ⊎ Element w ws →
        ((before : List ℕ) → forbidden_interfaces names rows before ws ≡ [] → AllMission before →
        Element mission before → Element w ws → AllMission (kinds_of rows i)) →
        AllMission (kinds_of rows i)
    go None a e (inl s) ih =
        absurd (let z : None ≡ Some i = sym a ∙ ap (λ (v : Written). class_number names v.name) s ∙ n in cc (z))
    go None a e (inr k) ih = ih before e all m k
    go (Some class) a e (inl s) ih =
        let same : class ≡ i =
        some_inj class i (sym a ∙ ap (λ (v : Written). class_number names v.name) s ∙ n) in
        subst (λ i. AllMission (kinds_of rows i)) same
        (at class (both_empty (if is_forbidden_interface rows before class then v ∷ [] else [])
        (forbidden_interfaces names rows (with_kinds before (kinds_of rows class)) ws) e).0)
    go (Some class) a e (inr k) ih =
        let parts =
        both_empty (if is_forbidden_interface rows before class then v ∷ [] else [])
        (forbidden_interfaces names rows (with_kinds before (kinds_of rows class)) ws) e in
        ih (with_kinds before (kinds_of rows class)) parts.1
        (with_all before (kinds_of rows class) all (at class parts.0))
        (with_keeps before (kinds_of rows class) mission m) k

-- the superclass that a class names, and its interfaces
pub under_super : (names : List (List ℕ)) (rows : List ClassRow) (c : WrittenClass) (e : Written) (z : ℕ) →
    forbidden_supers names rows c ≡ [] → c.extends ≡ Some e → class_number names e.name ≡ Some z →
    (is_forbidden_superclass rows z ≡ false) × (forbidden_interfaces names rows (kinds_of rows z) c.implements ≡ [])
unfolding forbidden_supers
under_super names rows c e z none extends named =
    let at :
    ((if is_forbidden_superclass rows z then e ∷ [] else [])
    ++ forbidden_interfaces names rows (kinds_of rows z) c.implements) ≡ [] =
    sym (ap (λ (o : Option Written). elim o as (λ _. List Written) [
      | None ↦ forbidden_interfaces names rows [] c.implements
      | Some e ↦ elim (class_number names e.name) as (λ _. List Written) [
        | None ↦ forbidden_interfaces names rows [] c.implements
        | Some class ↦ (if is_forbidden_superclass rows class then e ∷ [] else [])
            ++ forbidden_interfaces names rows (kinds_of rows class) c.implements
      ]
    ]) extends
    ∙ ap (λ (o : Option ℕ). elim o as (λ _. List Written) [
      | None ↦ forbidden_interfaces names rows [] c.implements
      | Some class ↦ (if is_forbidden_superclass rows class then e ∷ [] else [])
          ++ forbidden_interfaces names rows (kinds_of rows class) c.implements
    ]) named) ∙ none in
    let parts =
    both_empty (if is_forbidden_superclass rows z then e ∷ [] else [])
    (forbidden_interfaces names rows (kinds_of rows z) c.implements) at in
    (none_if (is_forbidden_superclass rows z) e parts.0, parts.1)

in_kinds : (rows : List ClassRow) (class k : ℕ) → is_among k (superclasses rows class) ≡ true → is_kind k ≡ true →
    Element k (kinds_of rows class)
unfolding kinds_of
in_kinds rows class k h kind =
    in_filter (λ j. is_among j (superclasses rows class ++ all_interfaces rows class)) k kinds (in_among k kinds kind)
    (among-front k (superclasses rows class) (all_interfaces rows class) h)

module _ (forest : Forest) (accepted : IsAccepted forest) (whole : IsForest forest) (sorted : IsWellSorted forest.nodes)
  where
    abbrev p : Declarations
    p = declarations_of forest

    abbrev next : ℕ → Option ℕ
    next = superclass_in p.classes

    written_same : (class : ℕ) → superclasses p.classes class ≡ superclasses p.written class
    written_same class = ap (λ rows. superclasses rows class) (counted_is_written forest accepted)

    itself : (i : ℕ) → i < length p.classes → is_among i (superclasses p.classes i) ≡ true
    itself i l = among_in i (superclasses p.classes i) (subst (Element i) (sym (chain_is forest accepted i l)) at_head)

    object_alone : is_among mission (superclasses p.classes object) ≡ true → ⊥
    object_alone h =
        elim (framework_line forest accepted whole sorted object mission (omega arith) h) as (λ z. ⊥)
        [ inl s ↦ omega (arith, s) | inr s ↦ omega (arith, s) ]

    -- a class that a user writes: its superclass and interfaces by name
    pub user_supers : (j : ℕ) (row : ClassRow) → (u : IsUserRow p.nodes p.users j row) →
        (row.superclass ≡ superclass_written p.names u.class.extends)
        × (row.interfaces ≡ filter_map (λ (w : Written). class_number p.names w.name) u.class.implements)
    unfolding user_row declarations_of
    user_supers j row u = (ap (λ (r : ClassRow). r.superclass) u.is, ap (λ (r : ClassRow). r.interfaces) u.is)

    -- a user's mission class implements no interface of another kind
    of_user : (y j i : ℕ) (row : ClassRow) → slice_get p.classes y ≡ Some row →
        (y ≡ length (framework_rows_from 0 framework_classes) + j) → (u : IsUserRow p.nodes p.users j row) →
        i < length p.classes → is_among mission (superclasses p.classes y) ≡ true → is_kind i ≡ true → (w : Written) →
        Element w u.class.implements → class_number p.names w.name ≡ Some i → i ≡ mission
    unfolding superclass_written c10
    of_user y j i row stands behind u few h kind w among named = by_super (next y) refl
      where
        is : row.written ≡ Some u.class
        is = written_of forest accepted whole sorted j row u

        none : forbidden_supers p.names p.written u.class ≡ []
        none = none_broken _ _ (forbidden_supers p.names p.written u.class)
            (at_class_unbroken forest accepted y row u.class stands is).forbidden_super

        super_is : next y ≡ superclass_written p.names u.class.extends
        super_is = ap (λ (o : Option ClassRow). option_and_then (λ (row : ClassRow). row.superclass) o) stands
            ∙ (user_supers j row u).0

        above : (z : ℕ) → next y ≡ Some z → is_among mission (superclasses p.classes z) ≡ true
        above z e =
            elim (or_cases (mission == y) (is_among mission (superclasses p.classes z))
            (ap (is_among mission) (sym (chain_is forest accepted y (slice_get_within p.classes y row stands)
            ∙ ap (λ (o : Option ℕ). y ∷ (elim o as (λ _. List ℕ)
            [ None ↦ [] | Some b ↦ superclasses p.classes b ])) e)) ∙ h))
            as (λ z'. is_among mission (superclasses p.classes z) ≡ true) [
              | inl s ↦ absurd (let same = same_number mission y s in let n = framework_count in
                  omega (arith, same, behind, n))
              | inr s ↦ s
            ]

        by_name : (z : ℕ) → next y ≡ Some z → (e : Written) → u.class.extends ≡ Some e →
            class_number p.names e.name ≡ Some z → i ≡ mission
        by_name z up e extends number =
            let m : Element mission (kinds_of p.written z) =
            in_kinds p.written z mission (ap (is_among mission) (sym (written_same z)) ∙ above z up) refl in
            let rules = under_super p.names p.written u.class e z none extends number in
            let all : AllMission (kinds_of p.written z) =
            adds_none [] (kinds_of p.written z)
            (or_false _ (brings_too_many [] (kinds_of p.written z)) rules.0).1 (λ k h. absurd (elim h [ ])) m in
            no_other_kind p.names p.written (kinds_of p.written z) u.class.implements rules.1 all m w among i named i
            (in_kinds p.written i i (ap (is_among i) (sym (written_same i)) ∙ itself i few) kind)

        by_extends : (z : ℕ) → next y ≡ Some z → (o : Option Written) → u.class.extends ≡ o → i ≡ mission
        by_extends z up None extends =
            let e : z ≡ object =
            some_inj z object (sym up ∙ super_is ∙ ap (superclass_written p.names) extends) in
            absurd (object_alone (ap (λ y. is_among mission (superclasses p.classes y)) (sym e) ∙ above z up))
        by_extends z up (Some e) extends =
            by_name z up e extends (sym (super_is ∙ ap (superclass_written p.names) extends) ∙ up)

        by_super : (o : Option ℕ) → next y ≡ o → i ≡ mission
        by_super (Some z) e = by_extends z e u.class.extends refl
        by_super None e =
            absurd (elim (or_cases (mission == y) false
            (ap (is_among mission) (sym (chain_is forest accepted y (slice_get_within p.classes y row stands)
            ∙ ap (λ (o : Option ℕ). y ∷ (elim o as (λ _. List ℕ)
            [ None ↦ [] | Some b ↦ superclasses p.classes b ])) e)) ∙ h)) as (λ z. ⊥) [
              | inl s ↦ (let same = same_number mission y s in let n = framework_count in
                  omega (arith, same, behind, n))
              | inr s ↦ true≢false (sym s)
            ])

    -- no class is a mission and of the kind of an interface too
    pub not_two_kinds : (class i : ℕ) → class < length p.classes → i < 16 → is_kind i ≡ true → (i ≡ mission → ⊥) →
        is_among mission (superclasses p.classes class) ≡ true → is_among i (all_interfaces p.classes class) ≡ true → ⊥
    unfolding all_interfaces
    not_two_kinds class i l few kind differ m h =
        let q = flat_in (interfaces_in p.classes) i (superclasses p.classes class)
        (in_among i (all_interfaces p.classes class) h) in
        by_row q.0 (among_in q.0 (superclasses p.classes class) q.1) (slice_get p.classes q.0) refl q.2
      where
        none : (row : ClassRow) → row.interfaces ≡ [] → Element i row.interfaces → ⊥
        none row e h = empty (subst (Element i) e h)
          where
            empty : Element i [] → ⊥
            empty h = elim h [ ]

        by_row : (y : ℕ) → is_among y (superclasses p.classes class) ≡ true → (o : Option ClassRow) →
            slice_get p.classes y ≡ o →
            Element i (elim o as (λ _. List ℕ) [ None ↦ [] | Some row ↦ row.interfaces ]) → ⊥
        by_row y a None e h = elim h [ ]
        by_row y a (Some row) e h = elim (row_is forest accepted y row e) as (λ z. ⊥) [
          | inl f ↦ none row f.implements_nothing h
          | inr u ↦
              (let is : row.written ≡ Some u.2.class = written_of forest accepted whole sorted u.0 row u.2 in
              let under = under_framework forest accepted whole sorted class y mission row u.2.class l a m
              (omega arith) e is
              in
              let w = mapped_in (λ (w : Written). class_number p.names w.name) i u.2.class.implements
              (subst (Element i) (user_supers u.0 row u.2).1 h) in
              differ (of_user y u.0 i row e u.1 u.2 (known i few) under kind w.0 w.1 w.2))
        ]
          where
            known : (i : ℕ) → i < 16 → i < length p.classes
            known i l = (let f = of_framework forest accepted whole sorted i l in slice_get_within p.classes i f.0 f.1)
