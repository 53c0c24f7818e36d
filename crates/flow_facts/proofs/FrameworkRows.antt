-- What stands above a class of the framework is of the framework, so that fields and users' methods are reached through
-- superclasses alone.
use Rattle.std.proofs.Common.{◌≡◌, ℕ, ◌<◌, List, [], ◌∷◌, length, find, sym, ap, ◌∙◌, subst, Option, Some, None, true, false, true≢false, ◌⊎◌, inl, inr, ◌==◌, option_and_then, option_map, is_some, slice_get}
use Rattle.std.proofs.lemmas.Option.{slice_get_within}
use Rattle.scj_base.specs.Bytes.{is_same}
use Rattle.scj_builtins.specs.Framework.{object}
use Rattle.scj_tree.specs.Forest.{Forest, IsForest}
use Rattle.scj_rules.specs.declared.typing.FoundField.{FoundField}
use Rattle.scj_rules.specs.declared.views.Declared.{Declared}
use Rattle.scj_rules.specs.Words.{is_among}
use Rattle.scj_rules.specs.Classes.{ClassRow, FoundMethod, superclass_in, superclasses, all_interfaces, is_sub, own_field, field_named, method_named}
use Rattle.scj_rules.specs.Contexts.{Declarations, declarations_of}
use Rattle.scj_rules.specs.Phases.{IsAccepted}
use Rattle.scj_rules.proofs.ChainLemmas.{or_cases, same_number}
use Rattle.accepted_laws.specs.Sorts.{IsWellSorted}
use Rattle.accepted_laws.proofs.ClassChains.{top_row}
use Rattle.accepted_laws.proofs.Dispatch.{on_superclass, written_of}
use Rattle.accepted_laws.proofs.Fields.{along_in}
use Rattle.accepted_laws.proofs.Interfaces.{row_is, interface_of_framework, own_of_framework}
use Rattle.accepted_laws.proofs.Rows.{IsFrameworkRow}
use Rattle.accepted_laws.proofs.ScopesOfClasses.{chain_is}
use Rattle.accepted_laws.proofs.Subtypes.{among_in}

module _ (forest : Forest) (accepted : IsAccepted forest) (whole : IsForest forest) (sorted : IsWellSorted forest.nodes)
  where
    abbrev p : Declarations
    p = declarations_of forest

    abbrev next : ℕ → Option ℕ
    next = superclass_in p.classes

    abbrev pub IsOfFramework : ℕ → Type 0
    IsOfFramework i = (row : ClassRow) × (slice_get p.classes i ≡ Some row) × IsFrameworkRow i row

    pub object_of_framework : IsOfFramework object
    object_of_framework =
        let r = top_row forest accepted in
        elim (row_is forest accepted object r.0 r.1) as (λ z. IsOfFramework object) [
          | inl k ↦ (r.0, r.1, k)
          | inr u ↦ absurd (let z : None ≡ Some u.2.class = sym r.4 ∙ written_of forest accepted whole sorted u.0 r.0 u.2
              in cc (z))
        ]

    object_chain : (a : ℕ) → next a ≡ None → a < length p.classes → superclasses p.classes a ≡ a ∷ []
    object_chain a n l = chain_is forest accepted a l
        ∙ ap (λ (o : Option ℕ). a ∷ (elim o as (λ _. List ℕ) [ None ↦ [] | Some b ↦ superclasses p.classes b ])) n

    one_of : (y a : ℕ) → is_among y (a ∷ []) ≡ true → y ≡ a
    one_of y a h =
        elim (or_cases (y == a) (is_among y []) h) as (λ z. y ≡ a)
        [ inl e ↦ same_number y a e | inr e ↦ absurd (true≢false (sym e)) ]

    next_is : (a : ℕ) (row : ClassRow) → slice_get p.classes a ≡ Some row → next a ≡ row.superclass
    next_is a row e = ap (λ (o : Option ClassRow). option_and_then (λ (row : ClassRow). row.superclass) o) e

    -- what stands above a class of the framework: itself, or Object
    pub above_is : (i y : ℕ) → IsOfFramework i → is_among y (superclasses p.classes i) ≡ true → (y ≡ i) ⊎ (y ≡ object)
    above_is i y f h = by_super f.2.extends_object
      where
        l : i < length p.classes
        l = slice_get_within p.classes i f.0 f.1

        top : (row : ClassRow) × (slice_get p.classes object ≡ Some row) × (row.superclass ≡ None) ×
            (row.interfaces ≡ []) × (row.written ≡ None)
        top = top_row forest accepted

        object_row : superclasses p.classes object ≡ object ∷ []
        object_row =
            object_chain object (next_is object top.0 top.1 ∙ top.2) (slice_get_within p.classes object top.0 top.1)

        two : ((y == i) ≡ true) ⊎ (is_among y (object ∷ []) ≡ true) → (y ≡ i) ⊎ (y ≡ object)
        two (inl e) = inl (same_number y i e)
        two (inr e) = inr (one_of y object e)

        by_super : (f.0.superclass ≡ Some object) ⊎ ((f.0.superclass ≡ None) × (i ≡ object)) → (y ≡ i) ⊎ (y ≡ object)
        by_super (inl s) =
            let chain : superclasses p.classes i ≡ i ∷ (object ∷ []) = chain_is forest accepted i l
            ∙ ap (λ (o : Option ℕ). i ∷ (elim o as (λ _. List ℕ) [ None ↦ [] | Some b ↦ superclasses p.classes b ]))
            (next_is i f.0 f.1 ∙ s) ∙ ap (λ xs. i ∷ xs) object_row in
            two (or_cases (y == i) (is_among y (object ∷ [])) (ap (is_among y) (sym chain) ∙ h))
        by_super (inr s) = inl (one_of y i (ap (is_among y) (sym (object_chain i (next_is i f.0 f.1 ∙ s.0) l)) ∙ h))

    pub above_framework : (i y : ℕ) → IsOfFramework i → is_among y (superclasses p.classes i) ≡ true → IsOfFramework y
    above_framework i y f h =
        elim (above_is i y f h) as (λ z. IsOfFramework y) [
          | inl e ↦ subst IsOfFramework (sym e) f
          | inr e ↦ subst IsOfFramework (sym e) object_of_framework
        ]

    no_own_field : (y : ℕ) (name : List ℕ) (f : FoundField) → IsOfFramework y → own_field p.classes name y ≡ Some f → ⊥
    unfolding own_field
    no_own_field y name f k e =
        let none : own_field p.classes name y ≡ None
        = ap (λ (o : Option ClassRow). option_map (λ (d : Declared). record { on = y; field = d })
        (option_and_then (λ (row : ClassRow). find (λ (d : Declared). is_same name d.name) row.fields) o)) k.1
        ∙ ap (λ (ds : List Declared). option_map (λ (d : Declared). record { on = y; field = d })
        (find (λ (d : Declared). is_same name d.name) ds)) k.2.declares_nothing in
        let z : None ≡ Some f = sym none ∙ e in cc (z)

    -- a class with a field is reached through superclasses
    pub field_reached : (c class : ℕ) (name : List ℕ) (f : FoundField) → is_sub p.classes c class ≡ true →
        field_named p.classes class name ≡ Some f → is_among class (superclasses p.classes c) ≡ true
    unfolding is_sub field_named
    field_reached c class name f sub e =
        elim (or_cases (is_among class (superclasses p.classes c)) (is_among class (all_interfaces p.classes c)) sub) as
        (λ z. is_among class (superclasses p.classes c) ≡ true) [
          | inl h ↦ h
          | inr h ↦ absurd (
              let k = interface_of_framework forest accepted c class h in
              let q = along_in (own_field p.classes name) (superclasses p.classes class) f e in
              no_own_field q.0 name f (above_framework class q.0 k (among_in q.0 (superclasses p.classes class) q.1)) q.2)
        ]

    -- no class of the framework has a user's method
    pub no_user_method : (class : ℕ) (name : List ℕ) (f : FoundMethod) → IsOfFramework class →
        method_named p.classes class name ≡ Some f → is_some f.method.builtin ≡ false → ⊥
    no_user_method class name f k e b =
        let q = on_superclass forest accepted whole sorted class name f e b in
        let y = above_framework class q.0 k (among_in q.0 (superclasses p.classes class) q.1) in
        true≢false (sym (own_of_framework forest accepted q.0 y.0 name f y.1 y.2 q.2) ∙ b)

    -- a class with a user's method is reached through superclasses
    pub method_reached : (c class : ℕ) (name : List ℕ) (f : FoundMethod) → is_sub p.classes c class ≡ true →
        method_named p.classes class name ≡ Some f → is_some f.method.builtin ≡ false →
        is_among class (superclasses p.classes c) ≡ true
    unfolding is_sub
    method_reached c class name f sub e b =
        elim (or_cases (is_among class (superclasses p.classes c)) (is_among class (all_interfaces p.classes c)) sub) as
        (λ z. is_among class (superclasses p.classes c) ≡ true) [
          | inl h ↦ h
          | inr h ↦ absurd (no_user_method class name f (interface_of_framework forest accepted c class h) e b)
        ]
