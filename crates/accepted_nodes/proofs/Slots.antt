-- Fields have numbers, and each object of a class has a slot for the fields of the class and of those above it.
use Rattle.std.proofs.Common.{◌≡◌, ℕ, ◌+◌, ◌<◌, zero, suc, List, [], ◌∷◌, ◌++◌, length, map, filter, flat_map, find, reverse, position, refl, sym, ap, ◌∙◌, subst, arith, Option, Some, None, Bool, true, false, not, true≢false, ◌⊎◌, inl, inr, ◌==◌, option_and_then, option_map, slice_get, if◌then◌else◌}
use Rattle.std.proofs.lemmas.Bool.Decides.{nat_tests}
use mathlib.Core.List.{reverse_aux}
use Rattle.scj_base.specs.Bytes.{is_same}
use Rattle.scj_tree.specs.Forest.{Forest, IsForest}
use Rattle.scj_rules.specs.declared.typing.FoundField.{FoundField}
use Rattle.scj_rules.specs.declared.views.Declared.{Declared}
use Rattle.scj_rules.specs.Words.{is_among}
use Rattle.scj_rules.specs.Views.{field_at}
use Rattle.scj_rules.specs.Classes.{ClassRow, superclasses, own_field, field_named, field_nodes, field_number, own_instance_fields, instance_fields}
use Rattle.scj_rules.specs.Contexts.{Declarations, declarations_of}
use Rattle.scj_rules.specs.Layout.{declared_fields, field_numbered}
use Rattle.scj_rules.specs.Phases.{IsAccepted}
use Rattle.scj_rules.proofs.WithinLemmas.{counted-stays}
use Rattle.accepted_laws.specs.Sorts.{IsWellSorted}
use Rattle.accepted_laws.proofs.Fields.{In, here, there, in_flat, in_find, along_in, slot_in, position-cons}
use Rattle.accepted_laws.proofs.Interfaces.{flat_in}
use Rattle.accepted_laws.proofs.Subtypes.{above_below}
use Rattle.accepted_laws.proofs.Tools.{some_inj}
use Rattle.accepted_nodes.specs.Members.{HasNumber, HasSlot}
use Rattle.accepted_nodes.proofs.FoundMembers.{field_found, row_field, in_filtered}

-- ---- elements of lists

in_get : {A : Type 0} (xs : List A) (x : A) → In x xs → (k : ℕ) × (slice_get xs k ≡ Some x)
in_get [] x h = elim h [ ]
in_get (y ∷ xs) x here = (0, refl)
in_get (y ∷ xs) x (there h) = (let q = in_get xs x h in (suc q.0, q.1))

pub get_in : {A : Type 0} (xs : List A) (k : ℕ) (x : A) → slice_get xs k ≡ Some x → In x xs
get_in [] k x e = absurd (cc (e))
get_in (y ∷ xs) zero x e = subst (λ z. In z (y ∷ xs)) (some_inj y x e) here
get_in (y ∷ xs) (suc k) x e = there (get_in xs k x e)

in_head : {A : Type 0} (x y : A) (xs : List A) → In x (y ∷ xs) → (y ≡ x) ⊎ In x xs
in_head x y xs here = inl refl
in_head x y xs (there h) = inr h

in_aux : {A : Type 0} (x : A) (xs ys : List A) → In x (reverse_aux xs ys) → In x xs ⊎ In x ys
in_aux x [] ys h = inr h
in_aux x (y ∷ xs) ys h = elim (in_aux x xs (y ∷ ys) h) as (λ z. In x (y ∷ xs) ⊎ In x ys) [
  | inl k ↦ inl (there k)
  | inr k ↦ elim (in_head x y ys k) as (λ z. In x (y ∷ xs) ⊎ In x ys) [ inl e ↦ inl (subst (λ z. In z (y ∷ xs)) e here) | inr m ↦ inr m ]
]

in_reversed : {A : Type 0} (x : A) (xs : List A) → In x (reverse xs) → In x xs
in_reversed x xs h = elim (in_aux x xs [] h) as (λ z. In x xs) [ inl k ↦ k | inr k ↦ absurd (elim k [ ]) ]

map_both : {A B : Type 0} (f : A → B) (xs ys : List A) → map f (xs ++ ys) ≡ map f xs ++ map f ys
map_both f [] ys = refl
map_both f (x ∷ xs) ys = ap (λ zs. f x ∷ zs) (map_both f xs ys)

get_mapped : {A B : Type 0} (f : A → B) (xs : List A) (k : ℕ) (y : B) → slice_get (map f xs) k ≡ Some y → (x : A) × (slice_get xs k ≡ Some x) × (f x ≡ y)
get_mapped f [] k y e = absurd (cc (e))
get_mapped f (x ∷ xs) zero y e = (x, refl, some_inj (f x) y e)
get_mapped f (x ∷ xs) (suc k) y e = get_mapped f xs k y e

in_map : {A B : Type 0} (f : A → B) (x : A) (xs : List A) → In x xs → In (f x) (map f xs)
in_map f x [] h = elim h [ ]
in_map f x (y ∷ xs) here = here
in_map f x (y ∷ xs) (there h) = there (in_map f x xs h)

-- a number that is there has a position, at which it stands
pub position_there : (x : ℕ) (xs : List ℕ) → In x xs → (k : ℕ) × (position (λ other. x == other) xs ≡ Some k)
position_there x [] h = elim h [ ]
position_there x (y ∷ xs) h = go (x == y) refl (in_head x y xs h) (λ k. position_there x xs k)
  where
    first : (t : Bool) → (x == y) ≡ t → position (λ other. x == other) (y ∷ xs) ≡ (if t then Some 0 else option_map (λ k. 1 + k) (position (λ other. x == other) xs))
    first t e = position-cons (λ other. x == other) y xs ∙ ap (λ t. if t then Some 0 else option_map (λ k. 1 + k) (position (λ other. x == other) xs)) e

    go : (t : Bool) → (x == y) ≡ t → (y ≡ x) ⊎ In x xs → (In x xs → (k : ℕ) × (position (λ other. x == other) xs ≡ Some k)) → (k : ℕ) × (position (λ other. x == other) (y ∷ xs) ≡ Some k)
    go true e h ih = (0, first true e)
    go false e (inl s) ih = absurd (true≢false (sym (let t : (x == y) ≡ true = grind (arith, nat_tests) in t) ∙ e))
    go false e (inr k) ih = (let q = ih k in (1 + q.0, first false e ∙ ap (option_map (λ k. 1 + k)) q.1))

pub position_stands : (x : ℕ) (xs : List ℕ) (k : ℕ) → position (λ other. x == other) xs ≡ Some k → slice_get xs k ≡ Some x
position_stands x [] k e = absurd (cc (e))
position_stands x (y ∷ xs) k e = go (x == y) refl (sym (position-cons (λ other. x == other) y xs) ∙ e) (λ k e. position_stands x xs k e)
  where
    later : (o : Option ℕ) → position (λ other. x == other) xs ≡ o → option_map (λ k. 1 + k) o ≡ Some k → ((k : ℕ) → position (λ other. x == other) xs ≡ Some k → slice_get xs k ≡ Some x) → slice_get (y ∷ xs) k ≡ Some x
    later None p e ih = absurd (cc (e))
    later (Some j) p e ih =
        let s : 1 + j ≡ k = some_inj (1 + j) k e in
        let n : suc j ≡ k = omega (arith, s) in subst (λ m. slice_get (y ∷ xs) m ≡ Some x) n (ih j p)

    go : (t : Bool) → (x == y) ≡ t → (if x == y then Some 0 else option_map (λ k. 1 + k) (position (λ other. x == other) xs)) ≡ Some k → ((k : ℕ) → position (λ other. x == other) xs ≡ Some k → slice_get xs k ≡ Some x) → slice_get (y ∷ xs) k ≡ Some x
    go true t e ih =
        let f : Some 0 ≡ Some k = sym (ap (λ t. if t then Some 0 else option_map (λ k. 1 + k) (position (λ other. x == other) xs)) t) ∙ e in
        let same : y ≡ x = grind (arith, nat_tests) in
        subst (λ m. slice_get (y ∷ xs) m ≡ Some x) (some_inj 0 k f) (ap (λ z. Some z) same)
    go false t e ih = later (position (λ other. x == other) xs) refl (sym (ap (λ t. if t then Some 0 else option_map (λ k. 1 + k) (position (λ other. x == other) xs)) t) ∙ e) ih

nodes_of_fields : (rows : List ClassRow) → flat_map (λ (row : ClassRow). map (λ (f : Declared). f.node) row.fields) rows ≡ map (λ (f : Declared). f.node) (flat_map (λ (row : ClassRow). row.fields) rows)
nodes_of_fields [] = refl
nodes_of_fields (row ∷ rows) =
    ap (λ xs. map (λ (f : Declared). f.node) row.fields ++ xs) (nodes_of_fields rows)
    ∙ sym (map_both (λ (f : Declared). f.node) row.fields (flat_map (λ (row : ClassRow). row.fields) rows))

module _ (forest : Forest) (accepted : IsAccepted forest) (whole : IsForest forest) (sorted : IsWellSorted forest.nodes) where
  abbrev p : Declarations
  p = declarations_of forest

  -- ---- numbers

  declared_stands : (d : Declared) → In d (declared_fields p) → field_at p.nodes d.node ≡ Some d
  unfolding declared_fields
  declared_stands d h =
      let q = flat_in (λ (row : ClassRow). row.fields) d p.classes h in
      let k = in_get p.classes q.0 q.1 in
      (row_field forest accepted whole sorted k.0 q.0 d k.1 q.2).is_there

  -- the row in which a field is declared
  row_of_own : (class : ℕ) (name : List ℕ) (f : FoundField) → own_field p.classes name class ≡ Some f → (row : ClassRow) × (slice_get p.classes class ≡ Some row) × In f.field row.fields
  unfolding own_field
  row_of_own class name f e = go (slice_get p.classes class) refl e
    where
      found : (row : ClassRow) → slice_get p.classes class ≡ Some row → (o : Option Declared) → find (λ (d : Declared). is_same name d.name) row.fields ≡ o → option_map (λ (d : Declared). record { on = class; field = d }) o ≡ Some f → (row : ClassRow) × (slice_get p.classes class ≡ Some row) × In f.field row.fields
      found row s None h e = absurd (cc (e))
      found row s (Some d) h e =
          let same : d ≡ f.field = ap (λ (f : FoundField). f.field) (some_inj _ f e) in
          (row, s, subst (λ z. In z row.fields) same (in_find (λ (d : Declared). is_same name d.name) d row.fields h))

      go : (o : Option ClassRow) → slice_get p.classes class ≡ o → option_map (λ (d : Declared). record { on = class; field = d }) (option_and_then (λ (row : ClassRow). find (λ (d : Declared). is_same name d.name) row.fields) o) ≡ Some f → (row : ClassRow) × (slice_get p.classes class ≡ Some row) × In f.field row.fields
      go None s e = absurd (cc (e))
      go (Some row) s e = found row s _ refl e

  numbered : (d : Declared) → field_at p.nodes d.node ≡ Some d → In d (declared_fields p) → HasNumber p d
  unfolding field_number field_nodes declared_fields
  numbered d e h =
      let fields : List Declared = declared_fields p in
      let same : field_nodes p.classes ≡ map (λ (f : Declared). f.node) fields = nodes_of_fields p.classes in
      let k = position_there d.node (field_nodes p.classes) (subst (In d.node) (sym same) (in_map (λ (f : Declared). f.node) d fields h)) in
      let s : slice_get (map (λ (f : Declared). f.node) fields) k.0 ≡ Some d.node = ap (λ xs. slice_get xs k.0) (sym same) ∙ position_stands d.node (field_nodes p.classes) k.0 k.1 in
      let m = get_mapped (λ (f : Declared). f.node) fields k.0 d.node s in
      let t : Some m.0 ≡ Some d = sym (declared_stands m.0 (get_in fields k.0 m.0 m.1)) ∙ ap (field_at p.nodes) m.2 ∙ e in
      record { number = k.0; is = k.1; numbers = m.1 ∙ t }

  pub field_has_number : (class : ℕ) (name : List ℕ) (f : FoundField) → field_named p.classes class name ≡ Some f → HasNumber p f.field
  unfolding field_named declared_fields
  field_has_number class name f e =
      let q = along_in (own_field p.classes name) (superclasses p.classes class) f e in
      let r = row_of_own q.0 name f q.2 in
      numbered f.field (field_found forest accepted whole sorted class name f e).is_there (in_flat (λ (row : ClassRow). row.fields) f.field r.0 p.classes (get_in p.classes q.0 r.0 r.1) r.2)

  -- ---- slots

  own_instance_stands : (class : ℕ) (d : Declared) → In d (own_instance_fields p.classes class) → field_at p.nodes d.node ≡ Some d
  unfolding own_instance_fields
  own_instance_stands class d h = go (slice_get p.classes class) refl h
    where
      none : In d [] → ⊥
      none h = elim h [ ]

      go : (o : Option ClassRow) → slice_get p.classes class ≡ o → In d (elim o as (λ _. List Declared) [ None ↦ [] | Some row ↦ filter (λ (f : Declared). not f.modifiers.is_static) row.fields ]) → field_at p.nodes d.node ≡ Some d
      go None e h = absurd (none h)
      go (Some row) e h = (row_field forest accepted whole sorted class row d e (in_filtered (λ (f : Declared). not f.modifiers.is_static) d row.fields h)).is_there

  instance_stands : (class : ℕ) (d : Declared) → In d (instance_fields p.classes class) → field_at p.nodes d.node ≡ Some d
  unfolding instance_fields
  instance_stands class d h = (let q = flat_in (own_instance_fields p.classes) d (reverse (superclasses p.classes class)) h in own_instance_stands q.0 d q.2)

  -- no two fields have one node
  one_node : (class : ℕ) (d e : Declared) → In d (instance_fields p.classes class) → In e (instance_fields p.classes class) → d.node ≡ e.node → d ≡ e
  one_node class d e h k n = some_inj d e (sym (instance_stands class d h) ∙ ap (field_at p.nodes) n ∙ instance_stands class e k)

  -- an instance field has a slot in each object of a class under that of the field
  pub field_has_slot : (class under number : ℕ) (name : List ℕ) (f : FoundField) → under < length p.classes → is_among class (superclasses p.classes under) ≡ true → field_named p.classes class name ≡ Some f → f.field.modifiers.is_static ≡ false → field_number p.classes f.field.node ≡ Some number → HasSlot p under number f.field
  field_has_slot class under number name f l h e plain n =
      let k = field_has_number class name f e in
      let same : k.number ≡ number = some_inj k.number number (sym k.is ∙ n) in
      let s = slot_in p (counted-stays forest) one_node class number name f (above_below forest accepted under class l h) e plain (ap (field_numbered p) (sym same) ∙ k.numbers) under l h in
      record { index = s.0; slot = s.1; declares = s.2 }
