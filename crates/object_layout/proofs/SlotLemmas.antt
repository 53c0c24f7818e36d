-- The place of a field by the table, and its slot.
use Rattle.std.proofs.Common.{◌≡◌, ℕ, ◌+◌, ◌<◌, ◌≤◌, ◌==◌, List, length, map, position, get_or, refl, sym, ap, ◌∙◌, arith, Option, Some, None, true, false, slice_get, option_map, option_and_then}
use Rattle.std.specs.List.{position_or_len}
use Rattle.std.proofs.lemmas.Bool.{eqb-true, lt-ltb, ne_eqb, eq-eqb}
use Rattle.std.proofs.lemmas.List.{length-map}
use Rattle.std.proofs.lemmas.List.Sums.{position_or_len_is}
use Rattle.std.proofs.lemmas.List.Quantifiers.{position-Some}
use Rattle.std.proofs.lemmas.Option.{slice_get-get_or, slice_get-map}
use Rattle.scj_tree.specs.Recursion.{lookup}
use Rattle.scj_rules.specs.Classes.{hidden_fields, instance_fields, field_nodes}
use Rattle.scj_rules.specs.Contexts.{Declarations}
use Rattle.scj_rules.specs.Layout.{slot_of, slots, index_among, declared_fields, field_numbered}
use Rattle.scj_rules.specs.declared.views.Declared.{Declared}
use Rattle.object_layout.specs.declared.objects.ObjectRow.{ObjectRow}
use Rattle.object_layout.specs.ObjectTables.{instance_nodes, slot_of_node, IsObjectRowOf}
use Rattle.object_layout.specs.Slots.{HasIndices}
use Rattle.object_layout.proofs.FieldLemmas.{field_nodes_are}
use Rattle.object_layout.proofs.FieldTableLemmas.{place_by_node}

module _ (indices fields : List ℕ) (field : ℕ) (has : HasIndices indices fields) where
  -- where the field stands, the table has the place
  stands : (k : ℕ) → k < length fields → (field == get_or fields k field) ≡ true → lookup 0 indices field ≡ k
  stands k l e =
      has k field (slice_get-get_or fields k field l
      ∙ ap (λ n. Some n) (sym (eqb-true field (get_or fields k field) e)))

  same_there : (k : ℕ) → k < length fields → get_or fields k field ≡ lookup 0 fields k
  same_there k l =
      let a = slice_get-get_or fields k field l in
      let b = slice_get-get_or fields k 0 l in
      let e : Some (get_or fields k field) ≡ Some (get_or fields k 0) = sym a ∙ b in
      cc

  pub placed_there : (index : ℕ) → index ≡ lookup 0 indices field → index < length fields →
      (field == lookup 0 fields index) ≡ true → position (λ other. field == other) fields ≡ Some index
  placed_there index e l h =
      let here : (field == get_or fields index field) ≡ true = ap (λ n. field == n) (same_there index l) ∙ h in
      let none : (j : ℕ) → j < index → (field == get_or fields j field) ≡ false = λ j less. earlier j less in
      let first : position_or_len (λ other. field == other) fields ≡ index =
      position_or_len_is (λ other. field == other) fields index field (omega (arith, l)) none (λ z. here) in
      rw first (rw (lt-ltb index (length fields) l) refl)
    where
      earlier : (j : ℕ) → j < index → (field == get_or fields j field) ≡ false
      earlier j less = ne_eqb field (get_or fields j field)
          (λ same. omega (
            arith,
            stands j (omega (arith, less, l)) (eq-eqb field (get_or fields j field) same),
            e,
            less,
          ))

  -- where the table's place has another field, the field doesn't stand there
  pub placed_elsewhere : (index : ℕ) → index ≡ lookup 0 indices field → index < length fields →
      (field == lookup 0 fields index) ≡ false → position (λ other. field == other) fields ≡ None
  placed_elsewhere index e l h = go (position (λ other. field == other) fields) refl
    where
      go : (o : Option ℕ) → position (λ other. field == other) fields ≡ o → o ≡ None
      go None q = refl
      go (Some k) q =
          let found = position-Some (λ other. field == other) fields k field q in
          let at : index ≡ k = e ∙ stands k found.0 found.1 in
          let here : (field == lookup 0 fields index) ≡ true =
          ap (λ n. field == lookup 0 fields n) at ∙ ap (λ n. field == n) (sym (same_there k found.0)) ∙ found.1 in
          absurd (let z : true ≡ false = sym here ∙ h in cc)

  pub placed_nowhere : length fields ≤ lookup 0 indices field → position (λ other. field == other) fields ≡ None
  placed_nowhere out = go (position (λ other. field == other) fields) refl
    where
      go : (o : Option ℕ) → position (λ other. field == other) fields ≡ o → o ≡ None
      go None h = refl
      go (Some k) h =
          let found = position-Some (λ other. field == other) fields k field h in
          absurd (omega (arith, stands k found.0 found.1, found.0, out))

-- ---- slots

slot_from : (hidden : ℕ) (fields : List Declared) (o : Option Declared)
    → option_and_then (λ (id : ℕ). option_map (λ k. hidden + k) (position (λ other. id == other)
    (map (λ (f : Declared). f.node) fields))) (option_map (λ (f : Declared). f.node) o)
    ≡ option_and_then (λ (f : Declared). option_map (λ k. hidden + k) (index_among fields f)) o
slot_from hidden fields None = refl
slot_from hidden fields (Some f) = ap (option_map (λ k. hidden + k)) (place_by_node fields f)

-- the slot of a field by its node
pub slot_at_node : (p : Declarations) (class field : ℕ)
    → option_and_then (slot_of_node p class) (slice_get (field_nodes p.classes) field) ≡ slot_of p class field
unfolding slot_of instance_nodes slot_of_node
slot_at_node p class field =
    let slot : ℕ → Option ℕ = λ id. option_map (λ k. hidden_fields p.classes class + k)
    (position (λ other. id == other) (map (λ (f : Declared). f.node) (instance_fields p.classes class))) in
    ap (λ (ids : List ℕ). option_and_then slot (slice_get ids field)) (field_nodes_are p)
    ∙ ap (option_and_then slot) (slice_get-map (λ (f : Declared). f.node) (declared_fields p) field)
    ∙ slot_from (hidden_fields p.classes class) (instance_fields p.classes class) (field_numbered p field)

pub slot_in_row : (p : Declarations) (class node : ℕ) (row : ObjectRow) → IsObjectRowOf p class row
    → option_map (λ k. row.hidden + k) (position (λ other. node == other) row.fields.items) ≡ slot_of_node p class node
unfolding slot_of_node
slot_in_row p class node row is =
    ap (λ (h : ℕ). option_map (λ k. h + k) (position (λ other. node == other) row.fields.items)) is.hidden
    ∙ ap (λ (ids : List ℕ). option_map (λ k. hidden_fields p.classes class + k)
    (position (λ other. node == other) ids)) is.fields

pub row_fits : (p : Declarations) (class : ℕ) (row : ObjectRow) → IsObjectRowOf p class row → row.hidden
    + length row.fields.items ≡ row.slots
unfolding slots instance_nodes
row_fits p class row is =
    let l : length (map (λ (f : Declared). f.node) (instance_fields p.classes class))
    ≡ length (instance_fields p.classes class) = length-map (instance_fields p.classes class)
    (λ (f : Declared). f.node) in
    let h = is.hidden in
    let s = is.slots in
    let f = ap (λ (ids : List ℕ). length ids) is.fields in
    omega (arith, h, s, f, l)

-- ---- a search

abbrev pub NoneBefore : List ℕ → ℕ → ℕ → Type 0
NoneBefore fields field n = (j : ℕ) → j < n → (field == get_or fields j field) ≡ false

pub found_first : (fields : List ℕ) (field index : ℕ) → index < length fields → get_or fields index field ≡ field →
    NoneBefore fields field index → position (λ other. field == other) fields ≡ Some index
found_first fields field index l h before =
    let here : (field == get_or fields index field) ≡ true = eq-eqb field (get_or fields index field) (sym h) in
    let first : position_or_len (λ other. field == other) fields ≡ index =
    position_or_len_is (λ other. field == other) fields index field (omega (arith, l)) before (λ z. here) in
    rw first (rw (lt-ltb index (length fields) l) refl)

pub found_nowhere : (fields : List ℕ) (field n : ℕ) → length fields ≤ n → NoneBefore fields field n →
    position (λ other. field == other) fields ≡ None
found_nowhere fields field n l before = go (position (λ other. field == other) fields) refl
  where
    go : (o : Option ℕ) → position (λ other. field == other) fields ≡ o → o ≡ None
    go None h = refl
    go (Some k) h =
        let found = position-Some (λ other. field == other) fields k field h in
        absurd (let z : true ≡ false = sym found.1 ∙ before k (omega (arith, found.0, l)) in cc)
