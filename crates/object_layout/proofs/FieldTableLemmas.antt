-- The columns of the table of the fields.
use Rattle.std.proofs.Common.{◌≡◌, ℕ, ◌+◌, ◌==◌, List, [], ◌∷◌, map, filter, position, refl, ap, ◌∙◌, arith, Option, Some, None, Bool, true, false, cond, not, if◌then◌else◌, slice_get, option_map, option_and_then, zero-add}
use Rattle.std.proofs.lemmas.Bool.Decides.{nat_tests}
use Rattle.std.proofs.lemmas.List.{length-map}
use Rattle.std.proofs.lemmas.Option.{slice_get-map}
use Rattle.std.specs.List.{filter_map, cons_option, position_or_len}
use Rattle.scj_tree.specs.declared.nodes.Node.{Node}
use Rattle.scj_tree.specs.Forest.{Forest}
use Rattle.scj_rules.specs.Words.{holds}
use Rattle.scj_rules.specs.Views.{field_at}
use Rattle.scj_rules.specs.Classes.{field_nodes}
use Rattle.scj_rules.specs.Contexts.{Declarations, declarations_of}
use Rattle.scj_rules.specs.Layout.{declared_fields, static_fields, static_index, index_among}
use Rattle.scj_rules.specs.declared.views.Declared.{Declared}
use Rattle.scj_rules.specs.declared.views.SlotKind.{SlotKind}
use Rattle.object_layout.specs.declared.fields.StaticField.{StaticField}
use Rattle.object_layout.specs.declared.field_tables.FieldTable.{FieldTable}
use Rattle.object_layout.specs.Fields.{kind_of_field, kind_at, static_row, static_at, is_static_at}
use Rattle.object_layout.specs.FieldTables.{indices_among_statics, IsFieldTableOf}
use Rattle.object_layout.proofs.FieldLemmas.{AreRead, all_read, field_nodes_are, all_read_again}

abbrev node_of : Declared → ℕ
node_of f = f.node

-- ---- places

no_shift : (o : Option ℕ) → option_map (λ index. 0 + index) o ≡ o
no_shift None = refl
no_shift (Some k) = ap (λ (n : ℕ). Some n) (zero-add k)

pub places_found : (find : ℕ → Option ℕ) (list ids : List ℕ)
    → ((id : ℕ) → find id ≡ option_map (λ index. 0 + index) (position (λ other. id == other) list))
    → map (λ (id : ℕ). find id) ids ≡ map (λ (id : ℕ). position (λ other. id == other) list) ids
places_found find list [] h = refl
places_found find list (id ∷ ids) h =
    ap (λ o. o ∷ map (λ (id : ℕ). find id) ids) (h id ∙ no_shift (position (λ other. id == other) list))
    ∙ ap (λ os. position (λ other. id == other) list ∷ os) (places_found find list ids h)

first_mapped : {A : Type 0} (test : ℕ → Bool) (f : A → ℕ) (xs : List A) → position_or_len test (map f xs)
    ≡ position_or_len (λ x. test (f x)) xs
first_mapped test f [] = refl
first_mapped test f (x ∷ xs) = ap (λ n. cond (not (test (f x))) (1 + n) 0) (first_mapped test f xs)

pub position_mapped : {A : Type 0} (test : ℕ → Bool) (f : A → ℕ) (xs : List A) → position test (map f xs)
    ≡ position (λ x. test (f x)) xs
position_mapped test f xs =
    (let a = first_mapped test f xs in let b = length-map xs f in rw (a, b) refl)

first_same : {A : Type 0} (p q : A → Bool) → ((x : A) → p x ≡ q x) → (xs : List A) → position_or_len p xs
    ≡ position_or_len q xs
first_same p q h [] = refl
first_same p q h (x ∷ xs) = rw (h x, first_same p q h xs) refl

pub position_same : {A : Type 0} (p q : A → Bool) → ((x : A) → p x ≡ q x) → (xs : List A) → position p xs
    ≡ position q xs
position_same p q h xs = (let a = first_same p q h xs in rw a refl)

turned : (a b : ℕ) → (a == b) ≡ (b == a)
turned a b = grind (arith, nat_tests)

-- the place of a node among the nodes of some fields is that of the field
pub place_by_node : (fields : List Declared) (f : Declared) →
    position (λ other. f.node == other) (map node_of fields) ≡ index_among fields f
place_by_node fields f =
    position_mapped (λ other. f.node == other) node_of fields
    ∙ position_same (λ (other : Declared). f.node == other.node) (λ (other : Declared). other.node == f.node)
    (λ other. turned f.node other.node) fields

-- ---- columns

pub kinds_read : (nodes : List Node) (ids : List ℕ) → filter_map (kind_at nodes) ids ≡ map kind_of_field
    (filter_map (field_at nodes) ids)
unfolding kind_at
kinds_read nodes [] = refl
kinds_read nodes (id ∷ ids) = go (field_at nodes id) (kinds_read nodes ids)
  where
    go : (o : Option Declared) → filter_map (kind_at nodes) ids ≡ map kind_of_field (filter_map (field_at nodes) ids)
        → cons_option (option_map kind_of_field o) (filter_map (kind_at nodes) ids) ≡ map kind_of_field
        (cons_option o (filter_map (field_at nodes) ids))
    go None later = later
    go (Some f) later = ap (λ ks. kind_of_field f ∷ ks) later

abbrev is_static : Declared → Bool
is_static f = f.modifiers.is_static

statics_read : (nodes : List Node) (ids : List ℕ) → filter_map (static_at nodes) ids ≡ map (static_row nodes)
    (filter is_static (filter_map (field_at nodes) ids))
unfolding static_at
statics_read nodes [] = refl
statics_read nodes (id ∷ ids) = go (field_at nodes id) (statics_read nodes ids)
  where
    pick : (f : Declared) (t : Bool) (rows : List StaticField) (fields : List Declared) → rows ≡ map (static_row nodes)
        fields → cons_option (if t then Some (static_row nodes f) else None) rows ≡ map (static_row nodes)
        (cond t (f ∷ fields) fields)
    pick f true rows fields h = ap (λ rs. static_row nodes f ∷ rs) h
    pick f false rows fields h = h

    go : (o : Option Declared) → filter_map (static_at nodes) ids ≡ map (static_row nodes)
        (filter is_static (filter_map (field_at nodes) ids))
        → cons_option (option_and_then (λ (f : Declared). if f.modifiers.is_static then Some (static_row nodes f)
        else None) o) (filter_map (static_at nodes) ids) ≡ map (static_row nodes)
        (filter is_static (cons_option o (filter_map (field_at nodes) ids)))
    go None later = later
    go (Some f) later =
        pick f f.modifiers.is_static (filter_map (static_at nodes) ids)
        (filter is_static (filter_map (field_at nodes) ids)) later

pub statics_are : (forest : Forest) → filter_map (static_at forest.nodes)
    (field_nodes (declarations_of forest).classes) ≡ map (static_row forest.nodes)
    (static_fields (declarations_of forest))
unfolding static_fields
statics_are forest =
    statics_read forest.nodes (field_nodes (declarations_of forest).classes)
    ∙ ap (λ fs. map (static_row forest.nodes) (filter is_static fs)) (all_read_again forest)

-- those of the nodes that pass are the nodes of the fields that pass
pub nodes_passed : (nodes : List Node) (test : Declared → Bool) (fs : List Declared) → AreRead nodes fs →
    filter (λ id. holds (field_at nodes id) test) (map node_of fs) ≡ map node_of (filter test fs)
unfolding AreRead
nodes_passed nodes test [] r = refl
nodes_passed nodes test (f ∷ fs) r =
    rw r.0 (go (test f) (nodes_passed nodes test fs r.1))
  where
    go : (t : Bool) → filter (λ id. holds (field_at nodes id) test) (map node_of fs) ≡ map node_of (filter test fs)
        → cond t (f.node ∷ filter (λ id. holds (field_at nodes id) test) (map node_of fs))
        (filter (λ id. holds (field_at nodes id) test) (map node_of fs))
        ≡ map node_of (cond t (f ∷ filter test fs) (filter test fs))
    go true later = ap (λ ids. f.node ∷ ids) later
    go false later = later

static_nodes_are : (forest : Forest) → filter (is_static_at forest.nodes)
    (field_nodes (declarations_of forest).classes) ≡ map node_of (static_fields (declarations_of forest))
unfolding static_fields
static_nodes_are forest =
    ap (filter (is_static_at forest.nodes)) (field_nodes_are (declarations_of forest))
    ∙ nodes_passed forest.nodes is_static (declared_fields (declarations_of forest)) (all_read forest)

places_of_each : (statics fs : List Declared) → map (λ (id : ℕ). position (λ other. id == other) (map node_of statics))
    (map node_of fs) ≡ map (λ (f : Declared). index_among statics f) fs
places_of_each statics [] = refl
places_of_each statics (f ∷ fs) =
    ap (λ o. o ∷ map (λ (id : ℕ). position (λ other. id == other) (map node_of statics)) (map node_of fs))
    (place_by_node statics f)
    ∙ ap (λ os. index_among statics f ∷ os) (places_of_each statics fs)

pub static_places_are : (forest : Forest)
    → map (λ (id : ℕ). position (λ other. id == other) (filter (is_static_at forest.nodes)
    (field_nodes (declarations_of forest).classes))) (field_nodes (declarations_of forest).classes)
    ≡ indices_among_statics (declarations_of forest)
unfolding indices_among_statics
static_places_are forest =
    let p : Declarations = declarations_of forest in
    ap (λ (list : List ℕ). map (λ (id : ℕ). position (λ other. id == other) list) (field_nodes p.classes))
    (static_nodes_are forest)
    ∙ ap (map (λ (id : ℕ). position (λ other. id == other) (map node_of (static_fields p)))) (field_nodes_are p)
    ∙ places_of_each (static_fields p) (declared_fields p)

-- ---- look-ups

flat : {A : Type 0} (f : A → Option ℕ) (o : Option A) → option_and_then (λ index. index) (option_map f o)
    ≡ option_and_then f o
flat f None = refl
flat f (Some x) = refl

pub static_place_by_table : (forest : Forest) (table : FieldTable) (field : ℕ) → IsFieldTableOf forest table
    → option_and_then (λ index. index) (slice_get table.static_indices.items field) ≡ static_index
    (declarations_of forest) field
unfolding static_index indices_among_statics
static_place_by_table forest table field h =
    let p : Declarations = declarations_of forest in
    ap (λ (os : List (Option ℕ)). option_and_then (λ index. index) (slice_get os field)) h.static_indices
    ∙ ap (option_and_then (λ index. index))
    (slice_get-map (λ (f : Declared). index_among (static_fields p) f) (declared_fields p) field)
    ∙ flat (λ (f : Declared). index_among (static_fields p) f) (slice_get (declared_fields p) field)

-- the table, from the list of the nodes of the fields
pub table_is : (forest : Forest) (table : FieldTable) (nodes : List ℕ) → nodes ≡ field_nodes
    (declarations_of forest).classes
    → table.static_indices.items ≡ map (λ (id : ℕ). position (λ other. id == other)
    (filter (is_static_at forest.nodes) nodes)) nodes
    → table.statics.items ≡ filter_map (static_at forest.nodes) nodes → IsFieldTableOf forest table
table_is forest table nodes n s t =
    record {
      static_indices = s
          ∙ ap (λ (ids : List ℕ). map (λ (id : ℕ). position (λ other. id == other)
          (filter (is_static_at forest.nodes) ids)) ids) n
          ∙ static_places_are forest;
      statics = t ∙ ap (filter_map (static_at forest.nodes)) n ∙ statics_are forest;
    }
