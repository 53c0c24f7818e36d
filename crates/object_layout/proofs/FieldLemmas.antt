-- What is read of fields at their nodes, and the fields of classes and of the program by their nodes.
use Rattle.std.proofs.Common.{◌≡◌, ℕ, suc, subst, List, [], ◌∷◌, ◌++◌, map, flat_map, refl, sym, ap, ◌∙◌, Option, Some, None, true, false, not, ◌&&◌, is_some, if◌then◌else◌, slice_get, option_map, option_and_then}
use Rattle.std.specs.List.{filter_map, cons_option}
use Rattle.std.proofs.lemmas.List.{map-append}
use Rattle.scj_tree.specs.declared.nodes.Node.{Node}
use Rattle.scj_tree.specs.Forest.{Forest}
use Rattle.scj_rules.specs.Definitions.{read}
use Rattle.scj_rules.specs.Words.{holds}
use Rattle.scj_rules.specs.Views.{field_at}
use Rattle.scj_rules.specs.Classes.{ClassRow, field_nodes}
use Rattle.scj_rules.specs.Contexts.{Declarations, declarations_of}
use Rattle.scj_rules.specs.Layout.{kind_of_type, literal_written, declared_fields}
use Rattle.scj_rules.specs.declared.views.Declared.{Declared}
use Rattle.scj_rules.specs.declared.views.WrittenType.{WrittenType}
use Rattle.class_rows.proofs.FieldLemmas.{field_there}
use Rattle.class_rows.proofs.OwnLemmas.{fields_in, fields_at}
use Rattle.class_rows.specs.Tables.{members_in}
use Rattle.object_layout.specs.Fields.{kind_of_field, kind_at, static_row, static_at, is_static_at, is_instance_at}

-- ---- single fields

pub kind_there : (nodes : List Node) (id : ℕ) (t : WrittenType) → Some t ≡ option_map
    (λ (f : Declared). f.declared_type) (field_at nodes id) → kind_at nodes id ≡ Some (kind_of_type t)
unfolding kind_at
kind_there nodes id t e = go (field_at nodes id) e
  where
    go : (o : Option Declared) → Some t ≡ option_map (λ (f : Declared). f.declared_type) o →
        option_map kind_of_field o ≡ Some (kind_of_type t)
    go None h = absurd (cc)
    go (Some f) h = (let same : t ≡ f.declared_type = cc in ap (λ w. Some (kind_of_type w)) (sym same))

pub kind_missing : (nodes : List Node) (id : ℕ) → None ≡ option_map (λ (f : Declared). f.declared_type)
    (field_at nodes id) → kind_at nodes id ≡ None
unfolding kind_at
kind_missing nodes id e = go (field_at nodes id) e
  where
    go : (o : Option Declared) → None ≡ option_map (λ (f : Declared). f.declared_type) o →
        option_map kind_of_field o ≡ None
    go None h = refl
    go (Some f) h = absurd (cc)

-- a field that is read at a node is declared there
pub node_is : (nodes : List Node) (id : ℕ) (f : Declared) → field_at nodes id ≡ Some f → f.node ≡ id
node_is nodes id f e =
    let there : option_map (λ (d : Declared). d.node) (field_at nodes id) ≡ Some id =
    field_there nodes id (ap is_some e) in
    let same : Some f.node ≡ Some id = sym (ap (option_map (λ (d : Declared). d.node)) e) ∙ there in
    cc

pub static_there : (nodes : List Node) (id : ℕ) (t : WrittenType) → is_static_at nodes id ≡ true → Some t ≡ option_map
    (λ (f : Declared). f.declared_type) (field_at nodes id)
    → static_at nodes id ≡ Some (record { node = id; kind = kind_of_type t; literal = read nodes literal_written id })
unfolding static_at static_row
static_there nodes id t s e = go (field_at nodes id) refl s e
  where
    go : (o : Option Declared) → field_at nodes id ≡ o → holds o (λ (f : Declared). f.modifiers.is_static) ≡ true
        → Some t ≡ option_map (λ (f : Declared). f.declared_type) o
        → option_and_then (λ (f : Declared). if f.modifiers.is_static then Some (static_row nodes f) else None) o
        ≡ Some (record { node = id; kind = kind_of_type t; literal = read nodes literal_written id })
    go None h k w = absurd (cc)
    go (Some f) h k w =
        let at : f.node ≡ id = node_is nodes id f h in
        let type : t ≡ f.declared_type = cc in
        rw (k, at, type) refl

pub static_missing : (nodes : List Node) (id : ℕ) → is_static_at nodes id ≡ false → static_at nodes id ≡ None
unfolding static_at
static_missing nodes id s = go (field_at nodes id) s
  where
    go : (o : Option Declared) → holds o (λ (f : Declared). f.modifiers.is_static) ≡ false
        → option_and_then (λ (f : Declared). if f.modifiers.is_static then Some (static_row nodes f) else None) o
        ≡ None
    go None h = refl
    go (Some f) h = rw h refl

pub instance_tested : (nodes : List Node) (id : ℕ) → (is_some (field_at nodes id) && not (is_static_at nodes id))
    ≡ is_instance_at nodes id
instance_tested nodes id = go (field_at nodes id)
  where
    go : (o : Option Declared) → (is_some o && not (holds o (λ (f : Declared). f.modifiers.is_static)))
        ≡ holds o (λ (f : Declared). not f.modifiers.is_static)
    go None = refl
    go (Some f) = refl

-- ---- fields that are declared where they are read

unfoldable pub AreRead : List Node → List Declared → Type 0
AreRead nodes [] = Unit {0}
AreRead nodes (f ∷ fs) = (field_at nodes f.node ≡ Some f) × AreRead nodes fs

pub read_at : (nodes : List Node) (ids : List ℕ) → AreRead nodes (filter_map (field_at nodes) ids)
unfolding AreRead
read_at nodes [] = tt
read_at nodes (id ∷ ids) = go (field_at nodes id) refl (read_at nodes ids)
  where
    go : (o : Option Declared) → field_at nodes id ≡ o → AreRead nodes (filter_map (field_at nodes) ids) →
        AreRead nodes (cons_option o (filter_map (field_at nodes) ids))
    go None e later = later
    go (Some f) e later = (ap (field_at nodes) (node_is nodes id f e) ∙ e, later)

pub read_both : (nodes : List Node) (fs gs : List Declared) → AreRead nodes fs → AreRead nodes gs →
    AreRead nodes (fs ++ gs)
unfolding AreRead
read_both nodes [] gs a b = b
read_both nodes (f ∷ fs) gs a b = (a.0, read_both nodes fs gs a.1 b)

-- reading them at their nodes gives them again
pub read_again : (nodes : List Node) (fs : List Declared) → AreRead nodes fs →
    filter_map (field_at nodes) (map (λ (f : Declared). f.node) fs) ≡ fs
unfolding AreRead
read_again nodes [] r = refl
read_again nodes (f ∷ fs) r = rw r.0 (ap (λ gs. f ∷ gs) (read_again nodes fs r.1))

-- ---- all fields

rows_read : (nodes : List Node) (rows : List ClassRow) → ((i : ℕ) (row : ClassRow) → slice_get rows i ≡ Some row →
    AreRead nodes row.fields) → AreRead nodes (flat_map (λ (row : ClassRow). row.fields) rows)
unfolding AreRead
rows_read nodes [] h = tt
rows_read nodes (row ∷ rows) h =
    read_both nodes row.fields (flat_map (λ (row : ClassRow). row.fields) rows) (h 0 row refl)
    (rows_read nodes rows (λ i r e. h (suc i) r e))

pub all_read : (forest : Forest) → AreRead forest.nodes (declared_fields (declarations_of forest))
unfolding declared_fields
all_read forest = rows_read forest.nodes (declarations_of forest).classes here
  where
    here : (i : ℕ) (row : ClassRow) → slice_get (declarations_of forest).classes i ≡ Some row →
        AreRead forest.nodes row.fields
    here i row e =
        let same : filter_map (field_at forest.nodes) (members_in (declarations_of forest) i) ≡ row.fields =
        sym (fields_at forest i) ∙ ap fields_in e in
        (let P : List Declared → Type 0 = λ fs. AreRead forest.nodes fs in
        subst P same (read_at forest.nodes (members_in (declarations_of forest) i)))

nodes_of : (rows : List ClassRow) → flat_map (λ (row : ClassRow). map (λ (f : Declared). f.node) row.fields) rows
    ≡ map (λ (f : Declared). f.node) (flat_map (λ (row : ClassRow). row.fields) rows)
nodes_of [] = refl
nodes_of (row ∷ rows) =
    ap (λ ids. map (λ (f : Declared). f.node) row.fields ++ ids) (nodes_of rows)
    ∙ sym (map-append (λ (f : Declared). f.node) row.fields (flat_map (λ (row : ClassRow). row.fields) rows))

pub field_nodes_are : (p : Declarations) → field_nodes p.classes ≡ map (λ (f : Declared). f.node) (declared_fields p)
unfolding field_nodes declared_fields
field_nodes_are p = nodes_of p.classes

pub all_read_again : (forest : Forest) → filter_map (field_at forest.nodes)
    (field_nodes (declarations_of forest).classes) ≡ declared_fields (declarations_of forest)
all_read_again forest =
    ap (filter_map (field_at forest.nodes)) (field_nodes_are (declarations_of forest))
    ∙ read_again forest.nodes (declared_fields (declarations_of forest)) (all_read forest)
