-- The fields of the objects of a class by their nodes, and the rows of the classes.
use Rattle.std.proofs.Common.{◌≡◌, ℕ, zero, suc, ◌+◌, ◌≤◌, ◌==◌, List, [], ◌∷◌, ◌++◌, length, map, filter, flat_map, reverse, refl, sym, ap, ◌∙◌, subst, arith, Option, Some, None, Bool, true, false, cond, not, is_some, slice_get, ⊎_elim, ◌⊎◌, inl, inr}
use Rattle.std.specs.List.{filter_map, cons_option}
use Rattle.std.proofs.lemmas.Bool.{ne_eqb}
use Rattle.std.proofs.lemmas.Bool.Decides.{nat_tests}
use Rattle.std.proofs.lemmas.List.{map-append, length-map, length_push}
use Rattle.std.proofs.lemmas.Option.{slice_get_past}
use Rattle.scj_builtins.specs.Framework.{periodic_handler, aperiodic_handler}
use Rattle.scj_tree.specs.declared.nodes.Node.{Node}
use Rattle.scj_tree.specs.Forest.{Forest}
use Rattle.scj_tree.specs.Recursion.{lookup, listed}
use Rattle.scj_tree.proofs.RecursionLemmas.{listed-at}
use Rattle.scj_rules.specs.Definitions.{read}
use Rattle.scj_rules.specs.Words.{along, holds}
use Rattle.scj_rules.specs.Views.{field_at}
use Rattle.scj_rules.specs.Classes.{ClassRow, first_user_class, superclass_in, superclasses, own_instance_fields, instance_fields, hidden_fields}
use Rattle.scj_rules.specs.Contexts.{Declarations, declarations_of}
use Rattle.scj_rules.specs.ScopeRules.{defined_by, defined_by_chain, definition_in}
use Rattle.scj_rules.specs.Layout.{slots, fields_with_literal, field_literal, literal_written}
use Rattle.scj_rules.specs.declared.views.Declared.{Declared}
use Rattle.class_rows.specs.Tables.{AreChainedScopes, members_in}
use Rattle.class_rows.proofs.WalkLemmas.{along_end, along_front, chain_here}
use Rattle.class_rows.proofs.UserLemmas.{framework_first}
use Rattle.object_layout.specs.Fields.{kind_of_field, kind_at, is_instance_at}
use Rattle.object_layout.specs.ObjectTables.{nodes_of_fields, own_nodes, instance_nodes, instance_kinds, literal_nodes, all_own_nodes, IsObjectRowOf, AreObjectRows}
use Rattle.object_layout.specs.declared.objects.ObjectRow.{ObjectRow}
use Rattle.object_layout.proofs.BodyLemmas.{nodes_are}
use Rattle.class_rows.proofs.OwnLemmas.{fields_in, fields_at}
use Rattle.object_layout.proofs.FieldLemmas.{AreRead, read_at, read_both, read_again, node_is}
use Rattle.object_layout.proofs.FieldTableLemmas.{kinds_read}

abbrev is_instance : Declared → Bool
is_instance f = not f.modifiers.is_static

-- ---- own fields

own_fields : (rows : List ClassRow) (class : ℕ) → own_instance_fields rows class ≡ filter is_instance
    (fields_in (slice_get rows class))
unfolding own_instance_fields
own_fields rows class = go (slice_get rows class)
  where
    go : (o : Option ClassRow) → elim o as (λ _. List Declared)
        [ None ↦ [] | Some row ↦ filter (λ (f : Declared). not f.modifiers.is_static) row.fields ]
        ≡ filter is_instance (fields_in o)
    go None = refl
    go (Some row) = refl

own_read_of : (forest : Forest) (class : ℕ) → own_instance_fields (declarations_of forest).classes class
    ≡ filter is_instance (filter_map (field_at forest.nodes) (members_in (declarations_of forest) class))
own_read_of forest class = own_fields (declarations_of forest).classes class
    ∙ ap (filter is_instance) (fields_at forest class)

nodes_passed : (nodes : List Node) (test : Declared → Bool) (ids : List ℕ) → filter
    (λ id. holds (field_at nodes id) test) ids ≡ nodes_of_fields (filter test (filter_map (field_at nodes) ids))
nodes_passed nodes test [] = refl
nodes_passed nodes test (id ∷ ids) = go (field_at nodes id) refl (nodes_passed nodes test ids)
  where
    pick : (f : Declared) (t : Bool) → f.node ≡ id → (xs : List ℕ) (fs : List Declared) → xs ≡ nodes_of_fields fs →
        cond t (id ∷ xs) xs ≡ nodes_of_fields (cond t (f ∷ fs) fs)
    pick f true e xs fs h = ap (λ n. n ∷ xs) (sym e) ∙ ap (λ ys. f.node ∷ ys) h
    pick f false e xs fs h = h

    go : (o : Option Declared) → field_at nodes id ≡ o
        → filter (λ id. holds (field_at nodes id) test) ids ≡ nodes_of_fields
        (filter test (filter_map (field_at nodes) ids))
        → cond (holds o test) (id ∷ filter (λ id. holds (field_at nodes id) test) ids)
        (filter (λ id. holds (field_at nodes id) test) ids) ≡ nodes_of_fields
        (filter test (cons_option o (filter_map (field_at nodes) ids)))
    go None e later = later
    go (Some f) e later =
        pick f (test f) (node_is nodes id f e) (filter (λ id. holds (field_at nodes id) test) ids)
        (filter test (filter_map (field_at nodes) ids)) later

pub own_nodes_are : (forest : Forest) (class : ℕ)
    → filter (is_instance_at forest.nodes) (members_in (declarations_of forest) class)
    ≡ own_nodes (declarations_of forest) class
unfolding own_nodes
own_nodes_are forest class =
    nodes_passed forest.nodes is_instance (members_in (declarations_of forest) class)
    ∙ ap nodes_of_fields (sym (own_read_of forest class))

read_filtered : (nodes : List Node) (test : Declared → Bool) (fs : List Declared) → AreRead nodes fs →
    AreRead nodes (filter test fs)
unfolding AreRead
read_filtered nodes test [] r = tt
read_filtered nodes test (f ∷ fs) r = go (test f) (read_filtered nodes test fs r.1)
  where
    go : (t : Bool) → AreRead nodes (filter test fs) → AreRead nodes (cond t (f ∷ filter test fs) (filter test fs))
    go true later = (r.0, later)
    go false later = later

own_read : (forest : Forest) (class : ℕ) → AreRead forest.nodes
    (own_instance_fields (declarations_of forest).classes class)
own_read forest class =
    let P : List Declared → Type 0 = λ fs. AreRead forest.nodes fs in
    subst P (sym (own_read_of forest class))
    (read_filtered forest.nodes is_instance (filter_map (field_at forest.nodes)
    (members_in (declarations_of forest) class)) (read_at forest.nodes (members_in (declarations_of forest) class)))

all_read : (forest : Forest) (classes : List ℕ) → AreRead forest.nodes
    (flat_map (own_instance_fields (declarations_of forest).classes) classes)
unfolding AreRead
all_read forest [] = tt
all_read forest (class ∷ classes) =
    read_both forest.nodes (own_instance_fields (declarations_of forest).classes class)
    (flat_map (own_instance_fields (declarations_of forest).classes) classes) (own_read forest class)
    (all_read forest classes)

-- ---- a number behind those of the classes

module _ (forest : Forest) (class : ℕ) (past : length (declarations_of forest).classes ≤ class) where
  abbrev p : Declarations
  p = declarations_of forest

  chain_alone : superclasses p.classes class ≡ class ∷ []
  unfolding superclasses
  chain_alone =
      chain_here (superclass_in p.classes) (length p.classes) class (omega (arith, framework_first forest))
      ∙ (let none : superclass_in p.classes class ≡ None = (rw (slice_get_past p.classes class past) refl) in
      rw none refl)

  own_past : own_instance_fields p.classes class ≡ []
  own_past = own_fields p.classes class
      ∙ ap (λ (o : Option ClassRow). filter is_instance (fields_in o)) (slice_get_past p.classes class past)

  pub own_nodes_past : own_nodes p class ≡ []
  unfolding own_nodes
  own_nodes_past = ap nodes_of_fields own_past

  instance_past : instance_fields p.classes class ≡ []
  unfolding instance_fields
  instance_past =
      ap (λ (ids : List ℕ). flat_map (own_instance_fields p.classes) (reverse ids)) chain_alone
      ∙ ap (λ (fs : List Declared). fs ++ []) own_past

  pub hidden_past : hidden_fields p.classes class ≡ 0
  unfolding hidden_fields
  hidden_past =
      let many : first_user_class ≤ length p.classes = framework_first forest in
      let fifth : (periodic_handler == class) ≡ false =
      ne_eqb periodic_handler class (λ e. omega (arith, e, past, many)) in
      let sixth : (aperiodic_handler == class) ≡ false =
      ne_eqb aperiodic_handler class (λ e. omega (arith, e, past, many)) in
      rw chain_alone (rw (fifth, sixth) refl)

  pub slots_past : slots p class ≡ 0
  unfolding slots
  slots_past = rw (hidden_past, instance_past) refl

  pub kinds_past : instance_kinds p class ≡ []
  unfolding instance_kinds
  kinds_past = ap (map kind_of_field) instance_past

  pub nodes_past : instance_nodes p class ≡ []
  unfolding instance_nodes
  nodes_past = ap nodes_of_fields instance_past

  pub literals_past : literal_nodes p class ≡ []
  unfolding literal_nodes fields_with_literal
  literals_past = ap (λ fs. nodes_of_fields (filter (λ f. is_some (field_literal p f)) fs)) own_past

  undefined_past : defined_by p class ≡ None
  unfolding defined_by definition_in
  undefined_past = (rw (slice_get_past p.classes class past) refl)

  pub scope_past : defined_by_chain p class ≡ None
  unfolding defined_by_chain
  scope_past = ap (along (defined_by p)) chain_alone ∙ along_front (defined_by p) class []
      ∙ (rw undefined_past (along_end (defined_by p)))

-- ---- what tables of all classes tell

-- a table of all classes tells what is said of each number, where nothing is said of those behind them
table_reports : {A : Type 0} (default : A) (f : ℕ → A) (n : ℕ) → ((a : ℕ) → n ≤ a → f a ≡ default) → (xs : List A) →
    xs ≡ listed f n → (a : ℕ) → lookup default xs a ≡ f a
table_reports default f n past xs e a =
    ap (λ t. lookup default t a) e ∙ listed-at default f n a ∙ grind (arith, nat_tests, past a)

-- the scope that the chain of a class defines
pub scope_reported : (forest : Forest) (scopes : List (Option ℕ)) (class : ℕ)
    → AreChainedScopes forest scopes
    → lookup None scopes class ≡ defined_by_chain (declarations_of forest) class
scope_reported forest scopes class e =
    let p : Declarations = declarations_of forest in
    table_reports None (defined_by_chain p) (length p.classes) (λ a h. scope_past forest a h) scopes e class

-- the fields of objects
own_listed : (forest : Forest) (class : ℕ) → lookup [] (all_own_nodes (declarations_of forest)) class ≡ own_nodes
    (declarations_of forest) class
unfolding all_own_nodes
own_listed forest class =
    let p : Declarations = declarations_of forest in
    table_reports [] (own_nodes p) (length p.classes) (λ a h. own_nodes_past forest a h)
    (listed (own_nodes p) (length p.classes)) refl class

pub own_list : (forest : Forest) (lists : List (List ℕ)) (class : ℕ) → lists ≡ all_own_nodes (declarations_of forest)
    → lookup [] lists class ≡ own_nodes (declarations_of forest) class
own_list forest lists class e = ap (λ (ls : List (List ℕ)). lookup [] ls class) e ∙ own_listed forest class

joined_nodes : (forest : Forest) (lists : List (List ℕ)) (classes : List ℕ) → lists ≡ all_own_nodes
    (declarations_of forest) → flat_map (λ (class : ℕ). lookup [] lists class) classes ≡ nodes_of_fields
    (flat_map (own_instance_fields (declarations_of forest).classes) classes)
unfolding own_nodes
joined_nodes forest lists [] e = refl
joined_nodes forest lists (class ∷ classes) e =
    let p : Declarations = declarations_of forest in
    ap (λ ids. ids ++ flat_map (λ (class : ℕ). lookup [] lists class) classes) (own_list forest lists class e)
    ∙ ap (λ ids. own_nodes p class ++ ids) (joined_nodes forest lists classes e)
    ∙ sym
    (map-append (λ (f : Declared). f.node) (own_instance_fields p.classes class)
    (flat_map (own_instance_fields p.classes) classes))

pub instance_nodes_are : (forest : Forest) (lists : List (List ℕ)) (class : ℕ) → lists ≡ all_own_nodes
    (declarations_of forest)
    → flat_map (λ (class : ℕ). lookup [] lists class) (reverse (superclasses (declarations_of forest).classes class))
    ≡ instance_nodes (declarations_of forest) class
unfolding instance_nodes instance_fields
instance_nodes_are forest lists class e =
    joined_nodes forest lists (reverse (superclasses (declarations_of forest).classes class)) e

pub instance_kinds_are : (forest : Forest) (class : ℕ)
    → filter_map (kind_at forest.nodes) (instance_nodes (declarations_of forest) class)
    ≡ instance_kinds (declarations_of forest) class
unfolding instance_nodes instance_kinds instance_fields
instance_kinds_are forest class =
    let p : Declarations = declarations_of forest in
    let chain : List ℕ = reverse (superclasses p.classes class) in
    kinds_read forest.nodes (nodes_of_fields (flat_map (own_instance_fields p.classes) chain))
    ∙ ap (map kind_of_field)
    (read_again forest.nodes (flat_map (own_instance_fields p.classes) chain) (all_read forest chain))

passed_by_node : (test : ℕ → Bool) (fs : List Declared) → filter test (nodes_of_fields fs) ≡ nodes_of_fields
    (filter (λ (f : Declared). test f.node) fs)
passed_by_node test [] = refl
passed_by_node test (f ∷ fs) = go (test f.node) (passed_by_node test fs)
  where
    go : (t : Bool) → filter test (nodes_of_fields fs) ≡ nodes_of_fields (filter (λ (f : Declared). test f.node) fs)
        → cond t (f.node ∷ filter test (nodes_of_fields fs)) (filter test (nodes_of_fields fs)) ≡ nodes_of_fields
        (cond t (f ∷ filter (λ (f : Declared). test f.node) fs) (filter (λ (f : Declared). test f.node) fs))
    go true later = ap (λ ids. f.node ∷ ids) later
    go false later = later

pub literal_nodes_are : (forest : Forest) (class : ℕ)
    → filter (λ id. is_some (read forest.nodes literal_written id)) (own_nodes (declarations_of forest) class)
    ≡ literal_nodes (declarations_of forest) class
unfolding own_nodes literal_nodes fields_with_literal
literal_nodes_are forest class =
    let p : Declarations = declarations_of forest in
    passed_by_node (λ id. is_some (read forest.nodes literal_written id)) (own_instance_fields p.classes class)
    ∙ ap (λ (nodes : List Node). nodes_of_fields
    (filter (λ (f : Declared). is_some (read nodes literal_written f.node)) (own_instance_fields p.classes class)))
    (sym (nodes_are forest))

pub slots_are : (p : Declarations) (class hidden count : ℕ) → hidden ≡ hidden_fields p.classes class →
    count ≡ length (instance_nodes p class) → hidden + count ≡ slots p class
unfolding slots instance_nodes
slots_are p class hidden count h k =
    let l : length (nodes_of_fields (instance_fields p.classes class)) ≡ length (instance_fields p.classes class) =
    length-map (instance_fields p.classes class) (λ (f : Declared). f.node) in
    rw (h, k, l) refl

-- ---- rows

-- the row of a class, from the own fields of each class
pub row_is : (forest : Forest) (class : ℕ) (lists : List (List ℕ)) (row : ObjectRow) (count : ℕ) →
    lists ≡ all_own_nodes (declarations_of forest) → row.hidden ≡ hidden_fields (declarations_of forest).classes class
    → row.slots ≡ row.hidden + count → count ≡ length row.fields.items
    → row.fields.items ≡ flat_map (λ (class : ℕ). lookup [] lists class)
    (reverse (superclasses (declarations_of forest).classes class))
    → row.kinds.items ≡ filter_map (kind_at forest.nodes) row.fields.items
    → row.literals.items ≡ filter (λ id. is_some (read forest.nodes literal_written id)) (lookup [] lists class)
    → IsObjectRowOf (declarations_of forest) class row
row_is forest class lists row count e h s n f k l =
    let p : Declarations = declarations_of forest in
    let all : row.fields.items ≡ instance_nodes p class = f ∙ instance_nodes_are forest lists class e in
    record {
      hidden = h;
      slots = s ∙ slots_are p class row.hidden count h (n ∙ ap (λ (ids : List ℕ). length ids) all);
      fields = all;
      kinds = k ∙ ap (filter_map (kind_at forest.nodes)) all ∙ instance_kinds_are forest class;
      literals = l ∙ ap (filter (λ id. is_some (read forest.nodes literal_written id)))
          (own_list forest lists class e) ∙ literal_nodes_are forest class;
    }

pushed : {A : Type 0} (xs : List A) (y x : A) (i : ℕ) → slice_get (xs ++ y ∷ []) i ≡ Some x →
    (slice_get xs i ≡ Some x) ⊎ ((i ≡ length xs) × (y ≡ x))
pushed [] y x zero e = inr (refl, cc)
pushed [] y x (suc i) e = absurd (cc)
pushed (z ∷ xs) y x zero e = inl e
pushed (z ∷ xs) y x (suc i) e =
    ⊎_elim (λ (h : slice_get xs i ≡ Some x). inl h)
    (λ (h : (i ≡ length xs) × (y ≡ x)). inr (ap suc h.0, h.1)) (pushed xs y x i e)

pub rows_more : (p : Declarations) (n : ℕ) (rows : List ObjectRow) (row : ObjectRow) → AreObjectRows p n rows →
    IsObjectRowOf p n row → AreObjectRows p (n + 1) (rows ++ row ∷ [])
rows_more p n rows row before here =
    record {
      whole = length_push rows row ∙ ap (λ k. k + 1) before.whole;
      each = λ class r e.
          ⊎_elim (λ (h : slice_get rows class ≡ Some r). before.each class r h)
          (λ (h : (class ≡ length rows) × (row ≡ r)).
          let same : n ≡ class = sym (h.0 ∙ before.whole) in
          let P : ℕ → Type 0 = λ k. IsObjectRowOf p k r in
          let Q : ObjectRow → Type 0 = λ x. IsObjectRowOf p n x in
          subst P same (subst Q h.1 here))
          (pushed rows row r class e);
    }
