-- The own members of a class: what is read at the nodes of its members; and what is found along a chain of classes.
use Rattle.std.proofs.Common.{◌≡◌, ℕ, ◌<◌, ◌≤◌, Bool, List, [], ◌∷◌, map, flat_map, filter, refl, sym, ap, ◌∙◌, arith, Option, Some, None, slice_get, option_map, option_and_then, unwrap_or}
use Rattle.std.specs.List.{find, filter_map}
use Rattle.std.specs.Option.{option_or}
use Rattle.std.proofs.lemmas.Bool.Decides.{nat_tests}
use Rattle.std.proofs.lemmas.Grind.{common_steps}
use Rattle.std.proofs.lemmas.List.Folds.{find-append}
use Rattle.scj_base.specs.Bytes.{is_same}
use Rattle.scj_tree.specs.declared.nodes.Node.{Node}
use Rattle.scj_tree.specs.Forest.{Forest}
use Rattle.scj_rules.specs.declared.views.Declared.{Declared}
use Rattle.scj_rules.specs.Words.{along, holds, or_else}
use Rattle.scj_rules.specs.Views.{DeclaredConstructor, DeclaredMethod, constructor_at, field_at, method_at}
use Rattle.scj_rules.specs.Classes.{ClassRow, FoundMethod, classes_above, first_user_class, is_user_class, own_field, own_method, superclasses}
use Rattle.scj_rules.specs.Contexts.{declarations_of}
use Rattle.scj_rules.specs.Types.{constructor_in}
use Rattle.method_rows.specs.declared.refs.MethodRef.{MethodRef}
use Rattle.method_rows.specs.declared.refs.MethodSource.TheVariants.{Framework as framework_source}
use Rattle.method_rows.specs.Methods.{found_method, method_from, no_method, framework_numbered, framework_method_on}
use Rattle.class_headers.proofs.PartLemmas.{node_of_constructor}
use Rattle.class_rows.specs.declared.fields.FieldRef.{FieldRef}
use Rattle.class_rows.specs.declared.members.MemberKind.{MemberKind}
use Rattle.class_rows.specs.declared.members.MemberKind.TheVariants.{Field, Method}
use Rattle.class_rows.specs.Fields.{found_field, no_field}
use Rattle.class_rows.specs.Members.{first_named, found_at, member, members_on, name_at, nearest_in, rows_of, IsNearestAbove}
use Rattle.class_rows.specs.Tables.{class_written, members_in}
use Rattle.class_rows.specs.Walks.{is_framework}
use Rattle.class_rows.proofs.RowLemmas.{as_written, under_object}
use Rattle.class_rows.proofs.SoundLemmas.{row_sound, members_of, first_methods, other_methods, framework_there}
use Rattle.class_rows.proofs.WalkLemmas.{along_append, along_front}

-- a list in a row, which is what is read at the nodes of the members, whether or not the row counts as it is written
abbrev pub list_in : {A : Type 0} → (ClassRow → List A) → Option ClassRow → List A
list_in list o = elim o [ None ↦ [] | Some row ↦ list row ]

pub list_read : {A : Type 0} (list : ClassRow → List A) (read : ℕ → Option A) →
    ((row : ClassRow) → list (under_object row) ≡ list row) → (forest : Forest) (class : ℕ) → ((row : ClassRow) →
    slice_get (declarations_of forest).written class ≡ Some row → list row ≡ filter_map read (members_of row.written))
    → list_in list (slice_get (rows_of forest) class) ≡ filter_map read (members_in (declarations_of forest) class)
unfolding members_in class_written
list_read list read same forest class sound =
    as_written (list_in list) same forest class ∙ grind (arith, common_steps, sound)

abbrev pub fields_in : Option ClassRow → List Declared
fields_in = list_in (λ (row : ClassRow). row.fields)

pub fields_at : (forest : Forest) (class : ℕ) → fields_in (slice_get (rows_of forest) class)
    ≡ filter_map (field_at forest.nodes) (members_in (declarations_of forest) class)
fields_at forest class = list_read (λ (row : ClassRow). row.fields) (field_at forest.nodes) (λ row. refl) forest class
    (λ row e. (row_sound forest class row e).fields)

-- the first of a name among nodes is the first of the name among what is read there
read_first : {A : Type 0} (read : ℕ → Option A) (name_of : A → List ℕ) (none : ℕ → A) (name ids : List ℕ) → option_map
    (λ id. unwrap_or (read id) (none id)) (find (λ id. holds (option_map name_of (read id)) (is_same name)) ids)
    ≡ find (λ a. is_same name (name_of a)) (filter_map read ids)
read_first read name_of none name [] = refl
read_first read name_of none name (id ∷ more) = grind (arith, common_steps, read_first read name_of none name more)

-- ---- fields

pub own_field_row : (forest : Forest) (class : ℕ) (name : List ℕ) (o : Option ℕ) →
    o ≡ first_named Field forest.nodes name (members_in (declarations_of forest) class) →
    option_map (found_field forest.nodes) (option_map (member class) o) ≡ own_field (rows_of forest) name class
unfolding own_field found_field name_at
own_field_row forest class name o e =
    let members = members_in (declarations_of forest) class in
    let read = read_first (field_at forest.nodes) (λ (f : Declared). f.name) no_field name members in
    grind (arith, common_steps, e, read, fields_at forest class)

-- ---- methods

abbrev pub on_method : ℕ → DeclaredMethod → FoundMethod
on_method class method = record { on = class; method = method }

abbrev pub method_in : List ℕ → List DeclaredMethod → Option DeclaredMethod
method_in name = find (λ (m : DeclaredMethod). is_same name m.declared.name)

abbrev methods_in : Option ClassRow → List DeclaredMethod
methods_in = list_in (λ (row : ClassRow). row.methods)

pub declared_row_is : (forest : Forest) (class : ℕ) (name : List ℕ) (o : Option ℕ) → first_user_class ≤ class →
    o ≡ first_named Method forest.nodes name (members_in (declarations_of forest) class) →
    option_map (found_at forest.nodes) (option_map (member class) o) ≡ own_method (rows_of forest) name class
unfolding found_method method_from name_at own_method
declared_row_is forest class name o h e =
    let members = members_in (declarations_of forest) class in
    let read = read_first (method_at forest.nodes) (λ (m : DeclaredMethod). m.declared.name) (λ id. no_method) name
    members in
    let methods = list_read (λ (row : ClassRow). row.methods) (method_at forest.nodes) (λ row. refl) forest class
    (λ row e. (row_sound forest class row e).methods ∙ sym (other_methods forest.nodes class row.written h)) in
    grind (arith, common_steps, e, read, methods)

pub framework_own : (forest : Forest) (class : ℕ) (name : List ℕ) → class < first_user_class →
    own_method (rows_of forest) name class ≡ option_map (on_method class) (framework_method_on class name)
unfolding framework_method_on own_method
framework_own forest class name h =
    let there = framework_there forest class h in
    let read = as_written methods_in (λ row. refl) forest class in
    let own = (row_sound forest class there.0 there.1).methods in
    grind (arith, common_steps, there.1, read, own, first_methods forest.nodes class there.0.written h)

abbrev framework_row : ℕ → ℕ → MethodRef
framework_row class number = record { on = class; source = framework_source number }

pub framework_row_is : (forest : Forest) (class : ℕ) (name : List ℕ) (o : Option ℕ) → class < first_user_class →
    option_map (λ number. unwrap_or (framework_numbered number) no_method) o ≡ framework_method_on class name →
    option_map (found_method forest.nodes) (option_map (framework_row class) o) ≡ own_method (rows_of forest) name class
unfolding found_method method_from
framework_row_is forest class name o h e = grind (arith, common_steps, e, framework_own forest class name h)

-- ---- constructors

abbrev first_of : List DeclaredConstructor → Option DeclaredConstructor
first_of cs = elim cs as (λ _. Option DeclaredConstructor) [ [] ↦ None | c ∷ more ↦ Some c ]

abbrev node_of : Option DeclaredConstructor → Option ℕ
node_of = option_map (λ (c : DeclaredConstructor). c.node)

pub constructor_is : (forest : Forest) (class : ℕ) →
    constructor_in (declarations_of forest).written class ≡ constructor_in (rows_of forest) class
unfolding constructor_in
constructor_is forest class =
    sym (as_written (option_and_then (λ (row : ClassRow). first_of row.constructors)) (λ row. refl) forest class)

first_again : (nodes : List Node) (ids : List ℕ) → option_and_then (constructor_at nodes)
    (node_of (first_of (filter_map (constructor_at nodes) ids))) ≡ first_of (filter_map (constructor_at nodes) ids)
first_again nodes [] = refl
first_again nodes (id ∷ ids) =
    grind (arith, common_steps, first_again nodes ids, node_of_constructor nodes id (slice_get nodes id))

pub constructor_whole : (forest : Forest) (class : ℕ) → option_and_then (constructor_at forest.nodes)
    (option_map (λ (c : DeclaredConstructor). c.node) (constructor_in (declarations_of forest).written class))
    ≡ constructor_in (rows_of forest) class
unfolding constructor_in
constructor_whole forest class =
    let constructors : ClassRow → List DeclaredConstructor = λ (row : ClassRow). row.constructors in
    let found : first_of (filter_map (constructor_at forest.nodes) (members_in (declarations_of forest) class))
    ≡ constructor_in (rows_of forest) class =
    sym (ap first_of (list_read constructors (constructor_at forest.nodes) (λ row. refl) forest class
    (λ row e. (row_sound forest class row e).constructors)))
    ∙ grind (arith, common_steps) in
    ap (λ o. option_and_then (constructor_at forest.nodes) (node_of o)) (constructor_is forest class ∙ sym found)
    ∙ first_again forest.nodes (members_in (declarations_of forest) class) ∙ found

-- ---- along classes

-- a framework class declares no members in the source
pub no_members : (forest : Forest) (class : ℕ) → class < first_user_class →
    members_in (declarations_of forest) class ≡ []
unfolding members_in class_written
no_members forest class h =
    let there = framework_there forest class h in
    grind (arith, common_steps, there.1, (row_sound forest class there.0 there.1).framework h)

find_mapped : {A B : Type 0} (test : B → Bool) (f : A → B) (xs : List A) →
    find test (map f xs) ≡ option_map f (find (λ x. test (f x)) xs)
find_mapped test f [] = refl
find_mapped test f (x ∷ xs) = grind (arith, common_steps, find_mapped test f xs)

module _ (kind : MemberKind) (forest : Forest) (name : List ℕ) where
  abbrev pub first_on : ℕ → Option FieldRef
  first_on class =
      option_map (member class) (first_named kind forest.nodes name (members_in (declarations_of forest) class))

  -- the nearest of a class with those above it is its own first one, or else the nearest above
  pub nearest_on : (class : ℕ) (above : List ℕ) →
      nearest_in kind forest name (class ∷ above) ≡ option_or (first_on class) (nearest_in kind forest name above)
  nearest_on class above =
      let test : FieldRef → Bool = λ m. holds (name_at kind forest.nodes m.node) (is_same name) in
      find-append test (members_on forest class) (flat_map (members_on forest) above)
      ∙ ap (λ (o : Option FieldRef). option_or o (nearest_in kind forest name above))
      (find_mapped test (member class) (members_in (declarations_of forest) class))

module _ (forest : Forest) (name : List ℕ) where
  pub fields_along : (classes : List ℕ) → along (own_field (rows_of forest) name) classes
      ≡ option_map (found_field forest.nodes) (nearest_in Field forest name classes)
  unfolding along
  fields_along [] = refl
  fields_along (c ∷ cs) =
      let front = along_front (own_field (rows_of forest) name) c cs in
      let here = own_field_row forest c name _ refl in
      grind (arith, common_steps, front, here, fields_along cs, nearest_on Field forest name c cs)

  pub methods_along : (classes : List ℕ) → along (own_method (rows_of forest) name) (filter is_user_class classes)
      ≡ option_map (found_at forest.nodes) (nearest_in Method forest name classes)
  unfolding along
  methods_along [] = refl
  methods_along (c ∷ cs) =
      let own = own_method (rows_of forest) name in
      let front = along_front own c (filter is_user_class cs) in
      let here : first_user_class ≤ c → option_map (found_at forest.nodes) (first_on Method forest name c) ≡ own c =
      λ h. declared_row_is forest c name _ h refl in
      let whole = nearest_on Method forest name c cs in
      grind (arith, common_steps, nat_tests, front, here, no_members forest c, methods_along cs, whole)

-- ---- what a look-up finds

module _ (forest : Forest) (class : ℕ) (name : List ℕ) (near : Option FieldRef) where
  abbrev above : List ℕ
  above = classes_above (rows_of forest) class

  abbrev those : List ℕ
  those = superclasses (rows_of forest) class

  pub field_is : IsNearestAbove Field forest class name near → along (own_field (rows_of forest) name) those
      ≡ or_else (own_field (rows_of forest) name class) (option_map (found_field forest.nodes) near)
  field_is h =
      let front = along_front (own_field (rows_of forest) name) class above in
      grind (arith, common_steps, h.chain, h.nearest, front, fields_along forest name above)

  abbrev own : ℕ → Option FoundMethod
  own = own_method (rows_of forest) name

  pub method_is : IsNearestAbove Method forest class name near → along own those ≡ or_else (own class)
      (or_else (option_map (found_at forest.nodes) near) (along own (filter is_framework those)))
  method_is h =
      let parts = ap (along own) h.split
      ∙ sym (along_append own (filter is_user_class those) (filter is_framework those)) in
      let chain = ap (λ (xs : List ℕ). along own (filter is_user_class xs)) h.chain in
      let front = along_front own class above in
      let first = along_front own class (filter is_user_class above) in
      grind (arith, common_steps, h.chain, h.nearest, parts, chain, front, first, methods_along forest name above)
