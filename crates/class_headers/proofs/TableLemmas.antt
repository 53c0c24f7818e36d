-- The columns of the table and its marks are those of the rows, and what they tell of a class.
use Rattle.std.proofs.Common.{◌≡◌, ℕ, ◌<◌, false, bit_or, List, [], ◌∷◌, ◌++◌, length, map, refl, sym, ap, ◌∙◌, Option, Some, None, slice_get, option_map, option_and_then, ◌^◌, ◌≤◌, arith, ⊎_elim, unwrap_or, Bool, slice_index_or, subst}
use Rattle.std.proofs.lemmas.List.{length-map, get_or_past, map-append}
use Rattle.std.proofs.lemmas.Simd.{map-map}
use Rattle.std.proofs.lemmas.Option.{slice_get-map, slice_get_past, slice_get_within}
use Rattle.scj_tree.specs.Recursion.{lookup, listed}
use Rattle.scj_tree.specs.Forest.{Forest}
use Rattle.scj_rules.specs.Classes.{ClassRow, superclass_in, interfaces_in, superclasses, all_interfaces, classes_above, is_cyclic, class_number, class_names, class_nodes, user_classes, superclass_written, user_row, framework_row, framework_rows_from, written_rows}
use Rattle.scj_rules.specs.Types.{constructor_in}
use Rattle.scj_rules.specs.Contexts.{declarations_of}
use Rattle.class_headers.specs.declared.filling.Header.{Header}
use Rattle.class_headers.specs.declared.filling.Headers.TheInside.{Inside}
use Rattle.scj_rules.specs.Views.{WrittenClass, DeclaredConstructor, class_at}
use Rattle.class_headers.specs.Members.{class_written}
use Rattle.scj_rules.specs.Words.{is_among, StaysBelow}
use Rattle.class_headers.specs.Ways.{no_way, has_bit, above_in, named_in, doubled, first_way, way_by, first_ways, ends_at, AreDoubled}
use Rattle.class_headers.specs.NamedNumbers.{found_under}
use Rattle.class_headers.specs.Columns.{kind_count, IsHeadersOf, AreWaysOf}
use Rattle.class_headers.specs.Rows.{header_of, header_by, superclass_by, interfaces_by, interfaces_at, framework_header}
use Rattle.class_headers.specs.declared.ways.Way.{Way}
use Rattle.class_headers.proofs.WayLemmas.{has_or, way, first_is, doubled_is, ends_are, none_behind, above_are, implemented_are}
use Rattle.std.proofs.lemmas.Bool.{cases_lt}
use Rattle.std.proofs.lemmas.Grind.{common_steps}
use Rattle.std.specs.List.{list_any, filter_map, position}
use Rattle.scj_tree.proofs.RecursionLemmas.{length-listed}
use Rattle.scj_builtins.specs.declared.classes.FrameworkClass.{FrameworkClass}
use Rattle.scj_builtins.specs.Framework.{framework_classes}
use Rattle.scj_tree.specs.declared.nodes.Node.{Node}
use Rattle.scj_base.specs.Bytes.{is_same}
use Rattle.scj_rules.proofs.WithinLemmas.{written-stays}
use Rattle.class_headers.proofs.SoundLemmas.{framework_there, read_again}
use Rattle.class_headers.proofs.PartLemmas.{map_filter_map}

pub count_is : (forest : Forest) (headers : Inside) → IsHeadersOf forest headers →
    length headers.rows.items ≡ length (declarations_of forest).written
count_is forest headers t = ap length t.rows ∙ length-map (declarations_of forest).written header_of

pub header_is : (forest : Forest) (headers : Inside) (class : ℕ) → IsHeadersOf forest headers →
    slice_get headers.rows.items class ≡ option_map header_of (slice_get (declarations_of forest).written class)
header_is forest headers class t = ap (λ (hs : List Header). slice_get hs class) t.rows
    ∙ slice_get-map header_of (declarations_of forest).written class

pub kind_of : (o : Option ClassRow) → option_map (λ (h : Header). h.kind) (option_map header_of o) ≡ option_map
    (λ (row : ClassRow). row.kind) o
unfolding header_of
kind_of o = grind (arith, common_steps)

pub node_is : (forest : Forest) (class : ℕ)
    → option_and_then (λ (h : Header). h.node) (option_map header_of (slice_get (declarations_of forest).written class))
    ≡ option_map (λ (c : WrittenClass). c.node) (class_written (declarations_of forest) class)
unfolding class_written header_of
node_is forest class = grind (arith, common_steps)

-- the superclass and the interfaces by headers and lists are those of the rows
pub superclass_at : (all : List ClassRow) (class : ℕ) → above_in (map header_of all) class ≡ superclass_in all class
unfolding header_of
superclass_at all class = grind (arith, common_steps, slice_get-map header_of all class)

pub lists_at : (all : List ClassRow) (class : ℕ) →
    named_in (map (λ (row : ClassRow). row.interfaces) all) class ≡ interfaces_in all class
lists_at all class = grind (arith, common_steps, slice_get-map (λ (row : ClassRow). row.interfaces) all class)

pub superclass_is : (forest : Forest) (headers : Inside) (class : ℕ) → IsHeadersOf forest headers →
    above_in headers.rows.items class ≡ superclass_in (declarations_of forest).written class
superclass_is forest headers class t = ap (λ (hs : List Header). above_in hs class) t.rows
    ∙ superclass_at (declarations_of forest).written class

pub interfaces_is : (forest : Forest) (headers : Inside) (class : ℕ) → IsHeadersOf forest headers →
    named_in (map (λ v. v.items) headers.interfaces.items) class ≡ interfaces_in (declarations_of forest).written class
interfaces_is forest headers class t = ap (λ (xs : List (List ℕ)). named_in xs class) t.interfaces
    ∙ lists_at (declarations_of forest).written class

pub constructor_is : (forest : Forest) (class : ℕ)
    → option_and_then (λ (h : Header). h.constructor)
    (option_map header_of (slice_get (declarations_of forest).written class))
    ≡ option_map (λ (c : DeclaredConstructor). c.node) (constructor_in (declarations_of forest).written class)
unfolding constructor_in header_of
constructor_is forest class = grind (arith, common_steps)

pub bits_are : (forest : Forest) (headers : Inside) (kind class : ℕ) → IsHeadersOf forest headers → kind < kind_count
    → has_bit (bit_or (lookup no_way headers.ways.items class).above
    (lookup no_way headers.ways.items class).implemented) kind
    ≡ is_among kind (superclasses (declarations_of forest).written class
    ++ all_interfaces (declarations_of forest).written class)
bits_are forest headers kind class t h =
    let way : Way = lookup no_way headers.ways.items class in
    let both = has_or way.above way.implemented kind in
    grind (arith, common_steps, both, t.ways.above kind class h, t.ways.implemented kind class h)

first_ways_are : (all : List ClassRow)
    → listed (way_by (map header_of all) (map (λ (row : ClassRow). row.interfaces) all)) (length (map header_of all))
    ≡ first_ways all
first_ways_are all = λ i. listed (λ class. first_way class (superclass_at all class i) (lists_at all class i))
    (length-map all header_of i)

module _ (all : List ClassRow) (stays : StaysBelow (superclass_in all) (length all)) (ways : List Way)
    (by : AreDoubled (first_ways all) (length ways) ways) where
  abbrev n : ℕ
  n = length all

  abbrev next : ℕ → Option ℕ
  next = superclass_in all

  abbrev own : ℕ → List ℕ
  own = interfaces_in all

  abbrev m : ℕ
  m = 2 ^ by.rounds

  first_are : first_ways all ≡ listed (way next own 1) n
  unfolding first_way
  first_are = λ i. listed (λ x. first_is next n stays own x i) n

  as_listed : ways ≡ listed (way next own m) n
  as_listed = by.are ∙ ap (doubled by.rounds) first_are ∙ doubled_is next n stays own by.rounds

  size : length ways ≡ n
  size = ap length as_listed ∙ length-listed (way next own m) n

  far : n ≤ m
  far = omega (arith, by.far, size)

  none_past : (x : ℕ) → n ≤ x → next x ≡ None
  none_past x h = grind (arith, common_steps, slice_get_past all x h)

  no_interfaces_past : (x : ℕ) → n ≤ x → own x ≡ []
  no_interfaces_past x h = grind (arith, common_steps, slice_get_past all x h)

  pub cyclic_are : (marks : List Bool) → length marks ≡ length ways
      → ((x : ℕ) → x < length ways → slice_index_or marks x false ≡ list_any (ends_at x) ways) → (x : ℕ) →
      slice_index_or marks x false ≡ is_cyclic all x
  unfolding classes_above
  cyclic_are marks whole exact x =
      ⊎_elim
      (λ (h : x < n). exact x (omega (arith, h, size)) ∙ ap (list_any (ends_at x)) as_listed
      ∙ ends_are next n stays own m far x h)
      (λ (h : n ≤ x). get_or_past marks x false (omega (arith, h, size, whole))
      ∙ sym (none_behind next n stays own m far x (none_past x h)))
      (cases_lt x n)

  pub ways_are : kind_count ≤ length all → AreWaysOf all ways
  unfolding superclasses all_interfaces
  ways_are kinds =
      record {
        above = λ kind x h.
            ap (λ (ws : List Way). has_bit (lookup no_way ws x).above kind) as_listed
            ∙ above_are next n stays own m far kind (omega (arith, h)) (omega (arith, h, kinds)) none_past x;
        implemented = λ kind x h.
            ap (λ (ws : List Way). has_bit (lookup no_way ws x).implemented kind) as_listed
            ∙ implemented_are next n stays own m far kind (omega (arith, h))
            (λ y k. (none_past y k, no_interfaces_past y k)) x;
      }

module _ (nodes : List Node) (ids : List ℕ) (find : List ℕ → Option ℕ)
    (finds : find ≡ class_number (class_names (filter_map (class_at nodes) ids))) where
  abbrev users : List WrittenClass
  users = filter_map (class_at nodes) ids

  abbrev row_of : WrittenClass → ClassRow
  row_of = user_row nodes (class_names users)

  header_found : (c : WrittenClass) → header_by nodes find c ≡ header_of (row_of c)
  unfolding header_by header_of user_row superclass_by superclass_written
  header_found c =
      let found : (name : List ℕ) → find name ≡ class_number (class_names users) name = λ name i. finds i name in
      grind (arith, common_steps, found)

  all_headers : map framework_header framework_classes
      ++ filter_map (λ id. option_map (header_by nodes find) (class_at nodes id)) ids
      ≡ map header_of (written_rows nodes users)
  unfolding written_rows framework_rows_from framework_classes
  all_headers = ap (λ hs. map header_of (framework_rows_from 0 framework_classes) ++ hs)
      (map_filter_map (header_by nodes find) (class_at nodes) ids ∙ (λ i. map (λ c. header_found c i) users)
      ∙ sym (map-map header_of row_of users))
      ∙ sym (map-append header_of (framework_rows_from 0 framework_classes) (map row_of users))

  abbrev list_of : ClassRow → List ℕ
  list_of row = interfaces_at nodes find (header_of row).node

  -- what is read at the node of a class that is read somewhere is its own
  user_list : (id : ℕ) (c : WrittenClass) → class_at nodes id ≡ Some c → list_of (row_of c) ≡ (row_of c).interfaces
  unfolding header_of user_row interfaces_at
  user_list id c e =
      ap (λ (o : Option WrittenClass). interfaces_by find
      (unwrap_or (option_map (λ (d : WrittenClass). d.implements) o) [])) (read_again nodes id c e)
      ∙ ap (λ f. interfaces_by f c.implements) finds

  user_lists : (some : List ℕ) →
      map (λ c. list_of (row_of c)) (filter_map (class_at nodes) some)
      ≡ map (λ c. (row_of c).interfaces) (filter_map (class_at nodes) some)
  user_lists [] = refl
  user_lists (id ∷ some) = grind (arith, common_steps, user_list id, user_lists some)

  all_lists : map list_of (written_rows nodes users)
      ≡ map (λ (row : ClassRow). row.interfaces) (written_rows nodes users)
  unfolding written_rows framework_rows_from framework_row framework_classes header_of interfaces_at
  all_lists = map-append list_of (framework_rows_from 0 framework_classes) (map row_of users)
      ∙ ap (λ (xss : List (List ℕ)). map list_of (framework_rows_from 0 framework_classes) ++ xss)
      (map-map list_of row_of users ∙ user_lists ids ∙ sym (map-map (λ (row : ClassRow). row.interfaces) row_of users))
      ∙ sym (map-append (λ (row : ClassRow). row.interfaces) (framework_rows_from 0 framework_classes)
      (map row_of users))

pub headers_are : (forest : Forest) (headers : Inside) (all : List (List ℕ))
    → all ≡ map (λ (c : FrameworkClass). c.name) framework_classes
    ++ filter_map (λ id. option_map (λ (c : WrittenClass). c.name) (class_at forest.nodes id)) (class_nodes forest)
    → ((name : List ℕ) → found_under headers.names name ≡ position (is_same name) all)
    → headers.rows.items ≡ map framework_header framework_classes ++ filter_map
    (λ id. option_map (header_by forest.nodes (found_under headers.names)) (class_at forest.nodes id))
    (class_nodes forest)
    → map (λ v. v.items) headers.interfaces.items ≡ map
    (λ (h : Header). interfaces_at forest.nodes (found_under headers.names) h.node) headers.rows.items
    → AreDoubled (listed (way_by headers.rows.items (map (λ v. v.items) headers.interfaces.items))
    (length headers.rows.items)) (length headers.ways.items) headers.ways.items
    → length headers.cyclic.items ≡ length headers.ways.items
    → ((class : ℕ) → class < length headers.ways.items →
    slice_index_or headers.cyclic.items class false ≡ list_any (ends_at class) headers.ways.items) →
    IsHeadersOf forest headers
unfolding declarations_of user_classes class_number class_names
headers_are forest headers all names found rows lists ways whole exact =
    let users : List WrittenClass = filter_map (class_at forest.nodes) (class_nodes forest) in
    let finds : found_under headers.names ≡ class_number (class_names users) =
    λ i name. (found name ∙ ap (λ (ns : List (List ℕ)). position (is_same name) ns) (names
    ∙ ap (λ (ns : List (List ℕ)). map (λ (c : FrameworkClass). c.name) framework_classes ++ ns)
    (map_filter_map (λ (c : WrittenClass). c.name) (class_at forest.nodes) (class_nodes forest)))) i in
    let last = framework_there forest 6 (omega arith) in
    let within = slice_get_within (declarations_of forest).written 6 last.0 last.1 in
    let kinds : kind_count ≤ length (declarations_of forest).written = omega (arith, within) in
    let are_headers : headers.rows.items ≡ map header_of (declarations_of forest).written =
    rows ∙ all_headers forest.nodes (class_nodes forest) (found_under headers.names) finds in
    let are_lists : map (λ v. v.items) headers.interfaces.items ≡ map (λ (row : ClassRow). row.interfaces)
    (declarations_of forest).written =
    lists ∙ ap (map (λ (h : Header). interfaces_at forest.nodes (found_under headers.names) h.node)) are_headers
    ∙ map-map (λ (h : Header). interfaces_at forest.nodes (found_under headers.names) h.node) header_of
    (declarations_of forest).written ∙ all_lists forest.nodes (class_nodes forest) (found_under headers.names) finds in
    let first : listed (way_by headers.rows.items (map (λ v. v.items) headers.interfaces.items))
    (length headers.rows.items) ≡ first_ways (declarations_of forest).written =
    (λ i. listed (way_by (are_headers i) (are_lists i)) (length (are_headers i)))
    ∙ first_ways_are (declarations_of forest).written in
    let P : List Way → Type 0 = λ ws. AreDoubled ws (length headers.ways.items) headers.ways.items in
    let by : P (first_ways (declarations_of forest).written) = subst P first ways in
    record {
      names = λ name i. finds i name;
      rows = are_headers;
      interfaces = are_lists;
      cyclic = cyclic_are (declarations_of forest).written (written-stays forest) headers.ways.items by
          headers.cyclic.items whole exact;
      ways = ways_are (declarations_of forest).written (written-stays forest) headers.ways.items by kinds;
    }
