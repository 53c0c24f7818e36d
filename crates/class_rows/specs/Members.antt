-- The members of classes: which have numbers, the first of each name in a class, and the nearest of a name above one.
use Rattle.std.specs.Prelude.{◌≡◌, ◌<◌, ◌≤◌, ◌-◌, ℕ, nat_lt, Bool, ◌&&◌, ◌==◌, List, [], ◌∷◌, ◌++◌, length, map, flat_map, filter, find, slice_get, All, is_some, Option, None, Some, option_map, option_and_then, if◌then◌else◌}
use Rattle.std.specs.HashMap.{get}
use Rattle.std.specs.Global.{Vec}
use Rattle.std.specs.BTreeMap.{BTreeMap, get as get_ordered}
use Rattle.std.specs.Cmp.Lexicographic.{slice_cmp}
use Rattle.std.specs.List.{take_while}
use Rattle.std.specs.List.Sorted.{IsNonDecreasingBy}
use Rattle.std.specs.Option.{option_map_or}
use Rattle.std.specs.Ordering.{nat_cmp}
use Rattle.scj_base.specs.Bytes.{is_same}
use Rattle.scj_builtins.specs.Framework.{framework_method_count}
use Rattle.scj_tree.specs.declared.nodes.Node.{Node}
use Rattle.scj_tree.specs.Forest.{Forest}
use Rattle.scj_rules.specs.declared.views.Declared.{Declared}
use Rattle.scj_rules.specs.Words.{holds}
use Rattle.scj_rules.specs.Views.{DeclaredMethod, field_at, method_at}
use Rattle.scj_rules.specs.Classes.{ClassRow, FoundMethod, classes_above, field_nodes, field_number, is_callable, is_user_class, method_nodes, method_number, superclasses}
use Rattle.scj_rules.specs.Contexts.{declarations_of}
use Rattle.method_rows.specs.declared.refs.MethodRef.{MethodRef}
use Rattle.method_rows.specs.declared.refs.MethodSource.TheVariants.{Declared as declared_source}
use Rattle.method_rows.specs.Methods.{found_method}
use Rattle.class_headers.specs.Members.{members_in}
use Rattle.class_headers.specs.NamedNumbers.{found_under}
use Rattle.class_rows.specs.declared.members.MemberKind.{MemberKind}
use Rattle.class_rows.specs.declared.members.MemberKind.TheVariants.{Field, Method}
use Rattle.class_rows.specs.declared.members.Members.{Members}
use Rattle.class_rows.specs.declared.members.OwnKey.{OwnKey}
use Rattle.class_rows.specs.declared.fields.FieldRef.{FieldRef}
use Rattle.class_rows.specs.declared.nearest.Change.{Change}
use Rattle.class_rows.specs.declared.nearest.NearestMembers.{NearestMembers}
use Rattle.class_rows.specs.Walks.{is_framework}

-- a member of the kind is declared at a node
unfoldable pub is_member : MemberKind → List Node → ℕ → Bool
is_member Field nodes id = is_some (field_at nodes id)
is_member Method nodes id = is_callable nodes id

-- the name under which it is found
unfoldable pub name_at : MemberKind → List Node → ℕ → Option (List ℕ)
name_at Field nodes id = option_map (λ (f : Declared). f.name) (field_at nodes id)
name_at Method nodes id = option_map (λ (m : DeclaredMethod). m.declared.name) (method_at nodes id)

-- a member of the kind at the node has the name
abbrev pub is_named : MemberKind → List Node → List ℕ → ℕ → Bool
is_named kind nodes name id = holds (name_at kind nodes id) (is_same name)

-- the first of these nodes with a member of the kind and the name
abbrev pub first_named : MemberKind → List Node → List ℕ → List ℕ → Option ℕ
first_named kind nodes name members = find (is_named kind nodes name) members

-- the nodes of all members of the kind, and their numbers
unfoldable pub member_nodes : MemberKind → Forest → List ℕ
member_nodes Field forest = field_nodes (declarations_of forest).classes
member_nodes Method forest = method_nodes forest.nodes (declarations_of forest).users

unfoldable pub number_at : MemberKind → Forest → ℕ → Option ℕ
number_at Field forest id = field_number (declarations_of forest).classes id
number_at Method forest id = method_number forest.nodes (declarations_of forest).users id

-- the first number
abbrev pub first_number : MemberKind → ℕ
first_number Field = 0
first_number Method = framework_method_count

-- the first member of all classes with the name
abbrev pub first_declared : MemberKind → Forest → List ℕ → Option ℕ
first_declared kind forest name = first_named kind forest.nodes name (member_nodes kind forest)

-- the name of a node's member has this first, by what `find` tells of names
abbrev pub is_like : MemberKind → List Node → (List ℕ → Option ℕ) → ℕ → ℕ → Bool
is_like kind nodes find first id = holds (option_and_then find (name_at kind nodes id)) (λ other. other == first)

abbrev pub own_key : ℕ → ℕ → OwnKey
own_key class first = record { class = class; first = first }

abbrev pub is_same_own : OwnKey → OwnKey → Bool
is_same_own a b = (a.class == b.class) && (a.first == b.first)

-- what a class's members give for a key, where the key is of that class
abbrev pub in_class : ℕ → OwnKey → Option ℕ → Option ℕ
in_class class key found = if class == key.class then found else None

-- the table is that of the members of the kind
pub record IsMembersOf (kind : MemberKind) (forest : Forest) (members : Members) : Type 0 where
  pub nodes : members.nodes.items ≡ member_nodes kind forest
  pub firsts : (name : List ℕ) → found_under members.firsts name ≡ first_declared kind forest name
  pub named : (class first : ℕ) (name : List ℕ) → Some first ≡ first_declared kind forest name →
      get is_same_own members.named (own_key class first) ≡ first_named kind forest.nodes name
      (members_in (declarations_of forest) class)
  pub numbers : (id : ℕ) → get ◌==◌ members.numbers id ≡ number_at kind forest id

-- ---- of classes

abbrev pub rows_of : Forest → List ClassRow
rows_of forest = (declarations_of forest).classes

abbrev pub member : ℕ → ℕ → FieldRef
member on node = record { on = on; node = node }

-- what a look-up gives of a method
abbrev pub as_method : FieldRef → MethodRef
as_method m = record { on = m.on; source = declared_source m.node }

abbrev pub found_at : List Node → FieldRef → FoundMethod
found_at nodes m = found_method nodes (as_method m)

abbrev pub is_abstract : DeclaredMethod → Bool
is_abstract m = m.declared.modifiers.is_abstract

abbrev pub is_abstract_at : List Node → FieldRef → Bool
is_abstract_at nodes m = holds (method_at nodes m.node) is_abstract

abbrev pub if_abstract : List Node → Option FieldRef → Option FieldRef
if_abstract nodes None = None
if_abstract nodes (Some m) = if is_abstract_at nodes m then Some m else None

-- the members of a class, and those of several classes
abbrev pub members_on : Forest → ℕ → List FieldRef
members_on forest class = map (member class) (members_in (declarations_of forest) class)

abbrev pub members_of : Forest → List ℕ → List FieldRef
members_of forest classes = flat_map (members_on forest) classes

-- the first of these members that has the name
abbrev pub nearest_named : MemberKind → List Node → List ℕ → List FieldRef → Option FieldRef
nearest_named kind nodes name members = find (λ (m : FieldRef). is_named kind nodes name m.node) members

-- the nearest member of the name that these classes declare, the nearest class first
abbrev pub nearest_in : MemberKind → Forest → List ℕ → List ℕ → Option FieldRef
nearest_in kind forest name classes = nearest_named kind forest.nodes name (members_of forest classes)

-- behind user classes come the framework's
abbrev pub IsSplit : List ℕ → Type 0
IsSplit classes = classes ≡ filter is_user_class classes ++ filter is_framework classes

-- the member is the nearest of the name above the class
pub record IsNearestAbove (kind : MemberKind) (forest : Forest) (class : ℕ) (name : List ℕ) (found : Option FieldRef)
    : Type 0 where
  pub chain : superclasses (rows_of forest) class ≡ class ∷ classes_above (rows_of forest) class
  pub split : IsSplit (superclasses (rows_of forest) class)
  pub nearest : found ≡ nearest_in kind forest name (classes_above (rows_of forest) class)

-- ---- after changes

abbrev pub change : ℕ → Option FieldRef → Change
change before nearest = record { before = before; nearest = nearest }

-- what a name stands for after the last of these changes, if there are any
abbrev pub latest : List Change → Option FieldRef
latest changes = option_and_then (λ (c : Change). c.nearest) (slice_get changes (length changes - 1))

-- the change came before there were so many, of whatever names
abbrev pub is_before : ℕ → Change → Bool
is_before count c = nat_lt c.before count

abbrev pub nearest_before : ℕ → List Change → Option FieldRef
nearest_before count changes = latest (take_while (is_before count) changes)

-- the changes with one more behind them, where it is of their name
abbrev pub with_change : Bool → Change → List Change → List Change
with_change is_theirs change changes = if is_theirs then changes ++ change ∷ [] else changes

abbrev pub changes_under : BTreeMap (List ℕ) (Vec Change) → List ℕ → List Change
changes_under changes name =
    option_map_or (λ (v : Vec Change). v.items) (get_ordered (slice_cmp nat_cmp) changes name) []

-- the member that is kept under a name
abbrev pub kept_under : BTreeMap (List ℕ) FieldRef → List ℕ → Option FieldRef
kept_under members name = get_ordered (slice_cmp nat_cmp) members name

-- the nearest member of a name now
abbrev pub nearest_now : NearestMembers → List ℕ → Option FieldRef
nearest_now ns name = latest (changes_under ns.changes name)

-- the changes came one after the other, and there were so many of whatever names
pub record AreInOrder (count : ℕ) (changes : List Change) : Type 0 where
  pub rising : IsNonDecreasingBy (λ (c : Change). c.before) changes
  pub past : All (λ (c : Change). c.before < count) changes

-- it is told what stands above the class
abbrev pub is_reported : NearestMembers → ℕ → Bool
is_reported ns class = is_some (get ◌==◌ ns.reported class)

-- what is told of the classes is right, and so is which of the nearest members now are abstract methods
pub record AreNearest (kind : MemberKind) (forest : Forest) (ns : NearestMembers) : Type 0 where
  pub in_order : (name : List ℕ) → AreInOrder ns.count (changes_under ns.changes name)
  pub reported : (class count : ℕ) → get ◌==◌ ns.reported class ≡ Some count → (count ≤ ns.count) × ((name : List ℕ) →
      IsNearestAbove kind forest class name (nearest_before count (changes_under ns.changes name)))
  pub abstracts : (name : List ℕ) → kept_under ns.abstracts name ≡ if_abstract forest.nodes (nearest_now ns name)

-- the nearest members now are those of these classes
pub record AreNamed (kind : MemberKind) (forest : Forest) (ns : NearestMembers) (classes : List ℕ) : Type 0 where
  pub reported : AreNearest kind forest ns
  pub nearest : (name : List ℕ) → nearest_now ns name ≡ nearest_in kind forest name classes
