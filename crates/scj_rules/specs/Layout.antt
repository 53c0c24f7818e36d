-- Object layout: the slots of the objects of a class, the sizes of objects and arrays, what a slot holds, and the
-- static fields (JLS 4.12.5, 8.3, 10.1; JSR 302 leaves the size of an object to the implementation). Each is said of
-- any program, also of one that breaks rules.
use Rattle.std.specs.Prelude.{ℕ, ◌+◌, ◌-◌, ◌*◌, nat_lt, not, ◌||◌, ◌==◌, List, length, filter, flat_map, position, slice_get, Option, Some, None, if◌then◌else◌, is_some, option_map}
use Rattle.scj_tree.specs.declared.nodes.Node.{Node}
use Rattle.scj_tree.specs.declared.nodes.Node.TheVariants.{Field}
use Rattle.scj_rules.specs.Definitions.{read}
use Rattle.scj_rules.specs.Words.{◌>>=◌, or_else}
use Rattle.scj_rules.specs.Classes.{ClassRow, hidden_fields, instance_fields, own_instance_fields}
use Rattle.scj_rules.specs.Contexts.{Declarations}
use Rattle.scj_rules.specs.declared.views.Declared.{Declared}
use Rattle.scj_rules.specs.declared.views.SlotKind.{SlotKind}
use Rattle.scj_rules.specs.declared.views.SlotKind.TheVariants.{Number, Truth, Reference}
use Rattle.scj_rules.specs.declared.views.WrittenType.{WrittenType}
use Rattle.scj_rules.specs.declared.views.WrittenType.TheVariants.{Boolean as boolean_type, Int as int_type}

-- ---- what a slot holds

-- what a variable, a field or an element of this type holds
unfoldable pub kind_of_type : WrittenType → SlotKind
kind_of_type int_type = Number
kind_of_type boolean_type = Truth
kind_of_type _ = Reference

-- ---- fields

-- the declared fields, instance and static, each at its number
unfoldable pub declared_fields : Declarations → List Declared
declared_fields p = flat_map (λ (row : ClassRow). row.fields) p.classes

abbrev pub field_numbered : Declarations → ℕ → Option Declared
field_numbered p field = slice_get (declared_fields p) field

-- what a field holds
unfoldable pub field_kind : Declarations → ℕ → Option SlotKind
field_kind p field = option_map (λ (f : Declared). kind_of_type f.declared_type) (field_numbered p field)

-- the place of a field among these
abbrev pub index_among : List Declared → Declared → Option ℕ
index_among fields f = position (λ (other : Declared). other.node == f.node) fields

-- the node of the literal with which a field is declared, if one is written (JLS 8.3.2)
unfoldable pub literal_written : Node → Option ℕ
literal_written (Field position name flags declared_type equals value) = value
literal_written _ = None

abbrev pub field_literal : Declarations → Declared → Option ℕ
field_literal p f = read p.nodes literal_written f.node

-- ---- objects

-- how many slots an object of a class has: the hidden fields, then the instance fields from the farthest class down
unfoldable pub slots : Declarations → ℕ → ℕ
slots p class = hidden_fields p.classes class + length (instance_fields p.classes class)

-- the slot of a field in the objects of a class
unfoldable pub slot_of : Declarations → ℕ → ℕ → Option ℕ
slot_of p class field =
    field_numbered p field >>= (λ f.
    option_map (λ k. hidden_fields p.classes class + k) (index_among (instance_fields p.classes class) f))

-- the class that declares a field
unfoldable pub declaring_class : Declarations → ℕ → Option ℕ
declaring_class p field =
    field_numbered p field
    >>= (λ f. position (λ (row : ClassRow). is_some (index_among row.fields f)) p.classes)

-- the hidden slots of a handler: its priority and its storage; of a periodic one its start and its period too
abbrev pub priority_slot : ℕ
priority_slot = 0

abbrev pub storage_slot : ℕ
storage_slot = 1

abbrev pub start_slot : ℕ
start_slot = 2

abbrev pub period_slot : ℕ
period_slot = 3

-- the instance fields that a class itself declares with a literal
unfoldable pub fields_with_literal : Declarations → ℕ → List Declared
fields_with_literal p class = filter (λ f. is_some (field_literal p f)) (own_instance_fields p.classes class)

-- ---- sizes in bytes

-- each object and each array has two words in front of its slots
unfoldable pub size_with_slots : ℕ → ℕ
size_with_slots count = 8 * (2 + count)

-- ---- arrays

-- the classes of arrays have the numbers behind all classes: first of int, then of boolean, then of each class
abbrev pub first_array_class : Declarations → ℕ
first_array_class p = length p.names

-- what the elements of an array of this class hold; nothing for a class that is no array's
unfoldable pub element_kind : Declarations → ℕ → Option SlotKind
element_kind p class =
    if nat_lt class (first_array_class p) then None
    else (if class == first_array_class p then Some Number
    else (if class == first_array_class p + 1 then Some Truth
    else (if nat_lt class (first_array_class p + 2 + length p.names) then Some Reference else None)))

-- the class of the elements of an array of class type
unfoldable pub class_of_elements : Declarations → ℕ → Option ℕ
class_of_elements p class =
    if nat_lt class (first_array_class p + 2) || not (nat_lt class (first_array_class p + 2 + length p.names)) then None
    else Some (class - (first_array_class p + 2))

-- ---- static fields

-- the static fields in the order of the sources, each at its place among all statics
unfoldable pub static_fields : Declarations → List Declared
static_fields p = filter (λ (f : Declared). f.modifiers.is_static) (declared_fields p)

-- the place of a static field among all statics
unfoldable pub static_index : Declarations → ℕ → Option ℕ
static_index p field = field_numbered p field >>= index_among (static_fields p)

-- where the value of a field lies: a static field's at its place among all statics, another one's in the slot that the
-- field has in the objects of the class that declares it. In those of each class under that one it has the same slot
unfoldable pub index_of_field : Declarations → ℕ → Option ℕ
index_of_field p field =
    or_else (static_index p field) (declaring_class p field >>= (λ class. slot_of p class field))
