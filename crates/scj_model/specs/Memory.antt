-- Memory areas: how full they are, what a new object takes, and what opening and closing an area does (JSR 302: memory
-- areas, ManagedMemory).
use Rattle.std.specs.Prelude.{ℕ, ◌+◌, ◌==◌, nat_lt, Bool, true, false, not, List, [], ◌∷◌, ◌++◌, length, map, filter, sum, replicate, slice_set, pos, neg_ℤ, Option, Some, None, if◌then◌else◌}
use Rattle.std.specs.Int.{next_multiple_of}
use Rattle.scj_base.specs.declared.values.Value.{Value}
use Rattle.scj_base.specs.declared.values.Value.TheVariants.{Int, Bool as Truth, Null}
use Rattle.scj_builtins.specs.Framework.{periodic_handler, aperiodic_handler}
use Rattle.scj_tree.specs.declared.nodes.Node.{Node}
use Rattle.scj_tree.specs.declared.nodes.Node.TheVariants.{Number as NumberNode, True, False, Null as NullNode}
use Rattle.scj_rules.specs.declared.views.Declared.{Declared}
use Rattle.scj_rules.specs.declared.views.SlotKind.{SlotKind}
use Rattle.scj_rules.specs.declared.views.SlotKind.TheVariants.{Number, Truth as TruthKind, Reference}
use Rattle.scj_rules.specs.Words.{is_among, chain, holds, ◌>>=◌}
use Rattle.scj_rules.specs.Classes.{superclasses, instance_fields}
use Rattle.scj_rules.specs.Contexts.{Declarations}
use Rattle.scj_rules.specs.Layout.{kind_of_type, size_with_slots}
use Rattle.scj_model.specs.State.{MemoryArea, Object, State, changed, area_at}

-- ---- values

-- the value of a literal (JLS 3.10)
unfoldable pub literal_value : Node → Option Value
literal_value (NumberNode position value is_negative) = Some (Int (if is_negative then neg_ℤ (pos value) else pos value))
literal_value (True position) = Some (Truth true)
literal_value (False position) = Some (Truth false)
literal_value (NullNode position) = Some Null
literal_value _ = None

-- the value with which a field, an element or a local begins (JLS 4.12.5)
unfoldable pub default_value : SlotKind → Value
default_value Number = Int (pos 0)
default_value TruthKind = Truth false
default_value Reference = Null

-- ---- new objects

-- the hidden fields of a new handler: until its parameters are read, the priority is 1, and the period of a periodic
-- handler too
unfoldable pub hidden_values : Declarations → ℕ → List Value
hidden_values p class =
    if is_among periodic_handler (superclasses p.classes class)
    then Int (pos 1) ∷ Int (pos 0) ∷ Int (pos 0) ∷ Int (pos 1) ∷ []
    else (if is_among aperiodic_handler (superclasses p.classes class) then Int (pos 1) ∷ Int (pos 0) ∷ [] else [])

-- the slots of a new object of a class, and of a new array
unfoldable pub new_slots : Declarations → ℕ → List Value
new_slots p class =
    hidden_values p class
    ++ map (λ (f : Declared). default_value (kind_of_type f.declared_type)) (instance_fields p.classes class)

abbrev pub new_elements : SlotKind → ℕ → List Value
new_elements kind count = replicate count (default_value kind)

-- the ceiling of a new object is the highest priority (JSR 302: the default ceiling)
abbrev pub highest_priority : ℕ
highest_priority = 28

abbrev pub new_object : ℕ → ℕ → List Value → Object
new_object class area slots = record { class = class; area = area; slots = slots; ceiling = highest_priority }

-- ---- how full an area is, and the store

-- Used: the bytes of the objects that lie in the area
unfoldable pub used : State → ℕ → ℕ
used s area =
    sum (map (λ (o : Object). size_with_slots (length o.slots)) (filter (λ (o : Object). o.area == area) s.objects))

-- an object with so many slots has room in the area
unfoldable pub has_room : State → ℕ → ℕ → Bool
has_room s area count = holds (area_at s area) (λ x. not (nat_lt x.bytes (used s area + size_with_slots count)))

-- the bytes that an area takes of the store: its own, rounded up to whole words
abbrev pub word_bytes : ℕ
word_bytes = 8

abbrev pub rounded_up : ℕ → ℕ
rounded_up bytes = next_multiple_of bytes word_bytes

-- Reserved: the bytes that the open areas reserve
unfoldable pub reserved : State → ℕ
reserved s = sum (map (λ (x : MemoryArea). rounded_up x.bytes) (filter (λ (x : MemoryArea). x.is_open) s.areas))

-- the store has room for one more area
unfoldable pub has_store_for : State → ℕ → Bool
has_store_for s bytes = not (nat_lt s.store (reserved s + rounded_up bytes))

-- ---- what happens to memory

-- the state with one more object, which is the last
abbrev pub with_object : State → ℕ → ℕ → List Value → State
with_object s class area slots = record s { objects = s.objects ++ new_object class area slots ∷ [] }

-- the state with another value in a slot of an object
abbrev pub with_slot : State → ℕ → ℕ → Value → State
with_slot s r slot value =
    record s { objects = changed (λ o. record o { slots = slice_set o.slots slot value }) r s.objects }

-- the state with one more area, which is the last, inside another
abbrev pub with_area : State → ℕ → Option ℕ → ℕ → State
with_area s scope parent bytes =
    record s { areas = s.areas ++ record { scope = scope; parent = parent; bytes = bytes; is_open = true } ∷ [] }

unfoldable pub closed : State → Option ℕ → State
closed s None = s
closed s (Some a) = record s { areas = changed (λ x. record x { is_open = false }) a s.areas }

-- ---- how areas lie in one another

-- an area is another one or lies inside it
unfoldable pub lies_in : State → ℕ → ℕ → Bool
lies_in s inner outer = is_among outer (chain (λ a. area_at s a >>= (λ x. x.parent)) (length s.areas) inner)

-- the first of these areas that has the scope
unfoldable pub area_with_scope : State → ℕ → List ℕ → Option ℕ
area_with_scope s scope [] = None
area_with_scope s scope (a ∷ areas) =
    if holds (area_at s a) (λ x. x.scope == scope) then Some a else area_with_scope s scope areas
