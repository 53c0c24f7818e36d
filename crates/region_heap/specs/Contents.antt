-- What the memory of a run holds: of a state of the definitions, the part that the code keeps in one place (JSR 302:
-- memory areas). It has all areas and all objects of the run, so that a place among them is a name, though the code
-- keeps the objects of open areas alone. What changes in it are the changes of a state's memory.
use Rattle.std.specs.Prelude.{◌<◌, ℕ, Bool, true, false, IsTrue, List, [], ◌∷◌, ◌++◌, map, slice_get, slice_set, pos, Option, Some, None, length, filter, if◌then◌else◌}
use Rattle.scj_rules.specs.Words.{holds}
use Rattle.scj_base.specs.declared.values.Value.{Value}
use Rattle.scj_base.specs.declared.values.Value.TheVariants.{Int}
use Rattle.scj_model.specs.State.{MemoryArea, Object, State, changed}
use Rattle.scj_model.specs.Memory.{new_object}

-- the bytes of the store, the areas, the objects and the static fields
pub record Contents : Type 0 where
  pub store : ℕ
  pub areas : List MemoryArea
  pub objects : List Object
  pub statics : List Value

-- the state whose memory holds this, and which is else as it was
abbrev pub with_memory : State → Contents → State
with_memory s m = record s { store = m.store; areas = m.areas; objects = m.objects; statics = m.statics }

-- the first slots of an object whose hidden fields are these numbers
abbrev pub hidden_slots : List ℕ → List Value
hidden_slots hidden = map (λ n. Int (pos n)) hidden

-- ---- areas

abbrev pub new_area : ℕ → Option ℕ → ℕ → MemoryArea
new_area scope parent bytes = record { scope = scope; parent = parent; bytes = bytes; is_open = true }

abbrev pub closed_area : MemoryArea → MemoryArea
closed_area x = record x { is_open = false }

abbrev pub opening_area : Contents → ℕ → Option ℕ → ℕ → Contents
opening_area m scope parent bytes = record m { areas = m.areas ++ new_area scope parent bytes ∷ [] }

abbrev pub closing_area : Contents → ℕ → Contents
closing_area m a = record m { areas = changed closed_area a m.areas }

-- ---- objects and static fields

abbrev pub making_object : Contents → ℕ → ℕ → List Value → Contents
making_object m class area slots = record m { objects = m.objects ++ new_object class area slots ∷ [] }

abbrev pub changing_object : Contents → ℕ → (Object → Object) → Contents
changing_object m r change = record m { objects = changed change r m.objects }

abbrev pub setting_static : Contents → ℕ → Value → Contents
setting_static m index value = record m { statics = slice_set m.statics index value }

-- ---- what the code keeps: the objects of open areas

abbrev pub is_open_area : Contents → ℕ → Bool
is_open_area m a = holds (slice_get m.areas a) (λ x. x.is_open)

-- the object, if the area in which it lies is open
abbrev pub if_open : Contents → Object → Option Object
if_open m o = if is_open_area m o.area then Some o else None

abbrev pub live_in : Contents → Option Object → Option Object
live_in m None = None
live_in m (Some o) = if_open m o

-- the object of a reference, if the area in which it lies is open
abbrev pub live_object : Contents → ℕ → Option Object
live_object m r = live_in m (slice_get m.objects r)

-- the area is open, and none that was opened after it
pub record IsLastOpen (m : Contents) (area : ℕ) : Type 0 where
  pub is_open : IsTrue (is_open_area m area)
  pub last : (b : ℕ) → area < b → IsTrue (is_open_area m b) → ⊥

-- how many areas are open
abbrev pub open_count : Contents → ℕ
open_count m = length (filter (λ (x : MemoryArea). x.is_open) m.areas)

-- ---- the changes that the code makes, one at a time

abbrev pub with_value : ℕ → Value → Object → Object
with_value slot value o = record o { slots = slice_set o.slots slot value }
