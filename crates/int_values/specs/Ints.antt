-- The numbers of a run (JLS 4.2.1): each in a local, an operand, a field, an element or a static field has 32 bits, and so
-- has each that is printed. Only the hidden fields of a handler may hold more: its start and its period, in units.
use Rattle.std.specs.Prelude.{◌≡◌, ◌≤◌, ℕ, All, FitsSigned, List, length, slice_get, Some}
use Rattle.std.specs.Int.{w32}
use Rattle.scj_base.specs.declared.values.Value.{Value}
use Rattle.scj_base.specs.declared.values.Value.TheVariants.{Int}
use Rattle.scj_tree.specs.declared.nodes.Node.{Node}
use Rattle.scj_rules.specs.declared.typing.Ty.{Ty}
use Rattle.scj_rules.specs.Classes.{hidden_fields}
use Rattle.scj_rules.specs.Contexts.{Declarations}
use Rattle.scj_model.specs.declared.events.Event.{Event}
use Rattle.scj_model.specs.declared.events.Event.TheVariants as event
use Rattle.scj_model.specs.State.{MemoryArea, Object, Frame, Activity, Release, State, activity_in}
use Rattle.scj_model.specs.Steps.{Step}
use Rattle.run_plan.specs.Limits.{largest_store}
use Rattle.scope_flow.specs.Slots.{array_type}
use Rattle.value_operators.specs.Literals.{HasInt}

-- each literal of a program that is a number has 32 bits
abbrev pub HasInts : List Node → Type 0
HasInts nodes = (id : ℕ) (node : Node) → slice_get nodes id ≡ Some node → HasInt node

-- ---- values and states

-- a value that is a number has 32 bits
abbrev pub FitsInt : Value → Type 0
FitsInt (Int z) = FitsSigned w32 z
FitsInt _ = Unit {0}

pub record FrameFits (f : Frame) : Type 0 where
  pub locals : All FitsInt f.locals
  pub operands : All FitsInt f.operands

-- each element of an array, and each slot of an object behind the hidden ones; and no object is larger than the store
pub record ObjectFits (p : Declarations) (o : Object) : Type 0 where
  pub short : length o.slots ≤ largest_store
  pub elements : (t : Ty) → array_type p o.class ≡ Some t → All FitsInt o.slots
  pub fields : (slot : ℕ) (value : Value) → hidden_fields p.classes o.class ≤ slot →
      slice_get o.slots slot ≡ Some value → FitsInt value

-- the frames of a release that is started
pub record ReleaseFits (r : Release) : Type 0 where
  pub frames : (activity : Activity) → activity_in r.status ≡ Some activity → All FrameFits activity.frames

abbrev pub AreaFits : MemoryArea → Type 0
AreaFits x = x.bytes ≤ largest_store

pub record StateFits (p : Declarations) (s : State) : Type 0 where
  pub store : s.store ≤ largest_store
  pub areas : All AreaFits s.areas
  pub objects : All (ObjectFits p) s.objects
  pub statics : All FitsInt s.statics
  pub sequencer : All FrameFits s.activity.frames
  pub releases : All ReleaseFits s.releases

-- ---- steps

-- a number that is printed has 32 bits
abbrev pub PrintsInt : Event → Type 0
PrintsInt (event.Print unit text value) = FitsSigned w32 value
PrintsInt e = Unit {0}

pub record StepFits (p : Declarations) (x : Step) : Type 0 where
  pub state : StateFits p x.state
  pub events : All PrintsInt x.events
