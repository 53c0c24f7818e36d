-- The invariant of a whole state: the memories of the sequencer; areas, objects and the frames of each job; the
-- safelet, the sequencer object and the mission; the handlers and their releases. It holds between two units, after the
-- arrivals of a unit, and after its operation.
use Rattle.std.specs.Prelude.{◌≡◌, ℕ, Bool, true, false, ◌||◌, ◌⊎◌, List, [], ◌∷◌, slice_get, Option, Some, None, codes}
use Rattle.std.specs.List.{list_any}
use Rattle.scj_base.specs.declared.values.Value.{Value}
use Rattle.scj_base.specs.declared.values.Value.TheVariants.{Null, At}
use Rattle.scj_builtins.specs.Framework.{runnable, safelet as safelet_interface, mission as mission_class, mission_sequencer as sequencer_class}
use Rattle.scj_rules.specs.declared.views.Body.{Body}
use Rattle.scj_rules.specs.Words.{is_among, ◌>>=◌}
use Rattle.scj_rules.specs.Classes.{is_sub}
use Rattle.scj_rules.specs.Contexts.{Declarations}
use Rattle.scj_rules.specs.ScopeRules.{is_handler, is_mission, definer, defined_by_chain}
use Rattle.scj_rules.specs.Bodies.{body_named, constructor_body}
use Rattle.scj_model.specs.declared.handlers.HandlerRow.{HandlerRow}
use Rattle.scj_model.specs.declared.operations.SeqOp.{SeqOp}
use Rattle.scj_model.specs.declared.operations.SeqOp.TheVariants.{AllocSafelet, ConstructSafelet, InitializeApplication, GetSequencer, GetNextMission, OpenMission, Initialize, CleanUp, Execute, Finished}
use Rattle.scj_model.specs.declared.phases.Phase.{Phase}
use Rattle.scj_model.specs.declared.phases.Phase.TheVariants.{Boot, Next, Init, Exec, Cleanup, Over}
use Rattle.scj_model.specs.Code.{Code}
use Rattle.scj_model.specs.State.{MemoryArea, Object, Frame, Activity, Release, Job, ReleaseAt, State, activity_of, is_waiting, is_started, area_at, is_open_area, is_exec, is_over}
use Rattle.scj_model.specs.Registry.{handler_row}
use Rattle.scj_model.specs.Steps.{Step}
use Rattle.scj_model.specs.Apply.{takes_releases}
use Rattle.scj_model.specs.Sequencer.{has_started}
use Rattle.scj_model.specs.Run.{next_unit}
use Rattle.scope_flow.specs.Signatures.{IsConcrete}
use Rattle.frame_sound.specs.Places.{World, world_of}
use Rattle.frame_sound.specs.Fine.{list_of, JobFine, MemoryFine}
use Rattle.mission_sound.specs.Bases.{Base, areas_of, in_mission, BaseSuits, BaseFine}

-- ---- memory and frames

-- a frame of the job opened the area
pub record IsOpenedBy (s : State) (a : ℕ) (job : Job) : Type 0 where
  pub activity : Activity
  pub is : activity_of s job ≡ Some activity
  pub on_list : is_among a (list_of [] activity.frames) ≡ true

-- a handler class or a Runnable class defines the scope
pub record IsPrivateScope (p : Declarations) (scope : ℕ) : Type 0 where
  pub class : ℕ
  pub is : (is_handler p class ≡ true) ⊎ (is_sub p.classes class runnable ≡ true)
  pub defines : defined_by_chain p class ≡ Some scope

-- the area is a private memory: a frame of some job opened it, for a scope that a handler class or a Runnable class
-- defines, and no mission's class
pub record IsPrivate (code : Code) (s : State) (a : ℕ) (x : MemoryArea) : Type 0 where
  pub job : Job
  pub opened : IsOpenedBy s a job
  pub no_mission : is_mission code.program (definer x.scope) ≡ false
  pub defined : IsPrivateScope code.program x.scope

pub record HasFrame (activity : Activity) : Type 0 where
  pub highest : Frame
  pub below : List Frame
  pub are : activity.frames ≡ highest ∷ below

pub record MemoriesFine (code : Code) (s : State) (base : Base) : Type 0 where
  -- areas, objects and static fields
  pub memory : MemoryFine code s
  -- the list of each job is the sequencer's without frames, behind the areas that the job's frames opened
  pub jobs : (job : Job) (activity : Activity) → activity_of s job ≡ Some activity →
      JobFine code (world_of s) (areas_of base) activity
  pub have_frames : (index : ℕ) (activity : Activity) → activity_of s (ReleaseAt index) ≡ Some activity →
      HasFrame activity
  -- each open area is immortal memory, the mission's memory, or a private memory, of one job
  pub owned : (a : ℕ) (x : MemoryArea) → area_at s a ≡ Some x → x.is_open ≡ true →
      (is_among a (areas_of base) ≡ true) ⊎ IsPrivate code s a x
  pub apart : (a : ℕ) (job other : Job) → IsOpenedBy s a job → IsOpenedBy s a other → job ≡ other
  -- what an open area lies in is open
  pub nested : (a b : ℕ) (x : MemoryArea) → area_at s a ≡ Some x → x.is_open ≡ true → x.parent ≡ Some b →
      is_open_area s b ≡ true

-- ---- the body that the sequencer has called

unfoldable pub method_on : Declarations → World → ℕ → List ℕ → Option Body
method_on p w r name = w.objects r >>= (λ o. body_named p o.class name)

unfoldable pub body_called_by : Declarations → World → SeqOp → Option Body
body_called_by p w (ConstructSafelet r) = w.objects r >>= (λ o. constructor_body p o.class)
body_called_by p w (InitializeApplication r) = method_on p w r (codes "initializeApplication")
body_called_by p w (GetSequencer r) = method_on p w r (codes "getSequencer")
body_called_by p w (GetNextMission r) = method_on p w r (codes "getNextMission")
body_called_by p w (Initialize r) = method_on p w r (codes "initialize")
body_called_by p w (CleanUp r) = method_on p w r (codes "cleanUp")
body_called_by p w _ = None

unfoldable pub lowest : List Frame → Option Frame
lowest [] = None
lowest (f ∷ []) = Some f
lowest (f ∷ (g ∷ below)) = lowest (g ∷ below)

-- the frame is that of the body which the sequencer's operation calls, and opened no area
pub record IsCalledBy (p : Declarations) (w : World) (operation : SeqOp) (f : Frame) : Type 0 where
  pub runs : body_called_by p w operation ≡ Some f.body
  pub opens_none : f.opened ≡ None

-- ---- the safelet, the sequencer object and the mission

-- an object of a concrete class under this one, in immortal memory
pub record IsImmortalOf (p : Declarations) (w : World) (above r : ℕ) : Type 0 where
  pub object : Object
  pub found : w.objects r ≡ Some object
  pub concrete : IsConcrete p object.class
  pub is_under : is_sub p.classes object.class above ≡ true
  pub lies : object.area ≡ 0

abbrev pub AreImmortalOf : Declarations → World → ℕ → Option ℕ → Type 0
AreImmortalOf p w above o = (r : ℕ) → o ≡ Some r → IsImmortalOf p w above r

abbrev pub IsThere : Option ℕ → Type 0
IsThere o = (r : ℕ) × (o ≡ Some r)

-- whose the sequencer's operation is, and who is there with it
abbrev pub OperandThere : State → SeqOp → Type 0
OperandThere s (ConstructSafelet r) = s.safelet ≡ Some r
OperandThere s (InitializeApplication r) = s.safelet ≡ Some r
OperandThere s (GetSequencer r) = s.safelet ≡ Some r
OperandThere s (GetNextMission r) = s.mission_sequencer ≡ Some r
OperandThere s (OpenMission r) = (s.mission ≡ Some r) × IsThere s.mission_sequencer
OperandThere s (Initialize r) = (s.mission ≡ Some r) × IsThere s.mission_sequencer
OperandThere s (CleanUp r) = (s.mission ≡ Some r) × IsThere s.mission_sequencer
OperandThere s Execute = IsThere s.mission × IsThere s.mission_sequencer
OperandThere s _ = Unit {0}

unfoldable pub phase_of : SeqOp → Phase
phase_of (GetNextMission r) = Next
phase_of (OpenMission r) = Next
phase_of (Initialize r) = Init
phase_of Execute = Exec
phase_of (CleanUp r) = Cleanup
phase_of Finished = Over
phase_of _ = Boot

-- the operation, the objects, the base and the lowest frame suit one another
pub record SequencerFine (code : Code) (s : State) (base : Base) : Type 0 where
  pub phase : s.phase ≡ phase_of s.operation
  pub base_suits : BaseSuits s.operation s.outcome base
  pub base_fine : BaseFine code s base
  pub there : OperandThere s s.operation
  pub safelet : AreImmortalOf code.program (world_of s) safelet_interface s.safelet
  pub mission_sequencer : AreImmortalOf code.program (world_of s) sequencer_class s.mission_sequencer
  pub mission : AreImmortalOf code.program (world_of s) mission_class s.mission
  -- until the run is over
  pub called : (f : Frame) → is_over s.phase ≡ false → lowest s.activity.frames ≡ Some f →
      IsCalledBy code.program (world_of s) s.operation f
  -- in execution the sequencer has no frame
  pub frameless : is_exec s.phase ≡ true → s.activity.frames ≡ []

-- ---- handlers and releases

-- a row names an object of a concrete handler class, in the mission's memory. So there is none without a mission's
-- memory
pub record RowFine (p : Declarations) (w : World) (base : Base) (row : HandlerRow) : Type 0 where
  pub object : Object
  pub found : w.objects row.at ≡ Some object
  pub is_class : row.class ≡ object.class
  pub concrete : IsConcrete p object.class
  pub is_a_handler : is_handler p object.class ≡ true
  pub in_memory : base ≡ in_mission object.area

abbrev pub has_waiting : State → Bool
has_waiting s = list_any (λ (r : Release). is_waiting r.status) s.releases

pub record HandlersFine (code : Code) (s : State) (base : Base) : Type 0 where
  pub rows : (k : ℕ) (row : HandlerRow) → slice_get s.registry k ≡ Some row →
      RowFine code.program (world_of s) base row
  -- a release that waits or is started has its handler in the registry
  pub handled : (index : ℕ) (r : Release) → slice_get s.releases index ≡ Some r →
      (is_waiting r.status || is_started r.status) ≡ true →
      (row : HandlerRow) × (handler_row s.registry r.handler ≡ Some row)
  -- outside execution none is started; outside it, and once an end was asked, none waits
  pub none_started : is_exec s.phase ≡ false → has_started s ≡ false
  pub none_waits : takes_releases s ≡ false → has_waiting s ≡ false

-- ---- the invariant

pub record Invariant (code : Code) (s : State) : Type 0 where
  pub base : Base
  pub memories : MemoriesFine code s base
  pub sequencer : SequencerFine code s base
  pub handlers : HandlersFine code s base

-- between two units, and after arrivals: what follows an operation that is done has been done
pub record Settled (code : Code) (s : State) : Type 0 where
  pub invariant : Invariant code s
  pub followed : s.outcome ≡ None

-- null, or an object of a concrete class under this one, in immortal memory
abbrev pub IsNullOr : Declarations → World → ℕ → Value → Type 0
IsNullOr p w above value = (value ≡ Null) ⊎ ((r : ℕ) × (value ≡ At r) × IsImmortalOf p w above r)

-- the value with which an operation is done
abbrev pub ValueSuits : Declarations → World → SeqOp → Value → Type 0
ValueSuits p w AllocSafelet value = (r : ℕ) × (value ≡ At r) × IsImmortalOf p w safelet_interface r
ValueSuits p w (GetSequencer r) value = IsNullOr p w sequencer_class value
ValueSuits p w (GetNextMission r) value = IsNullOr p w mission_class value
ValueSuits p w Execute value = ⊥
ValueSuits p w Finished value = ⊥
ValueSuits p w _ value = Unit {0}

-- after an operation, before what follows it: where the sequencer's is done, no frame of it is left
pub record Done (code : Code) (s : State) (value : Value) : Type 0 where
  pub frameless : s.activity.frames ≡ []
  pub suits : ValueSuits code.program (world_of s) s.operation value

pub record AfterOperation (code : Code) (s : State) : Type 0 where
  pub invariant : Invariant code s
  pub done : (value : Value) → s.outcome ≡ Some value → Done code s value

-- ---- what is proved of steps

-- an operation has a result, and what it leads to stands as the invariant says
pub record Operates (code : Code) (o : Option Step) : Type 0 where
  pub step : Step
  pub is : o ≡ Some step
  pub after : AfterOperation code step.state

-- what follows an operation has a result, and the next unit begins as the invariant says
pub record Follows (code : Code) (o : Option Step) : Type 0 where
  pub step : Step
  pub is : o ≡ Some step
  pub settled : Settled code (next_unit step.state)
