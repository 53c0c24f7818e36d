-- What holds of a job that is under way, in a state: its list is that of its frames, and they stand as the rules say.
-- And what an operation makes of the job: it goes on, leaves its last frame, or is ended by a fault.
use Rattle.std.specs.Prelude.{◌≡◌, ℕ, ◌<◌, Bool, true, false, ◌⊎◌, List, [], ◌∷◌, ◌++◌, length, slice_get, Option, Some, None, if◌then◌else◌, option_map, unwrap_or}
use Rattle.scj_base.specs.declared.faults.RunFault.{RunFault}
use Rattle.scj_base.specs.declared.positions.Position.{Position}
use Rattle.scj_base.specs.declared.values.Value.{Value}
use Rattle.scj_base.specs.declared.values.Value.TheVariants.{Null, At}
use Rattle.scj_rules.specs.Words.{is_among}
use Rattle.scj_model.specs.declared.operations.SeqOp.TheVariants.{Finished}
use Rattle.scj_model.specs.declared.phases.Phase.TheVariants.{Over}
use Rattle.scj_model.specs.Code.{Code}
use Rattle.scj_model.specs.State.{MemoryArea, Frame, Activity, Ended, Release, Job, TheSequencer, ReleaseAt, State, activity_of, area_at}
use Rattle.scj_model.specs.Registry.{new_row}
use Rattle.scj_model.specs.Steps.{Step, fault_in}
use Rattle.scope_flow.specs.Signatures.{Signature, Runs, IsEntered}
use Rattle.frame_sound.specs.Places.{world_of, denote}
use Rattle.frame_sound.specs.Fine.{ListFine, list_of, IsOnList, MemoryFine, Stands}
use Rattle.frame_sound.specs.EffectsFine.{IsSame, ReturnFine, RegistrationFine}

pub record JobStands (code : Code) (s : State) (job : Job) (base : List ℕ) : Type 0 where
  pub activity : Activity
  pub is : activity_of s job ≡ Some activity
  pub is_list : activity.areas ≡ list_of base activity.frames
  pub stands : Stands code s.areas s.objects s.statics base activity.frames

-- the sequencer stands before the operation that it stood before
pub record KeepsOperation (s after : State) : Type 0 where
  pub phase : after.phase ≡ s.phase
  pub operation : after.operation ≡ s.operation

-- ---- the job goes on

-- the lowest of a job's frames, which is the one that it began with
unfoldable pub lowest : Frame → List Frame → Frame
lowest f [] = f
lowest f (g ∷ gs) = lowest g gs

-- the areas that frames opened
abbrev pub opened_by : List Frame → List ℕ
opened_by frames = list_of [] frames

-- the area was opened for a body of `run` that is called in it
pub record IsForEntered (code : Code) (x : MemoryArea) : Type 0 where
  pub class : ℕ
  pub is_class : class < length code.program.classes
  pub entered : IsEntered code.program class x.scope

pub record IsOpenedNow (code : Code) (x : MemoryArea) (a : ℕ) (frames : List Frame) : Type 0 where
  pub on_list : is_among a (opened_by frames) ≡ true
  pub for_entered : IsForEntered code x

-- a job that had these frames has other ones, and with them the areas that they opened: what it has it had or has
-- opened now, and what it has no longer is closed; no other area is new
pub record KeepsItsAreas (code : Code) (s : State) (frames : List Frame) (after : State)
    (left : List Frame) : Type 0 where
  pub has : (a : ℕ) → is_among a (opened_by left) ≡ true →
      (is_among a (opened_by frames) ≡ true) ⊎ (area_at s a ≡ None)
  pub lost : (a : ℕ) (x : MemoryArea) → is_among a (opened_by frames) ≡ true → area_at after a ≡ Some x →
      (is_among a (opened_by left) ≡ true) ⊎ (x.is_open ≡ false)
  pub new : (a : ℕ) (x : MemoryArea) → area_at s a ≡ None → area_at after a ≡ Some x → IsOpenedNow code x a left

-- the job stands, and on the frame that it began with
pub record JobGoesOn (code : Code) (s : State) (job : Job) (base : List ℕ) (f : Frame) (below : List Frame)
    (after : State) : Type 0 where
  pub stands : JobStands code after job base
  pub top : Frame
  pub others : List Frame
  pub are : stands.activity.frames ≡ top ∷ others
  pub same : IsSame (lowest f below) (lowest top others)
  pub operation : KeepsOperation s after
  pub outcome : after.outcome ≡ s.outcome
  pub areas : KeepsItsAreas code s (f ∷ below) after (top ∷ others)

-- ---- the job comes to its end

abbrev pub closed_if : Bool → MemoryArea → MemoryArea
closed_if is_closed x = if is_closed then record x { is_open = false } else x

-- the areas that frames opened are closed, and no other ones; objects and static fields are as before
pub record IsClosedBehind (s : State) (frames : List Frame) (after : State) : Type 0 where
  pub areas : (a : ℕ) → area_at after a ≡ option_map (closed_if (is_among a (opened_by frames))) (area_at s a)
  pub objects : after.objects ≡ s.objects
  pub statics : after.statics ≡ s.statics

-- the release at this place has ended
pub record HasEnded (s : State) (index : ℕ) : Type 0 where
  pub release : Release
  pub is : slice_get s.releases index ≡ Some release
  pub ended : release.status ≡ Ended

-- the operation of the sequencer is done with this value, or null, and the sequencer has what it had without frames
pub record IsDone (s : State) (base : List ℕ) (value : Option Value) : Type 0 where
  pub frames : s.activity.frames ≡ []
  pub areas : s.activity.areas ≡ base
  pub outcome : s.outcome ≡ Some (unwrap_or value Null)

abbrev pub ComesToEnd : State → Job → List ℕ → Option Value → Type 0
ComesToEnd s TheSequencer base value = IsDone s base value
ComesToEnd s (ReleaseAt index) base value = HasEnded s index

-- the job has left its last frame, with a value if its body gives one
pub record HasLeft (code : Code) (s : State) (job : Job) (base : List ℕ) (last : Frame) (after : State) : Type 0 where
  pub value : Option Value
  pub ends : ComesToEnd after job base value
  pub operation : KeepsOperation s after
  -- the value is what the body of the frame gives
  pub class : ℕ
  pub sig : Signature
  pub runs : Runs code.program last.body class sig
  pub gives : ReturnFine code.program (world_of after)
      (denote (world_of s) (list_of base (last ∷ [])) last.this last.area) sig.gives value
  -- if it is a reference, its object lies in an area of the frame's list
  pub lies : (r : ℕ) → value ≡ Some (At r) → IsOnList (world_of after) (list_of base (last ∷ [])) r
  pub memory : MemoryFine code after
  pub closed : IsClosedBehind s (last ∷ []) after
  -- where the frame had opened no area, its list was the one without frames
  pub list : last.opened ≡ None → ListFine (world_of after).areas base

-- a fault ends a release and closes what its frames opened; of the sequencer it halts the run, and changes nothing else
pub record IsClosedDown (s : State) (index : ℕ) (frames : List Frame) (after : State) : Type 0 where
  pub closed : IsClosedBehind s frames after
  pub ended : HasEnded after index

abbrev pub ComesToFault : State → Job → List Frame → State → Type 0
ComesToFault s TheSequencer frames after = after ≡ record s { phase = Over; operation = Finished; outcome = None }
ComesToFault s (ReleaseAt index) frames after = IsClosedDown s index frames after

pub record HasFaulted (code : Code) (s : State) (job : Job) (activity : Activity) (step : Step) : Type 0 where
  pub position : Position
  pub fault : RunFault
  pub is : step ≡ fault_in s job activity position fault
  pub memory : MemoryFine code step.state
  pub ends : ComesToFault s job activity.frames step.state

-- ---- the registry

-- one more handler's object is registered, from an area of the job's list
pub record NewRow (code : Code) (s : State) (list : List ℕ) (after : State) : Type 0 where
  pub r : ℕ
  pub fine : RegistrationFine code.program (world_of s) list r
  pub is : after.registry ≡ s.registry ++ new_row code.program r fine.there.object ∷ []

abbrev pub RegistryIsKept : Code → State → List ℕ → State → Type 0
RegistryIsKept code s list after = (after.registry ≡ s.registry) ⊎ NewRow code s list after

-- ---- all cases

-- an operation of a job that has the frame f over those below has a result
pub record KeepsItsJob (code : Code) (s : State) (job : Job) (activity : Activity) (base : List ℕ) (f : Frame)
    (below : List Frame) (o : Option Step) : Type 0 where
  pub step : Step
  pub is : o ≡ Some step
  pub either : JobGoesOn code s job base f below step.state
      ⊎ (((below ≡ []) × HasLeft code s job base f step.state) ⊎ HasFaulted code s job activity step)
  pub registry : RegistryIsKept code s (list_of base (f ∷ below)) step.state
