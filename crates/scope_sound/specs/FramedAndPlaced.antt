-- The two halves of what holds in each state that a run comes to: that each job is framed, and that all objects and
-- areas are placed.
use Rattle.std.specs.Prelude.{◌≡◌, ℕ, true, ◌⊎◌, List, [], ◌∷◌, ◌++◌, length, slice_get, Some}
use Rattle.scj_base.specs.declared.values.Value.TheVariants.{At}
use Rattle.scj_rules.specs.declared.typing.Scope.{Scope}
use Rattle.scj_rules.specs.Words.{is_among}
use Rattle.scj_model.specs.Code.{Code}
use Rattle.scj_model.specs.State.{MemoryArea, Object, Frame, Activity, Job, ReleaseAt, State, activity_of, area_at}
use Rattle.scope_flow.specs.Signatures.{Signature, Runs, variables_in}
use Rattle.scope_flow.specs.Pushers.{Pusher, IsScopeOf, IsScopeOfVariable}
use Rattle.scope_flow.specs.Ways.{Comes}
use Rattle.frame_sound.specs.Places.{World, world_of, the_area, LiesAt, denote}
use Rattle.frame_sound.specs.Fine.{IsInParent, IsOn, JobFine, list_of}
use Rattle.mission_sound.specs.Bases.{Base, areas_of, BaseFine, BaseSuits, IsInMission}
use Rattle.mission_sound.specs.Invariant.{Invariant, IsPrivateScope}
use Rattle.reference_sound.specs.References.{JobHolds, MemoryHolds}

-- ---- one frame

-- the object of a reference lies in the area that the scope names for the frame, and that area is on the list. The scope
-- any names none; where the scope is unknown or lost, the object lies in some area of the list
pub record LiesWhere (w : World) (list : List ℕ) (f : Frame) (scope : Scope) (r : ℕ) : Type 0 where
  pub object : Object
  pub found : w.objects r ≡ Some object
  pub named : LiesAt (denote w list f.this f.area scope) object.area
  pub on_list : is_among object.area list ≡ true

-- of a local, also of a block that is over: the scope is its variable's
pub record LocalLies (code : Code) (w : World) (list : List ℕ) (f : Frame) (i r : ℕ) : Type 0 where
  pub variable : ℕ
  pub is : slice_get (variables_in code.program f.body) i ≡ Some variable
  pub scope : Scope
  pub is_scope : IsScopeOfVariable code.program variable scope
  pub lies : LiesWhere w list f scope r

-- of an operand: the scope is that of what pushed it
pub record OperandLies (code : Code) (w : World) (list : List ℕ) (f : Frame) (c : ℕ) (pushers : List Pusher)
    (i r : ℕ) : Type 0 where
  pub pusher : Pusher
  pub is : slice_get pushers i ≡ Some pusher
  pub scope : Scope
  pub is_scope : IsScopeOf code.program c pusher scope
  pub lies : LiesWhere w list f scope r

-- a frame whose body stands in the class c; `given` is what the frame above it will push, if it pushes something
pub record FrameFramed (code : Code) (w : World) (list : List ℕ) (f : Frame) (given : List Pusher) : Type 0 where
  pub class : ℕ
  pub sig : Signature
  pub runs : Runs code.program f.body class sig
  -- the current area is the one that the current scope of the body names; the empty body runs in CALLER
  pub now : denote w list f.this f.area sig.runs_in ≡ the_area f.area
  pub locals : (i r : ℕ) → slice_get f.locals i ≡ Some (At r) → LocalLies code w list f i r
  -- what pushed the operands, on a way through the body to the operations that are left
  pub pushers : List Pusher
  pub came : Comes code f.body f.rest (given ++ pushers)
  pub as_many : length pushers ≡ length f.operands
  pub operands : (i r : ℕ) → slice_get f.operands i ≡ Some (At r) → OperandLies code w list f class pushers i r

-- ---- all frames of a job

-- frames under one that pushes something, and the first of all, which stands under none
abbrev pub FramedUnder : Code → World → List ℕ → List Frame → Type 0
FramedUnder code w base [] = Unit {0}
FramedUnder code w base (f ∷ fs) =
    ((given : List Pusher) × FrameFramed code w (list_of base (f ∷ fs)) f given)
    × IsOn code w base f.body f.called_at f.this f.area fs × FramedUnder code w base fs

abbrev pub FramesFramed : Code → World → List ℕ → List Frame → Type 0
FramesFramed code w base [] = Unit {0}
FramesFramed code w base (f ∷ fs) =
    FrameFramed code w (list_of base (f ∷ fs)) f []
    × IsOn code w base f.body f.called_at f.this f.area fs × FramedUnder code w base fs

-- ---- a job

-- The frames of a job stand as the rules say. Its list is what it has without frames, behind what its frames opened;
-- without frames that is nothing, immortal memory, or immortal memory and the mission's, as the sequencer's operation
-- says, and the mission's for a release. The list has open areas alone, is closed under parents and holds no scope
-- twice (JobFine). Each reference and the current area of each frame lies where its static scope names it on the list
-- that the job had at this frame, in no area that a frame above has opened. And each frame was called by the operation
-- at which the frame directly under it stands (IsOn)
pub record Framed (code : Code) (s : State) (job : Job) : Type 0 where
  pub base : Base
  pub suits : BaseSuits s.operation s.outcome base
  pub memory : BaseFine code s base
  pub of_release : (index : ℕ) (activity : Activity) → job ≡ ReleaseAt index →
      activity_of s job ≡ Some activity → IsInMission base
  pub frames : (activity : Activity) → activity_of s job ≡ Some activity →
      JobFine code (world_of s) (areas_of base) activity
  pub each : (activity : Activity) → activity_of s job ≡ Some activity →
      FramesFramed code (world_of s) (areas_of base) activity.frames
  -- what any local refers to lies on the list of its frame
  pub locals : (activity : Activity) → activity_of s job ≡ Some activity →
      JobHolds (world_of s) (areas_of base) activity.frames

-- ---- objects and areas

-- Objects and areas are where the rules say: objects of annotated classes in areas of their scopes, what slots and static
-- fields refer to in the same area or one around it; the memories that are open suit the sequencer's operation and its
-- list; and the safelet, the sequencer, the mission and the handlers lie in their memories (Invariant)
pub record Placed (code : Code) (s : State) : Type 0 where
  pub invariant : Invariant code s
  pub memory : MemoryHolds (world_of s) s.statics
  -- each area but immortal memory lies in one whose scope is the parent of its own
  pub parents : (a : ℕ) (x : MemoryArea) → area_at s a ≡ Some x → (a ≡ 0) ⊎ IsInParent code.program (world_of s).areas x
  -- immortal memory is open from its opening on
  pub immortal : (x : MemoryArea) → area_at s 0 ≡ Some x → x.is_open ≡ true
  -- each other open area is the current mission's memory, or has a scope that a handler class or a Runnable class defines
  pub scopes : (a : ℕ) (x : MemoryArea) → area_at s a ≡ Some x → x.is_open ≡ true →
      (is_among a (areas_of invariant.base) ≡ true) ⊎ IsPrivateScope code.program x.scope
