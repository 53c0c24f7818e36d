-- The state of a run: memory areas with their objects, the frames of the jobs, the releases, the registry, and where
-- the mission sequencer is (JSR 302: memory areas, Mission, MissionSequencer, event handlers). The lists of objects,
-- areas and releases only grow, so that a place in one of them is a name.
use Rattle.std.specs.Prelude.{ℕ, Bool, true, false, List, slice_get, slice_set, Option, Some, None}
use Rattle.scj_base.specs.declared.values.Value.{Value}
use Rattle.scj_rules.specs.declared.views.Body.{Body}
use Rattle.scj_rules.specs.Words.{◌>>=◌, holds}
use Rattle.scj_model.specs.declared.operations.Op.{Op}
use Rattle.scj_model.specs.declared.operations.SeqOp.{SeqOp}
use Rattle.scj_model.specs.declared.phases.Phase.{Phase}
use Rattle.scj_model.specs.declared.phases.Phase.TheVariants.{Init, Exec, Over}
use Rattle.scj_model.specs.declared.handlers.HandlerRow.{HandlerRow}

-- ---- memory

-- an area: its scope, the area inside which it was opened, and how many bytes of objects it has room for
pub record MemoryArea : Type 0 where
  pub scope : ℕ
  pub parent : Option ℕ
  pub bytes : ℕ
  pub is_open : Bool

-- an object or an array: its class, the area in which it lies, its slots or elements, and its ceiling
pub record Object : Type 0 where
  pub class : ℕ
  pub area : ℕ
  pub slots : List Value
  pub ceiling : ℕ

-- ---- jobs

-- a call under way: what it runs, and the node of the operation that called it, unless the framework did; its locals;
-- its operands, the last first; the operations that are left; the object that is `this`; the area in which it makes
-- objects; the priority that comes back when it leaves, if it is a synchronized method's; and the area that it opened,
-- if any
pub record Frame : Type 0 where
  pub body : Body
  pub called_at : Option ℕ
  pub locals : List Value
  pub operands : List Value
  pub rest : List Op
  pub this : Option ℕ
  pub area : ℕ
  pub saved : Option ℕ
  pub opened : Option ℕ

-- what the sequencer and each started release have: frames, the highest first; open areas, the last opened first; the
-- active priority
pub record Activity : Type 0 where
  pub frames : List Frame
  pub areas : List ℕ
  pub priority : ℕ

-- a release waits, is under way, has come to its end or was dropped
pub data ReleaseStatus : Type 0 where
  Waits : ReleaseStatus
  Started : (activity : Activity) → ReleaseStatus
  Ended : ReleaseStatus
  Dropped : ReleaseStatus

-- a release of a handler, both told by their numbers
pub record Release : Type 0 where
  pub handler : ℕ
  pub number : ℕ
  pub status : ReleaseStatus

-- a job: the sequencer, or the release at this place
pub data Job : Type 0 where
  TheSequencer : Job
  ReleaseAt : (index : ℕ) → Job

-- who acts in a unit of execution: the release at this place, or nobody
pub data Turn : Type 0 where
  IdleTurn : Turn
  TurnOf : (index : ℕ) → Turn

-- ---- the state

pub record State : Type 0 where
  -- how large the store is, in bytes; which unit comes next; where the run stands in the life of its missions
  pub store : ℕ
  pub unit : ℕ
  pub phase : Phase
  -- which operation the sequencer does or will do next; once that is done, the value that its body left with, or null
  pub operation : SeqOp
  pub outcome : Option Value
  -- the objects that are safelet, sequencer and mission of now, and whether that mission was asked to end
  pub safelet : Option ℕ
  pub mission_sequencer : Option ℕ
  pub mission : Option ℕ
  pub is_end_asked : Bool
  -- the first unit of execution; the number of releases of earlier missions; whose turn it was last in this execution
  pub origin : ℕ
  pub earlier_releases : ℕ
  pub last_choice : Option Turn
  -- the static fields; all objects, areas and releases; the handlers of the mission; the frames of the sequencer
  pub statics : List Value
  pub objects : List Object
  pub areas : List MemoryArea
  pub releases : List Release
  pub registry : List HandlerRow
  pub activity : Activity

-- ---- what is in a list at a place

-- the list with another element at this place
abbrev pub changed : {A : Type 0} → (A → A) → ℕ → List A → List A
changed f index list = elim (slice_get list index) [ None ↦ list | Some x ↦ slice_set list index (f x) ]

-- ---- jobs of a state

unfoldable pub activity_in : ReleaseStatus → Option Activity
activity_in (Started activity) = Some activity
activity_in _ = None

-- the frames, areas and priority of a job that is under way
unfoldable pub activity_of : State → Job → Option Activity
activity_of s TheSequencer = Some s.activity
activity_of s (ReleaseAt index) = slice_get s.releases index >>= (λ r. activity_in r.status)

unfoldable pub is_waiting : ReleaseStatus → Bool
is_waiting Waits = true
is_waiting _ = false

unfoldable pub is_started : ReleaseStatus → Bool
is_started (Started activity) = true
is_started _ = false

abbrev pub with_status : State → ℕ → ReleaseStatus → State
with_status s index status =
    record s { releases = changed (λ r. record r { status = status }) index s.releases }

-- the state in which a job has these frames, areas and priority
unfoldable pub with_activity : State → Job → Activity → State
with_activity s TheSequencer activity = record s { activity = activity }
with_activity s (ReleaseAt index) activity = with_status s index (Started activity)

-- ---- objects and areas of a state

abbrev pub object_at : State → ℕ → Option Object
object_at s r = slice_get s.objects r

abbrev pub area_at : State → ℕ → Option MemoryArea
area_at s a = slice_get s.areas a

abbrev pub is_open_area : State → ℕ → Bool
is_open_area s a = holds (area_at s a) (λ x. x.is_open)

-- ---- phases

unfoldable pub is_init : Phase → Bool
is_init Init = true
is_init _ = false

unfoldable pub is_exec : Phase → Bool
is_exec Exec = true
is_exec _ = false

unfoldable pub is_over : Phase → Bool
is_over Over = true
is_over _ = false
