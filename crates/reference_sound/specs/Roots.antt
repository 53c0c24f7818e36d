-- What the run itself refers to, and what is open: so that no reference that can be used dangles.
use Rattle.std.specs.Prelude.{◌≡◌, ℕ, ◌<◌, true, List, length, Some, slice_get}
use Rattle.scj_model.specs.declared.handlers.HandlerRow.{HandlerRow}
use Rattle.scj_model.specs.Code.{Code}
use Rattle.scj_model.specs.State.{MemoryArea, Object, Activity, Job, State, activity_of, area_at, object_at, is_open_area}
use Rattle.scj_model.specs.Sequencer.{innermost}
use Rattle.frame_sound.specs.Places.{world_of}
use Rattle.frame_sound.specs.Fine.{HeapFine, JobFine}
use Rattle.reference_sound.specs.References.{ReferencesHold}

-- the object lies in an open area
pub record LiesOpen (s : State) (r : ℕ) : Type 0 where
  pub object : Object
  pub found : object_at s r ≡ Some object
  pub is_open : is_open_area s object.area ≡ true

-- what an open area lies in is open
abbrev pub ParentsAreOpen : State → Type 0
ParentsAreOpen s =
    (a b : ℕ) (x : MemoryArea) → area_at s a ≡ Some x → x.is_open ≡ true → x.parent ≡ Some b → is_open_area s b ≡ true

-- immortal memory, the first area, is never closed
abbrev pub ImmortalIsOpen : State → Type 0
ImmortalIsOpen s = (x : MemoryArea) → area_at s 0 ≡ Some x → x.is_open ≡ true

-- the handlers, and the safelet, the sequencer object and the mission
pub record RootsAreOpen (s : State) : Type 0 where
  pub handlers : (k : ℕ) (row : HandlerRow) → slice_get s.registry k ≡ Some row → LiesOpen s row.at
  pub safelet : (r : ℕ) → s.safelet ≡ Some r → LiesOpen s r
  pub mission_sequencer : (r : ℕ) → s.mission_sequencer ≡ Some r → LiesOpen s r
  pub mission : (r : ℕ) → s.mission ≡ Some r → LiesOpen s r

-- all that is asked of a state whose references can be used; the lists of all jobs begin with `base`
pub record IsRooted (code : Code) (s : State) (base : List ℕ) : Type 0 where
  pub heap : HeapFine code.program (world_of s)
  pub jobs : (job : Job) (activity : Activity) → activity_of s job ≡ Some activity →
      JobFine code (world_of s) base activity
  pub references : ReferencesHold s base
  pub parents : ParentsAreOpen s
  pub immortal : ImmortalIsOpen s
  pub roots : RootsAreOpen s

-- ---- where something is opened

-- the innermost of the sequencer's memories, in which something is opened, is there
abbrev pub InnermostIsThere : State → Type 0
InnermostIsThere s = (a : ℕ) → innermost s.activity.areas ≡ Some a → a < length s.areas
