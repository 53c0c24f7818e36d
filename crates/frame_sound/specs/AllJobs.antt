-- What holds of all jobs of a state together: areas, objects and static fields are as the rules say, and so are the
-- frames of each job, over the areas that the sequencer has without frames; and each open area belongs to one job.
use Rattle.std.specs.Prelude.{◌≡◌, ℕ, true, ◌⊎◌, List, Option, Some}
use Rattle.scj_rules.specs.Words.{is_among}
use Rattle.scj_model.specs.Code.{Code}
use Rattle.scj_model.specs.State.{MemoryArea, Activity, Job, State, activity_of, area_at}
use Rattle.scj_model.specs.Steps.{Step}
use Rattle.frame_sound.specs.Places.{world_of}
use Rattle.frame_sound.specs.Fine.{ListFine, JobFine, MemoryFine}
use Rattle.frame_sound.specs.OwnJob.{opened_by}

-- a frame of the job opened the area
pub record IsOpenedBy (s : State) (a : ℕ) (job : Job) : Type 0 where
  pub activity : Activity
  pub is : activity_of s job ≡ Some activity
  pub on_list : is_among a (opened_by activity.frames) ≡ true

pub record AllStand (code : Code) (s : State) (base : List ℕ) : Type 0 where
  pub memory : MemoryFine code s
  pub base_fine : ListFine (world_of s).areas base
  pub jobs : (job : Job) (activity : Activity) → activity_of s job ≡ Some activity →
      JobFine code (world_of s) base activity
  -- no area was opened by two jobs
  pub apart : (a : ℕ) (job other : Job) → IsOpenedBy s a job → IsOpenedBy s a other → job ≡ other
  -- an open area is the sequencer's without frames, or some job opened it
  pub owned : (a : ℕ) (x : MemoryArea) → area_at s a ≡ Some x → x.is_open ≡ true →
      (is_among a base ≡ true) ⊎ ((job : Job) × IsOpenedBy s a job)

-- there is a result, and all jobs stand in it
pub record LetsAllStand (code : Code) (base : List ℕ) (o : Option Step) : Type 0 where
  pub step : Step
  pub is : o ≡ Some step
  pub stand : AllStand code step.state base
