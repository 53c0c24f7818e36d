-- The next operation of a job.
use Rattle.std.specs.Prelude.{◌≡◌, List, ◌∷◌, Some}
use Rattle.scj_model.specs.declared.operations.Op.{Op}
use Rattle.scj_model.specs.State.{Frame, Activity, Job, State, activity_of}

-- a job is under way, and its highest frame has this operation next
pub record IsNext (s : State) (job : Job) (op : Op) : Type 0 where
  pub activity : Activity
  pub is_activity : activity_of s job ≡ Some activity
  pub frame : Frame
  pub below : List Frame
  pub frames : activity.frames ≡ frame ∷ below
  pub rest : List Op
  pub ops : frame.rest ≡ op ∷ rest
