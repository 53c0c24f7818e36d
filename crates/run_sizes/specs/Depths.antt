-- How many frames a job has.
use Rattle.std.specs.Prelude.{◌≡◌, ◌≤◌, length, Some}
use Rattle.scj_model.specs.State.{Activity, Job, State, activity_of}
use Rattle.scj_model.specs.Apply.{most_frames}

-- no job has more frames than a job may
abbrev pub FramesAreFew : State → Type 0
FramesAreFew s =
    (job : Job) (activity : Activity) → activity_of s job ≡ Some activity → length activity.frames ≤ most_frames
