-- How large a frame is: the operands and the locals that it has at once.
use Rattle.std.specs.Prelude.{◌≡◌, ◌≤◌, ℕ, length, slice_get, Some}
use Rattle.scj_rules.specs.LimitRules.{most_locals}
use Rattle.scj_model.specs.State.{Frame, Activity, Job, State, activity_of}

-- a body is 64 high at most, and each expression in it has 10 operands of its own at most
abbrev pub most_operands : ℕ
most_operands = 640

pub record IsSmall (f : Frame) : Type 0 where
  pub operands : length f.operands ≤ most_operands
  pub locals : length f.locals ≤ most_locals

-- each frame of each job
abbrev pub FramesAreSmall : State → Type 0
FramesAreSmall s =
    (job : Job) (activity : Activity) (index : ℕ) (f : Frame) → activity_of s job ≡ Some activity →
    slice_get activity.frames index ≡ Some f → IsSmall f
