-- What a function of the machine does: a step of the definitions, or none where they give none.
use Rattle.std.specs.Prelude.{◌≡◌, ℕ, Bool, List, ◌∷◌, ◌++◌, Option, Some, None, is_some}
use Rattle.scj_model.specs.declared.events.Event.{Event}
use Rattle.scj_model.specs.Code.{code_of}
use Rattle.op_list.specs.Listed.{Listing}
use Rattle.scj_model.specs.State.{State, Frame}
use Rattle.scj_model.specs.Steps.{Step}
use Rattle.scj_model.specs.Effects.{Effect}
use Rattle.scj_model.specs.Apply.{applied}
use Rattle.job_frames.specs.declared.activities.Activity.{Activity as StoredActivity}
use Rattle.job_frames.specs.declared.frames.Frame.{Frame as StoredFrame}
use Rattle.job_frames.specs.Frames.{frame_of, frames_of, activity_seen}
use Rattle.run_state.specs.declared.states.Acting.{Acting}
use Rattle.run_state.specs.declared.states.RunState.{RunState}
use Rattle.run_state.specs.Seen.{state_of, job_seen}

-- the step led to this state, and its events were told
pub record IsStep (code : Listing) (step : Step) (st : RunState) (before after : List Event) : Type 0 where
  pub state : state_of code st ≡ step.state
  pub reported : after ≡ before ++ step.events

-- a step that may have no result: the code answers whether it has one, and if so it is a step
pub record IsTry (code : Listing) (step : Option Step) (answer : Bool) (st : RunState) (before after : List Event) : Type 0
  where
    pub went : answer ≡ is_some step
    pub leads : (done : Step) → step ≡ Some done → IsStep code done st before after

-- what an effect of the highest frame does, if the activity has that frame as the operation left it
pub record IsApplied (code : Listing) (was : RunState) (acting : Acting) (activity : StoredActivity)
    (effect : Frame → Effect) (answer : Bool) (st : RunState) (before after : List Event) : Type 0 where
  pub tried : (f : StoredFrame) (below : List StoredFrame) → activity.frames ≡ f ∷ below →
      IsTry code
      (applied (code_of code.program) (state_of code was) (job_seen acting.job) (activity_seen code activity)
      (frames_of code below) acting.position (effect (frame_of code f)))
      answer st before after

-- the activity has this frame on top of the frames that it had before
pub record HasOnTop (code : Listing) (g : Frame) (before after : StoredActivity) : Type 0 where
  pub frame : StoredFrame
  pub seen : frame_of code frame ≡ g
  pub whole : after ≡ record before { frames = frame ∷ before.frames }

-- where there is room, a step goes on with what was made, in this state; where there is none it is this fault, and the
-- state is as it was
pub record GoesOn (before : State) (step : (State → ℕ → Step) → Step) (fault : Step) (made : Option ℕ)
    (after : State) : Type 0 where
  pub there : (next : State → ℕ → Step) (n : ℕ) → made ≡ Some n → step next ≡ next after n
  pub missing : (next : State → ℕ → Step) → made ≡ None → step next ≡ fault
  pub same : made ≡ None → after ≡ before
