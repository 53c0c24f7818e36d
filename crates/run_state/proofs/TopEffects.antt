-- Calls and openings as effects of the frame that calls, which was the highest before the new one was put on top.
use Rattle.std.specs.Prelude.{true, Some}
use Rattle.std.proofs.Common.{ℕ, List, ap, sym}
use Rattle.scj_model.specs.declared.events.Event.{Event}
use Rattle.scj_model.specs.Code.{code_of}
use Rattle.op_list.specs.Listed.{Listing}
use Rattle.scj_model.specs.State.{Frame}
use Rattle.scj_model.specs.Effects.{Calls, Opens}
use Rattle.scj_model.specs.Apply.{applied, called, opened_in}
use Rattle.job_frames.specs.declared.activities.Activity.{Activity as StoredActivity}
use Rattle.job_frames.specs.declared.frames.Frame.{Frame as StoredFrame}
use Rattle.job_frames.specs.Frames.{activity_seen, frames_of}
use Rattle.run_state.specs.declared.states.Acting.{Acting}
use Rattle.run_state.specs.declared.states.RunState.{RunState}
use Rattle.run_state.specs.Seen.{job_seen, state_of}
use Rattle.run_state.specs.Steps.{IsApplied, IsStep}
use Rattle.run_state.proofs.StepLemmas.{applied_as}

module _ (code : Listing) (was : RunState) (acting : Acting) (activity : StoredActivity) (g : Frame) (st : RunState)
    (before after : List Event) where
  pub calls_applied :
      IsStep code
      (called (code_of code.program) (state_of code was) (job_seen acting.job) (activity_seen code activity)
      (frames_of code activity.frames) acting.position g) st before after →
      IsApplied code was acting activity (λ f. Calls f g) true st before after
  unfolding applied
  calls_applied h =
      applied_as code was acting activity (λ f. Calls f g) st before after _ (λ f below e.
      ap (λ (fs : List StoredFrame). Some (called (code_of code.program) (state_of code was) (job_seen acting.job)
      (activity_seen code activity) (frames_of code fs) acting.position g)) (sym e)) h

  pub opens_applied : (scope bytes : ℕ) →
      IsStep code
      (opened_in (state_of code was) (job_seen acting.job) (activity_seen code activity)
      (frames_of code activity.frames) acting.position g scope bytes) st before after →
      IsApplied code was acting activity (λ f. Opens f g scope bytes) true st before after
  unfolding applied
  opens_applied scope bytes h =
      applied_as code was acting activity (λ f. Opens f g scope bytes) st before after _ (λ f below e.
      ap (λ (fs : List StoredFrame). Some (opened_in (state_of code was) (job_seen acting.job)
      (activity_seen code activity) (frames_of code fs) acting.position g scope bytes)) (sym e)) h
