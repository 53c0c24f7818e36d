-- What was made is the last operand of the highest frame, or its area is full.
use Rattle.std.specs.Prelude.{true, Option, Some, slice_get, unwrap_or}
use Rattle.std.proofs.Common.{◌≡◌, ◌∙◌, ℕ, List, ◌∷◌, refl, ap, sym}
use Rattle.scj_base.specs.declared.faults.RunFault.TheVariants.{MemoryFull}
use Rattle.scj_base.specs.declared.values.Value.{Value}
use Rattle.scj_base.specs.declared.values.Value.TheVariants.{At}
use Rattle.scj_model.specs.declared.events.Event.{Event}
use Rattle.op_list.specs.Listed.{Listing}
use Rattle.scj_model.specs.State.{State}
use Rattle.scj_model.specs.Steps.{Step, allocating, fault_in, silently}
use Rattle.scj_model.specs.Effects.{Makes}
use Rattle.scj_model.specs.Apply.{applied, with_frame}
use Rattle.job_frames.specs.declared.activities.Activity.{Activity as StoredActivity}
use Rattle.job_frames.specs.declared.frames.Frame.{Frame as StoredFrame}
use Rattle.job_frames.specs.Frames.{activity_seen, frame_of, frames_of, with_operand}
use Rattle.run_state.specs.declared.states.Acting.{Acting}
use Rattle.run_state.specs.declared.states.RunState.{RunState}
use Rattle.run_state.specs.Seen.{job_seen, state_of}
use Rattle.run_state.specs.Calls.{made_or_full}
use Rattle.run_state.specs.Steps.{GoesOn, IsApplied, IsStep}
use Rattle.run_state.proofs.RoomLemmas.{goes_step}
use Rattle.run_state.proofs.StepLemmas.{same_step, try_of}

pub operand_on_top : (code : Listing) (activity : StoredActivity) (frames : List StoredFrame) (f : StoredFrame)
    (below : List StoredFrame) (value : Value) → frames ≡ with_operand value activity.frames →
    activity.frames ≡ f ∷ below →
    activity_seen code (record activity { frames = frames })
    ≡ record (activity_seen code activity) {
      frames = record (frame_of code f) { operands = value ∷ f.operands } ∷ frames_of code below;
    }
operand_on_top code activity frames f below value p e =
    ap (λ (fs : List StoredFrame). activity_seen code (record activity { frames = fs })) (p ∙ ap (with_operand value) e)

-- an object or array that is made in the area of the highest frame
pub made_applied : (code : Listing) (was : RunState) (acting : Acting) (activity : StoredActivity) (class area : ℕ)
    (slots : List Value) (found : Option ℕ) (middle st : RunState) (before after : List Event) →
    ((f : StoredFrame) (below : List StoredFrame) → activity.frames ≡ f ∷ below → area ≡ f.area) →
    GoesOn (state_of code was)
    (allocating (state_of code was) (job_seen acting.job) (activity_seen code activity) acting.position class area slots)
    (fault_in (state_of code was) (job_seen acting.job) (activity_seen code activity) acting.position MemoryFull) found
    (state_of code middle) →
    ((f : StoredFrame) (below : List StoredFrame) → activity.frames ≡ f ∷ below →
    IsStep code
    (made_or_full (state_of code middle) (job_seen acting.job) (activity_seen code activity) (frame_of code f)
    (frames_of code below) acting.position found) st before after) →
    IsApplied code was acting activity (λ f. Makes f class slots) true st before after
unfolding applied made_or_full
made_applied code was acting activity class area slots found middle st before after there goes makes = record {
  tried = λ f below e.
      let next : State → ℕ → Step = λ s r. silently (with_frame s (job_seen acting.job) (activity_seen code activity)
      (record (frame_of code f) { operands = At r ∷ f.operands }) (frames_of code below)) in
      let step : Step =
      allocating (state_of code was) (job_seen acting.job) (activity_seen code activity) acting.position class
      f.area slots next in
      try_of code st before after (Some step) step refl
      (same_step code st before after _ step
      (ap (λ (n : ℕ). allocating (state_of code was) (job_seen acting.job) (activity_seen code activity) acting.position
      class
      n slots next) (sym (there f below e))
      ∙ goes_step (state_of code was)
      (allocating (state_of code was) (job_seen acting.job) (activity_seen code activity) acting.position class area slots)
      (λ s. fault_in s (job_seen acting.job) (activity_seen code activity) acting.position MemoryFull)
      (state_of code middle) next found goes)
      (makes f below e));
}

pub top_area : (activity : StoredActivity) (f : StoredFrame) (below : List StoredFrame) (top : StoredFrame) →
    activity.frames ≡ f ∷ below → Some top ≡ slice_get activity.frames 0 → top.area ≡ f.area
top_area activity f below top e t =
    let k : Some top ≡ Some f = t ∙ ap (λ (fs : List StoredFrame). slice_get fs 0) e in
    ap (λ (o : Option StoredFrame). (unwrap_or o f).area) k
