-- Steps that change nothing, steps that aren't there, and effects by what they do to the state whose job has its
-- activity again.
use Rattle.std.specs.Prelude.{Bool, true, false, Option, Some, None, is_some}
use Rattle.std.proofs.Common.{◌≡◌, ◌∙◌, List, refl, ap, sym, subst}
use Rattle.std.proofs.lemmas.List.{append-nil}
use Rattle.scj_model.specs.declared.events.Event.{Event}
use Rattle.scj_model.specs.Code.{code_of}
use Rattle.op_list.specs.Listed.{Listing}
use Rattle.scj_model.specs.State.{Frame, State, with_activity}
use Rattle.scj_model.specs.Steps.{Step, silently}
use Rattle.scj_model.specs.Effects.{Effect}
use Rattle.scj_model.specs.Apply.{applied, with_frame}
use Rattle.job_frames.specs.declared.activities.Activity.{Activity as StoredActivity}
use Rattle.job_frames.specs.declared.frames.Frame.{Frame as StoredFrame}
use Rattle.job_frames.specs.Frames.{activity_seen, frame_of, frames_of}
use Rattle.run_state.specs.declared.states.Acting.{Acting}
use Rattle.run_state.specs.declared.states.RunState.{RunState}
use Rattle.run_state.specs.Seen.{job_seen, state_of}
use Rattle.run_state.specs.Steps.{IsApplied, IsStep, IsTry}
use Rattle.run_state.proofs.StepLemmas.{applied_as}

-- ---- steps

pub still : (code : Listing) (st : RunState) (reported : List Event) →
    IsStep code (silently (state_of code st)) st reported reported
still code st reported = record { state = refl; reported = sym (append-nil reported) }

-- a step that leads to this state and tells nothing
pub quietly : (code : Listing) (st : RunState) (reported : List Event) (s : State) → state_of code st ≡ s →
    IsStep code (silently s) st reported reported
quietly code st reported s e = record { state = e; reported = sym (append-nil reported) }

pub no_step : (code : Listing) (st : RunState) (before after : List Event) (found : Option Step) → found ≡ None →
    IsTry code found false st before after
no_step code st before after found e = record {
  went = sym (ap (λ (o : Option Step). is_some o) e);
  leads = λ done d. absurd (let k : None ≡ Some done = sym e ∙ d in cc);
}

pub as_try : (code : Listing) (answer : Bool) (st : RunState) (before after : List Event) (found other : Option Step) →
    other ≡ found → IsTry code found answer st before after → IsTry code other answer st before after
as_try code answer st before after found other e h =
    subst (λ (x : Option Step). IsTry code x answer st before after) (sym e) h

-- ---- effects

module _ (code : Listing) (was : RunState) (acting : Acting) (activity : StoredActivity) (effect : Frame → Effect)
    (st : RunState) (before after : List Event) where
  pub effect_after : (next : State → Step) →
      ((f : Frame) (below : List Frame) →
      applied (code_of code.program) (state_of code was) (job_seen acting.job) (activity_seen code activity) below acting.position
      (effect f)
      ≡ Some (next (with_frame (state_of code was) (job_seen acting.job) (activity_seen code activity) f below))) →
      IsStep code (next (with_activity (state_of code was) (job_seen acting.job) (activity_seen code activity)))
      st before after → IsApplied code was acting activity effect true st before after
  effect_after next same h =
      applied_as code was acting activity effect st before after
      (next (with_activity (state_of code was) (job_seen acting.job) (activity_seen code activity)))
      (λ f below e. same (frame_of code f) (frames_of code below) ∙ ap (λ (fs : List StoredFrame).
      Some (next (with_activity (state_of code was) (job_seen acting.job)
      (record (activity_seen code activity) { frames = frames_of code fs })))) (sym e))
      h

  pub no_effect :
      ((f : Frame) (below : List Frame) →
      applied (code_of code.program) (state_of code was) (job_seen acting.job) (activity_seen code activity) below acting.position
      (effect f) ≡ None) → IsApplied code was acting activity effect false st before after
  no_effect none =
      record { tried = λ f below e. no_step code st before after _ (none (frame_of code f) (frames_of code below)) }
