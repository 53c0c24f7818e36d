-- What the code did is a step, a step that may have no result, or what an effect leads to.
use Rattle.std.specs.Prelude.{true, Option, Some, is_some, unwrap_or}
use Rattle.std.proofs.Common.{◌≡◌, ◌∙◌, List, [], ◌∷◌, ◌++◌, ap, sym, subst}
use Rattle.std.proofs.lemmas.List.{append-nil}
use Rattle.scj_model.specs.declared.events.Event.{Event}
use Rattle.scj_model.specs.Code.{code_of}
use Rattle.op_list.specs.Listed.{Listing}
use Rattle.scj_model.specs.State.{Frame, State, with_activity}
use Rattle.scj_model.specs.Steps.{Step, reporting}
use Rattle.scj_model.specs.Effects.{Effect}
use Rattle.scj_model.specs.Apply.{applied, with_frame}
use Rattle.job_frames.specs.declared.activities.Activity.{Activity as StoredActivity}
use Rattle.job_frames.specs.declared.frames.Frame.{Frame as StoredFrame}
use Rattle.job_frames.specs.Frames.{activity_seen, frame_of, frames_of}
use Rattle.region_heap.specs.Contents.{Contents}
use Rattle.run_state.specs.declared.states.Acting.{Acting}
use Rattle.run_state.specs.declared.states.RunState.{RunState}
use Rattle.run_state.specs.Seen.{job_seen, state_of}
use Rattle.run_state.specs.Steps.{IsApplied, IsStep, IsTry}

-- a step is another one that is equal
pub same_step : (code : Listing) (st : RunState) (before after : List Event) (step other : Step) → other ≡ step →
    IsStep code step st before after → IsStep code other st before after
same_step code st before after step other e h = subst (λ (x : Step). IsStep code x st before after) (sym e) h

pub try_of : (code : Listing) (st : RunState) (before after : List Event) (found : Option Step) (step : Step) →
    found ≡ Some step → IsStep code step st before after → IsTry code found true st before after
try_of code st before after found step e h = record {
  went = sym (ap (λ (o : Option Step). is_some o) e);
  leads = λ done d.
      subst (λ (x : Step). IsStep code x st before after) (ap (λ (o : Option Step). unwrap_or o step) (sym e ∙ d)) h;
}

-- an effect that leads to this step, whatever the frames are
pub applied_as : (code : Listing) (was : RunState) (acting : Acting) (activity : StoredActivity) (effect : Frame → Effect)
    (st : RunState) (before after : List Event) (step : Step) →
    ((f : StoredFrame) (below : List StoredFrame) → activity.frames ≡ f ∷ below →
    applied (code_of code.program) (state_of code was) (job_seen acting.job) (activity_seen code activity) (frames_of code below)
    acting.position (effect (frame_of code f)) ≡ Some step) →
    IsStep code step st before after → IsApplied code was acting activity effect true st before after
applied_as code was acting activity effect st before after step same h =
    record { tried = λ f below e. try_of code st before after _ step (same f below e) h }

-- an effect that changes the state, puts the frames back and tells something
pub applied_reporting : (code : Listing) (was : RunState) (acting : Acting) (activity : StoredActivity)
    (effect : Frame → Effect) (st : RunState) (before after : List Event) (s : State) (events : List Event) →
    ((f : Frame) (below : List Frame) →
    applied (code_of code.program) (state_of code was) (job_seen acting.job) (activity_seen code activity) below acting.position (effect f)
    ≡ Some (reporting (with_frame s (job_seen acting.job) (activity_seen code activity) f below) events)) →
    state_of code st ≡ with_activity s (job_seen acting.job) (activity_seen code activity) →
    after ≡ before ++ events →
    IsApplied code was acting activity effect true st before after
applied_reporting code was acting activity effect st before after s events same state reported =
    applied_as code was acting activity effect st before after
    (reporting (with_activity s (job_seen acting.job) (activity_seen code activity)) events)
    (λ f below e. same (frame_of code f) (frames_of code below) ∙ ap (λ (fs : List StoredFrame).
    Some (reporting (with_activity s (job_seen acting.job)
    (record (activity_seen code activity) { frames = frames_of code fs })) events)) (sym e))
    (record { state = state; reported = reported })

-- an effect that changes the memory, puts the frames back and tells nothing
pub applied_on_memory : (code : Listing) (was : RunState) (acting : Acting) (activity : StoredActivity)
    (effect : Frame → Effect) (m : Contents) (st : RunState) (reported : List Event) (s : State) →
    ((f : Frame) (below : List Frame) →
    applied (code_of code.program) (state_of code was) (job_seen acting.job) (activity_seen code activity) below acting.position (effect f)
    ≡ Some (reporting (with_frame s (job_seen acting.job) (activity_seen code activity) f below) [])) →
    state_of code (record was { memory = m }) ≡ s →
    state_of code st
    ≡ with_activity (state_of code (record was { memory = m })) (job_seen acting.job) (activity_seen code activity) →
    IsApplied code was acting activity effect true st reported reported
applied_on_memory code was acting activity effect m st reported s same e put =
    applied_reporting code was acting activity effect st reported reported s [] same
    (put ∙ ap (λ (x : State). with_activity x (job_seen acting.job) (activity_seen code activity)) e)
    (sym (append-nil reported))
