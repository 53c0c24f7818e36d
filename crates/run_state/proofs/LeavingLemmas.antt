-- A frame leaves, step by step.
use Rattle.std.specs.Prelude.{Option, Some, None, unwrap_or}
use Rattle.std.proofs.Common.{◌≡◌, ◌∙◌, ℕ, List, [], ◌∷◌, ◌++◌, length, refl, ap, sym, subst, arith}
use Rattle.std.proofs.lemmas.List.{append_assoc, length-map}
use Rattle.scj_base.specs.declared.values.Value.{Value}
use Rattle.scj_model.specs.declared.events.Event.{Event}
use Rattle.op_list.specs.Listed.{Listing}
use Rattle.scj_model.specs.State.{Frame, Activity, Job, State, with_activity}
use Rattle.scj_model.specs.Memory.{closed}
use Rattle.scj_model.specs.Steps.{job_ended, silently}
use Rattle.scj_model.specs.Apply.{frame_left, returned, report_priority, without}
use Rattle.job_frames.specs.declared.activities.Activity.{Activity as StoredActivity}
use Rattle.job_frames.specs.declared.frames.Frame.{Frame as StoredFrame}
use Rattle.job_frames.specs.Frames.{activity_seen, below, frame_of, frames_of, with_operand}
use Rattle.region_heap.specs.Contents.{Contents, with_memory}
use Rattle.run_state.specs.declared.states.RunState.{RunState}
use Rattle.run_state.specs.Seen.{state_of}
use Rattle.run_state.specs.Calls.{settled}
use Rattle.run_state.specs.Steps.{IsStep}

abbrev pub after_leaving : Activity → Frame → List Frame → Option Value → Activity
after_leaving activity f below value = record activity {
  frames = returned value below;
  areas = without f.opened activity.areas;
  priority = unwrap_or f.saved activity.priority;
}

pub left_step : (code : Listing) (s : State) (job : Job) (activity : Activity) (f : Frame) (below : List Frame)
    (value : Option Value) (middle st : RunState) (first second third : List Event) →
    state_of code middle ≡ closed s f.opened →
    second ≡ first ++ report_priority s job activity.priority (unwrap_or f.saved activity.priority) →
    IsStep code (settled (state_of code middle) job (after_leaving activity f below value) value below) st second
    third →
    IsStep code (frame_left s job activity f below value) st first third
unfolding frame_left settled
left_step code s job activity f below value middle st first second third e t h =
    let after : Activity = after_leaving activity f below value in
    let reported : List Event = report_priority s job activity.priority (unwrap_or f.saved activity.priority) in
    record {
      state = h.state ∙ ap (λ (x : State). (settled x job after value below).state) e;
      reported = h.reported ∙ (ap (λ (x : State). second ++ (settled x job after value below).events) e
          ∙ (ap (λ (es : List Event). es ++ (settled (closed s f.opened) job after value below).events) t
          ∙ append_assoc first reported (settled (closed s f.opened) job after value below).events));
    }

pub as_many : (value : Option Value) (frames : List Frame) → length (returned value frames) ≡ length frames
unfolding returned
as_many None [] = refl
as_many None (f ∷ fs) = refl
as_many (Some value) [] = refl
as_many (Some value) (f ∷ fs) = refl

-- all of it, as the code goes
pub left_all : (code : Listing) (st : RunState) (job : Job) (activity after : StoredActivity) (f : StoredFrame)
    (below : List StoredFrame) (value : Option Value) (opened saved : Option ℕ) (m : Contents) (final : RunState)
    (first second third : List Event) → opened ≡ f.opened → saved ≡ f.saved →
    activity_seen code after ≡ record (activity_seen code activity) {
      frames = returned value (frames_of code below);
      areas = without opened activity.areas;
      priority = unwrap_or saved activity.priority;
    } →
    second ≡ first ++ report_priority (state_of code st) job activity.priority after.priority →
    ((s : State) → closed (with_memory s st.memory) opened ≡ with_memory s m) →
    ((rest : List Frame) → length rest ≡ length after.frames →
    IsStep code (settled (state_of code (record st { memory = m })) job (activity_seen code after) value rest)
    final second third) →
    IsStep code
    (frame_left (state_of code st) job (activity_seen code activity) (frame_of code f) (frames_of code below) value)
    final first third
unfolding state_of
left_all code st job activity after f below value opened saved m final first second third o p a t closes settles =
    let seen : activity_seen code after ≡ after_leaving (activity_seen code activity) (frame_of code f)
    (frames_of code below) value =
    a ∙ (ap (λ (x : Option ℕ). (let b : Activity = record (activity_seen code activity) {
      frames = returned value (frames_of code below);
      areas = without x activity.areas;
      priority = unwrap_or saved activity.priority;
    } in b)) o ∙ ap (λ (x : Option ℕ). (let b : Activity = record (activity_seen code activity) {
      frames = returned value (frames_of code below);
      areas = without f.opened activity.areas;
      priority = unwrap_or x activity.priority;
    } in b)) p) in
    let count : length (frames_of code below) ≡ length after.frames =
    sym (as_many value (frames_of code below)) ∙ (ap (λ (b : Activity). length b.frames) (sym seen)
    ∙ length-map after.frames (frame_of code)) in
    let middle : RunState = record st { memory = m } in
    left_step code (state_of code st) job (activity_seen code activity) (frame_of code f) (frames_of code below) value
    middle final first second third
    (sym (closes (state_of code st)) ∙ ap (closed (state_of code st)) o)
    (t ∙ ap (λ (b : Activity). first ++ report_priority (state_of code st) job activity.priority b.priority) seen)
    (subst
    (λ (b : Activity). IsStep code (settled (state_of code middle) job b value (frames_of code below)) final second
    third)
    seen (settles (frames_of code below) count))

-- ---- the steps of the code

pub returned_seen : (code : Listing) (value : Value) (frames : List StoredFrame) →
    frames_of code (with_operand value frames) ≡ returned (Some value) (frames_of code frames)
unfolding returned
returned_seen code value [] = refl
returned_seen code value (f ∷ fs) = refl

pub stepped : (code : Listing) (activity : StoredActivity) (frames : List StoredFrame) (areas : List ℕ) (priority : ℕ)
    (f : StoredFrame) (rest : List StoredFrame) (value : Option Value) (opened saved : Option ℕ) (seen : Activity) →
    activity.frames ≡ f ∷ rest → frames ≡ below activity.frames → areas ≡ without opened activity.areas →
    priority ≡ unwrap_or saved activity.priority →
    seen ≡ record { frames = returned value (frames_of code frames); areas = areas; priority = priority } →
    seen ≡ record (activity_seen code activity) {
      frames = returned value (frames_of code rest);
      areas = without opened activity.areas;
      priority = unwrap_or saved activity.priority;
    }
stepped code activity frames areas priority f rest value opened saved seen e fs opens p h =
    h ∙ (ap (λ (x : List StoredFrame). (let a : Activity = record {
      frames = returned value (frames_of code x);
      areas = areas;
      priority = priority;
    } in a)) (fs ∙ ap below e) ∙ (ap (λ (x : List ℕ). (let a : Activity = record {
      frames = returned value (frames_of code rest);
      areas = x;
      priority = priority;
    } in a)) opens ∙ ap (λ (x : ℕ). (let a : Activity = record {
      frames = returned value (frames_of code rest);
      areas = without opened activity.areas;
      priority = x;
    } in a)) p))

pub settled_end : (s : State) (job : Job) (after : Activity) (value : Option Value) (below : List Frame) →
    length below ≡ 0 → settled s job after value below ≡ job_ended s job after value
unfolding settled
settled_end s job after value [] e = refl
settled_end s job after value (f ∷ fs) e = absurd (omega (arith, e))

pub settled_on : (s : State) (job : Job) (after : Activity) (value : Option Value) (below : List Frame) →
    (length below ≡ 0 → ⊥) → settled s job after value below ≡ silently (with_activity s job after)
unfolding settled
settled_on s job after value [] n = absurd (n refl)
settled_on s job after value (f ∷ fs) n = refl

pub returned_none : (frames : List Frame) → returned None frames ≡ frames
unfolding returned
returned_none [] = refl
returned_none (f ∷ fs) = refl
