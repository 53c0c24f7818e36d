-- One operation of a job: the operation on the frame that was taken out, and its effect on the state without the job's
-- activity, are together what the definitions say.
use Rattle.std.specs.Prelude.{Option, Some, None, is_some, ◌++◌}
use Rattle.std.proofs.Common.{◌≡◌, Bool, false, List, [], ◌∷◌, refl, sym, ◌∙◌, ap, subst}
use Rattle.scj_model.specs.declared.events.Event.{Event}
use Rattle.scj_model.specs.declared.operations.Op.{Op}
use Rattle.scj_model.specs.declared.plans.ReadingRow.{ReadingRow}
use Rattle.scj_model.specs.Code.{code_of}
use Rattle.op_list.specs.Listed.{Listing}
use Rattle.scj_model.specs.State.{Frame, Activity, Job, State, with_activity}
use Rattle.scj_model.specs.Steps.{Step}
use Rattle.scj_model.specs.Effects.{Effect}
use Rattle.scj_model.specs.Apply.{applied}
use Rattle.scj_model.specs.Run.{effect_at, frame_op, no_activity, position_of_op}
use Rattle.job_frames.specs.declared.frames.Frame.{Frame as StoredFrame}
use Rattle.job_frames.specs.declared.activities.Activity.{Activity as StoredActivity}
use Rattle.job_frames.specs.Frames.{frame_of, frames_of, activity_seen}
use Rattle.run_state.specs.declared.states.RunState.{RunState}
use Rattle.run_state.specs.declared.states.Acting.{Acting}
use Rattle.run_state.specs.Seen.{state_of, job_seen}
use Rattle.run_state.specs.Steps.{IsStep, IsTry, IsApplied}
use Rattle.unit_steps.specs.Alike.{IsAlike, same, IsAlikeStep, IsAlikeTry, none, some}
use Rattle.unit_steps.specs.Led.{IsLed, IsLedTry}
use Rattle.unit_steps.specs.Next.{top_rest}
use Rattle.unit_steps.proofs.JobActivity.{operation_unseen}

module _ (code : Listing) (answer : Bool) (st : RunState) (before after : List Event) where
  pub led_by_step : (a b : Step) → IsAlikeStep a b → IsStep code b st before after → IsLed code a st before after
  led_by_step a b h k =
      record {
        alike = subst (λ t. IsAlike a.state t) (sym k.state) h.states;
        reported = k.reported ∙ ap (λ events. before ++ events) (sym h.events);
      }

  some_is : (a b : Step) → Some a ≡ Some b → b ≡ a
  some_is a b e = cc (e)

  pub led_by_alike : (a b : Option Step) → IsAlikeTry a b → IsTry code b answer st before after →
      IsLedTry code a answer st before after
  led_by_alike None None none k = record { went = k.went; leads = λ done e. absurd (cc (e)) }
  led_by_alike None (Some b) x k = elim x [ ]
  led_by_alike (Some a) None x k = elim x [ ]
  led_by_alike (Some a) (Some b) (some h) k =
      record {
        went = k.went;
        leads = λ done e. subst (λ d. IsLed code d st before after) (sym (some_is a done e))
            (led_by_step a b h (k.leads b refl));
      }

  pub none_there : {o : Option Step} → o ≡ None → answer ≡ false → IsLedTry code o answer st before after
  none_there {o} e isnt =
      record {
        went = isnt ∙ sym (ap (λ (x : Option Step). is_some x) e);
        leads = λ done h. absurd (let clash : None ≡ Some done = sym e ∙ h in cc (clash));
      }

  -- a step that is the definitions' own
  pub led_itself : (o : Option Step) → IsTry code o answer st before after → IsLedTry code o answer st before after
  led_itself o k =
      record {
        went = k.went;
        leads = λ done e. led_by_step done done (record { states = same; events = refl })
            (k.leads done e);
      }

-- ---- the next operation of a job

module _ (code : Listing) (rows : List ReadingRow) (s : State) (job : Job) (taken : StoredActivity) where
  abbrev on_rest : Frame → List Frame → List Op → Option Step
  on_rest f below ops =
      elim ops as (λ z. Option Step) [
        | [] ↦ None
        | op ∷ rest ↦
            applied (code_of code.program) s job (activity_seen code taken) below (position_of_op (code_of code.program) op) (effect_at (code_of code.program) rows s f op rest)
      ]

  abbrev on_frames : List Frame → Option Step
  on_frames frames = elim frames as (λ z. Option Step) [ [] ↦ None | f ∷ below ↦ on_rest f below f.rest ]

  no_operation : (frames : List StoredFrame) → top_rest code frames ≡ [] → on_frames (frames_of code frames) ≡ None
  no_operation [] e = refl
  no_operation (f ∷ fs) e = ap (on_rest (frame_of code f) (frames_of code fs)) e

  -- without a frame, or without an operation, there is none
  pub nothing_left : top_rest code taken.frames ≡ [] → frame_op (code_of code.program) rows s job (activity_seen code taken) ≡ None
  unfolding frame_op
  nothing_left e = no_operation taken.frames e

module _ (code : Listing) (rows : List ReadingRow) (s : State) (acting : Acting) (was st : RunState)
    (taken left : StoredActivity) (f g : StoredFrame) (under : List StoredFrame) (op : Op) (rest : List Op)
    (effect : Frame → Effect) (answer : Bool) (before after : List Event) where
  abbrev a : Activity
  a = activity_seen code taken

  abbrev job : Job
  job = job_seen acting.job

  abbrev below : List Frame
  below = frames_of code under

  first_done : taken.frames ≡ f ∷ under → (frame_of code f).rest ≡ op ∷ rest →
      effect_at (code_of code.program) rows s (frame_of code f) op rest ≡ effect (frame_of code g) →
      acting.position ≡ position_of_op (code_of code.program) op →
      frame_op (code_of code.program) rows s job a
      ≡ applied (code_of code.program) s job (record a { frames = frame_of code f ∷ below }) below acting.position (effect (frame_of code g))
  unfolding frame_op
  first_done frames next does position =
      ap (λ (fs : List StoredFrame). on_frames code rows s job taken (frames_of code fs)) frames
      ∙ (ap (on_rest code rows s job taken (frame_of code f) below) next
      ∙ (ap (λ e. applied (code_of code.program) s job a below (position_of_op (code_of code.program) op) e) does
      ∙ (ap (λ p. applied (code_of code.program) s job a below p (effect (frame_of code g))) (sym position)
      ∙ ap (λ (fs : List StoredFrame).
      applied (code_of code.program) s job (record a { frames = frames_of code fs }) below acting.position (effect (frame_of code g)))
      frames)))

  tried_after : left ≡ record taken { frames = g ∷ under } →
      state_of code was ≡ with_activity s job no_activity →
      IsApplied code was acting left effect answer st before after →
      IsTry code
      (applied (code_of code.program) (with_activity s job no_activity) job (record a { frames = frame_of code g ∷ below }) below
      acting.position (effect (frame_of code g)))
      answer st before after
  tried_after is_left without k =
      subst
      (λ (t : State).
      IsTry code
      (applied (code_of code.program) t job (record a { frames = frame_of code g ∷ below }) below acting.position (effect (frame_of code g)))
      answer st before after)
      without
      (subst
      (λ (x : StoredActivity).
      IsTry code
      (applied (code_of code.program) (state_of code was) job (activity_seen code x) below acting.position (effect (frame_of code g)))
      answer st before after)
      is_left
      (k.tried g under (ap (λ (x : StoredActivity). x.frames) is_left)))

  -- the first operation of the highest frame is done: the frame after it has opened the same area, and its effect is
  -- this one
  pub operation_joined : taken.frames ≡ f ∷ under → left ≡ record taken { frames = g ∷ under } →
      (frame_of code f).rest ≡ op ∷ rest → f.opened ≡ g.opened →
      effect_at (code_of code.program) rows s (frame_of code f) op rest ≡ effect (frame_of code g) →
      acting.position ≡ position_of_op (code_of code.program) op →
      state_of code was ≡ with_activity s job no_activity →
      IsApplied code was acting left effect answer st before after →
      IsLedTry code (frame_op (code_of code.program) rows s job a) answer st before after
  operation_joined frames is_left next opened does position without k =
      subst (λ (o : Option Step). IsLedTry code o answer st before after) (sym (first_done frames next does position))
      (led_by_alike code answer st before after _ _
      (operation_unseen (code_of code.program) s job no_activity a (frame_of code f) (frame_of code g) below acting.position
      (effect (frame_of code g)) opened)
      (tried_after is_left without k))
