-- The next operation of a job: from the row and the operation on its frame to the operation of the definitions.
use Rattle.std.specs.Prelude.{Bool, false, Option, Some, None, Result, Ok, Err, IfOk, IfSome, IfNone}
use Rattle.std.proofs.Common.{◌≡◌, ◌∙◌, List, [], ◌∷◌, refl, ap, sym, subst}
use Rattle.scj_model.specs.declared.events.Event.{Event}
use Rattle.scj_model.specs.declared.operations.Op.{Op}
use Rattle.scj_model.specs.declared.plans.ReadingRow.{ReadingRow}
use Rattle.scj_model.specs.Code.{code_of}
use Rattle.op_list.specs.Listed.{Listing}
use Rattle.scj_model.specs.State.{Activity, State, with_activity}
use Rattle.scj_model.specs.Operations.{Environment, effect_of}
use Rattle.scj_model.specs.Run.{effect_at, frame_op, no_activity, position_of_op}
use Rattle.op_list.specs.Rows.{rest_at}
use Rattle.job_frames.specs.declared.effects.Effect.{Effect as Coded}
use Rattle.job_frames.specs.declared.activities.Activity.{Activity as StoredActivity}
use Rattle.job_frames.specs.declared.frames.Frame.{Frame as StoredFrame}
use Rattle.job_frames.specs.Frames.{activity_seen, below, frame_of}
use Rattle.job_frames.specs.EffectsSeen.{Does, effect_seen, world}
use Rattle.run_state.specs.declared.states.Acting.{Acting}
use Rattle.run_state.specs.declared.states.Job.{Job}
use Rattle.run_state.specs.declared.states.RunState.{RunState}
use Rattle.run_state.specs.Seen.{job_seen, state_of}
use Rattle.run_state.specs.Steps.{IsApplied}
use Rattle.unit_steps.specs.declared.frame_ops.Done.{Done}
use Rattle.unit_steps.specs.Led.{IsLedTry}
use Rattle.unit_steps.specs.Next.{IsNext, IsNextOnTop, top_rest}
use Rattle.unit_steps.proofs.Joins.{none_there, nothing_left, operation_joined}

-- ---- on a frame

-- the list gave an operation, which was then done
pub next_done : (code : Listing) (world : Environment) (op : Op) (effect : Coded) (before middle after : StoredFrame) →
    rest_at code.rows before.index ≡ op ∷ rest_at code.rows middle.index → middle ≡ record before { index = middle.index } →
    Does code (effect_of (code_of code.program) world (frame_of code middle) op) effect after → after.opened ≡ middle.opened →
    middle.opened ≡ before.opened → IsNext code world op effect before after
next_done code world op effect before middle after next same does opened kept = record {
  left = rest_at code.rows middle.index;
  next = next;
  does = ap (λ (f : StoredFrame). effect_of (code_of code.program) world (frame_of code f) op) (sym same) ∙ does.is;
  opened = sym (opened ∙ kept);
}

-- ---- on the highest frame

module _ (code : Listing) (world : Environment) (frames : List StoredFrame) (top changed : StoredFrame)
    (highest : frames ≡ top ∷ below frames) {E : Type 0} where
  pub next_on_top : (result : Result (Option Done) E) →
      IfOk result (λ next. IfSome next (λ done. IsNext code world done.op done.effect top changed)) →
      IfOk result (λ next. IfSome next (λ done.
      IsNextOnTop code world done.op done.effect frames (changed ∷ below frames)))
  next_on_top (Ok (Some done)) h = record { top = top; changed = changed; was = highest; is = refl; done = h }
  next_on_top (Ok None) h = tt
  next_on_top (Err e) h = tt

  pub none_on_top : (result : Result (Option Done) E) →
      IfOk result (λ next. IfNone next (rest_at code.rows top.index ≡ [])) →
      IfOk result (λ next. IfNone next (top_rest code frames ≡ []))
  none_on_top (Ok (Some done)) h = tt
  none_on_top (Ok None) h = ap (top_rest code) highest ∙ h
  none_on_top (Err e) h = tt

-- ---- of a job

-- the activity that was taken out of the state is the one of the definitions
pub taken_is : (code : Listing) (found : Option Activity) (taken : StoredActivity) (activity : Activity) →
    Some (activity_seen code taken) ≡ found → found ≡ Some activity → activity_seen code taken ≡ activity
taken_is code found taken activity e h =
    let k : Some (activity_seen code taken) ≡ Some activity = e ∙ h in cc

pub not_taken : (found : Option Activity) (activity : Activity) → None ≡ found → found ≡ Some activity → ⊥
not_taken found activity e h = let k : None ≡ Some activity = e ∙ h in cc

module _ (code : Listing) (rows : List ReadingRow) (s : State) where
  -- no operation is left
  pub nothing_led : (job : Job) (st : RunState) (taken : StoredActivity) (activity : Activity)
      (before after : List Event) → activity_seen code taken ≡ activity → top_rest code taken.frames ≡ [] →
      IsLedTry code (frame_op (code_of code.program) rows s (job_seen job) activity) false st before after
  nothing_led job st taken activity before after e none =
      none_there code false st before after
      (ap (λ (x : Activity). frame_op (code_of code.program) rows s (job_seen job) x) (sym e)
      ∙ nothing_left code rows s (job_seen job) taken none)
      refl

  -- the next operation is done to the highest frame, and its effect to the state without the activity
  pub operation_led : (acting : Acting) (was st : RunState) (taken : StoredActivity) (activity : Activity)
      (frames : List StoredFrame) (answer : Bool) (before after : List Event) (op : Op) (effect : Coded) →
      activity_seen code taken ≡ activity →
      (next : IsNextOnTop code (world was.memory rows was.unit) op effect taken.frames frames) →
      effect_at (code_of code.program) rows s (frame_of code next.top) op next.done.left
      ≡ effect_seen code effect (frame_of code next.changed) →
      acting.position ≡ position_of_op (code_of code.program) op →
      state_of code was ≡ with_activity s (job_seen acting.job) no_activity →
      IsApplied code was acting (record taken { frames = frames }) (effect_seen code effect) answer st before after →
      IsLedTry code (frame_op (code_of code.program) rows s (job_seen acting.job) activity) answer st before after
  operation_led acting was st taken activity frames answer before after op effect e next has position without applied =
      subst (λ (x : Activity). IsLedTry code (frame_op (code_of code.program) rows s (job_seen acting.job) x) answer st before after) e
      (operation_joined code rows s acting was st taken
      (let left : StoredActivity = record taken { frames = frames } in left) next.top next.changed (below taken.frames)
      op next.done.left (effect_seen code effect) answer before after next.was
      (ap (λ (fs : List StoredFrame). (let left : StoredActivity = record taken { frames = fs } in left)) next.is)
      next.done.next next.done.opened has position without applied)
