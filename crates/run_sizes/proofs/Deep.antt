-- What a unit does besides its operation leaves each job with few frames too, so no run comes to a state with more.
use Rattle.std.proofs.Common.{◌≡◌, ℕ, ◌≤◌, not, ◌&&◌, List, [], ◌∷◌, length, Option, Some, None, refl, subst, arith}
use Rattle.std.specs.Prelude.{option_map, slice_get}
use Rattle.scj_base.specs.declared.values.Value.{Value}
use Rattle.scj_rules.specs.Words.{◌>>=◌}
use Rattle.scj_model.specs.declared.events.Event.TheVariants.{Miss}
use Rattle.scj_model.specs.declared.phases.Phase.TheVariants.{Cleanup}
use Rattle.scj_model.specs.declared.operations.SeqOp.TheVariants.{CleanUp}
use Rattle.scj_model.specs.declared.plans.Fire.{Fire}
use Rattle.scj_model.specs.declared.plans.ReadingRow.{ReadingRow}
use Rattle.scj_model.specs.Code.{Code}
use Rattle.scj_model.specs.Plan.{Plan}
use Rattle.scj_model.specs.State.{Activity, IdleTurn, Release, ReleaseAt, State, TheSequencer, Turn, TurnOf, activity_in, activity_of, is_exec}
use Rattle.scj_model.specs.Memory.{closed}
use Rattle.scj_model.specs.Steps.{Step, for_each, silently, reporting, then_try}
use Rattle.scj_model.specs.Apply.{release_taken}
use Rattle.scj_model.specs.Sequencer.{BeginsExecution, BeginsMission, ClosesMission, Continues, EndsExecution, LacksMission, LacksSequencer, SeqEffect, SkipsExecution, TakesMission, TakesSafelet, TakesSequencer, Transition, after_operation, goes_to, gone_to, has_started, innermost, phase_after, seq_applied, transition_done}
use Rattle.scj_model.specs.Arrivals.{arrivals, due_handlers, executes_since, fired, fired_at, fired_handler, fires_due}
use Rattle.scj_model.specs.Choice.{Policy}
use Rattle.scj_model.specs.Run.{acts, empty_state, turn_acts, turn_taken}
use Rattle.scj_model.specs.Reached.{Moment, Reached}
use Rattle.scj_model.proofs.Reaching.{gives_some, gives_reported, reached_keeps}
use Rattle.run_sizes.specs.Depths.{FramesAreFew}
use Rattle.run_sizes.proofs.DeepEffects.{FewIf, few_bind, few_either, few_mapped, few_ref_op, few_taken, few_turn}
use Rattle.run_sizes.proofs.DeepSteps.{FewAfter, FewFrames, few_after_close, few_fault, rows_got}

-- ---- the choice and the operation

turn_few : (code : Code) (rows : List ReadingRow) (turn : Turn) (s : State) → FewFrames s →
    FewIf (turn_acts code rows turn s)
unfolding turn_acts
turn_few code rows IdleTurn s h = gives_some FewFrames _ h
turn_few code rows (TurnOf index) s h = few_ref_op code rows s (ReleaseAt index) h

chosen_few : (code : Code) (rows : List ReadingRow) (s : State) (turn : Turn) → FewFrames s →
    FewIf (then_try (turn_taken s turn) (turn_acts code rows turn))
unfolding turn_taken
chosen_few code rows s turn h =
    gives_reported FewFrames (turn_taken s turn) _ (λ step e.
    (turn_few code rows turn (turn_taken s turn).state
    (record { sequencer = h.sequencer; releases = h.releases })).is step e)

acts_few : (code : Code) (rows : List ReadingRow) (policy : Policy) (s : State) → FewFrames s →
    FewIf (acts code rows policy s)
unfolding acts
acts_few code rows policy s h =
    few_either (is_exec s.phase) _ _ (few_bind (policy s) _ (λ turn e. chosen_few code rows s turn h))
    (few_turn code rows s h)

-- ---- what follows in the sequencer

seq_few : (code : Code) (s : State) (effect : SeqEffect) → FewFrames s → FewAfter (seq_applied code s effect)
unfolding seq_applied
seq_few code s Continues h = h
seq_few code s (TakesSafelet r) h = record { sequencer = h.sequencer; releases = h.releases }
seq_few code s (TakesSequencer r) h = record { sequencer = h.sequencer; releases = h.releases }
seq_few code s (TakesMission r) h = record { sequencer = h.sequencer; releases = h.releases }
seq_few code s (LacksSequencer r) h = few_fault s TheSequencer s.activity _ _ h
seq_few code s LacksMission h = h
seq_few code s (BeginsMission r) h = h
seq_few code s BeginsExecution h = record { sequencer = h.sequencer; releases = h.releases }
seq_few code s SkipsExecution h = h
seq_few code s EndsExecution h = h
seq_few code s ClosesMission h =
    let k : FewFrames (closed s (innermost s.activity.areas)) = few_after_close s (innermost s.activity.areas) h in
    record { sequencer = h.sequencer; releases = k.releases }

transition_few : (code : Code) (s : State) (o : Option Transition) → FewFrames s →
    FewIf (option_map (transition_done code s) o)
transition_few code s o h =
    few_mapped o (transition_done code s) (λ t.
    seq_few code (gone_to s t) t.effect (record { sequencer = h.sequencer; releases = h.releases }))

phase_few : (code : Code) (s : State) → FewFrames s → FewIf (phase_after code s)
unfolding phase_after
phase_few code s h =
    few_either (is_exec s.phase) _ _
    (few_either (s.is_end_asked && not (has_started s)) _ _
    (transition_few code s (s.mission >>= (λ r. goes_to Cleanup (CleanUp r) EndsExecution)) h)
    (gives_some FewFrames _ h))
    (on s.outcome)
  where
    on : (o : Option Value) →
        FewIf (elim o [ None ↦ Some (silently s) | Some value ↦ after_operation code s value ])
    on None = gives_some FewFrames _ h
    on (Some value) = transition_few code s _ h

-- ---- arrivals

each_few : {A : Type 0} (step : State → A → Step) → ((s : State) (x : A) → FewFrames s → FewAfter (step s x)) →
    (xs : List A) (s : State) → FewFrames s → FewAfter (for_each step xs s)
unfolding for_each
each_few step k [] s h = h
each_few step k (x ∷ xs) s h = each_few step k xs (step s x).state (k s x h)

fired_few : (code : Code) (s : State) (fire : Fire) → FewFrames s → FewAfter (fired code s fire)
unfolding fired
fired_few code s fire h = go (fired_handler code s fire.handler)
  where
    go : (o : Option ℕ) →
        FewAfter (elim o as (λ x. Step) [
          | Some handler ↦ release_taken s handler
          | None ↦ reporting s (Miss s.unit fire.handler ∷ [])
        ])
    go None = h
    go (Some handler) = few_taken s handler h

fired_at_few : (code : Code) (fires : List Fire) (s : State) (index : ℕ) → FewFrames s →
    FewAfter (fired_at code fires s index)
fired_at_few code fires s index h = go (slice_get fires index)
  where
    go : (f : Option Fire) → FewAfter (elim f as (λ x. Step) [ None ↦ silently s | Some fire ↦ fired code s fire ])
    go None = h
    go (Some fire) = fired_few code s fire h

arrivals_few : (code : Code) (plan : Plan) (s : State) → FewFrames s → FewAfter (arrivals code plan s)
unfolding arrivals
arrivals_few code plan s h =
    each_few (fired_at code plan.fires) (fired_at_few code plan.fires) (fires_due (executes_since s) s.unit plan.fires)
    (for_each release_taken (due_handlers s) s).state
    (each_few release_taken few_taken (due_handlers s) s h)

-- ---- a run

by_job : (s : State) → FewFrames s → FramesAreFew s
unfolding activity_of
by_job s h TheSequencer activity e =
    let same : s.activity ≡ activity = cc in
    subst (λ (a : Activity). length a.frames ≤ 64) same h.sequencer
by_job s h (ReleaseAt index) activity e = go (slice_get s.releases index) refl e
  where
    go : (o : Option Release) → slice_get s.releases index ≡ o → (o >>= (λ r. activity_in r.status)) ≡ Some activity →
        length activity.frames ≤ 64
    go None f q = absurd (cc)
    go (Some r) f q = rows_got s.releases index r h.releases f activity q

pub few_frames : (code : Code) (plan : Plan) (policy : Policy) (moment : Moment) (s : State) →
    Reached code plan policy moment s → FewFrames s
unfolding empty_state
few_frames code plan policy moment s reached =
    reached_keeps code plan policy (λ m t. FewFrames t)
    (record { sequencer = omega arith; releases = tt })
    (λ t h e. arrivals_few code plan t h)
    (λ t step h e. (acts_few code plan.readings policy t h).is step e)
    (λ t step h e.
    let k : FewFrames step.state = (phase_few code t h).is step e in
    record { sequencer = k.sequencer; releases = k.releases })
    reached

pub frames_are_few : (code : Code) (plan : Plan) (policy : Policy) (moment : Moment) (s : State) →
    Reached code plan policy moment s → FramesAreFew s
frames_are_few code plan policy moment s reached = by_job s (few_frames code plan policy moment s reached)
