-- What a unit does besides its operation makes nothing, so a run makes as much as it has operations.
use Rattle.std.proofs.Common.{◌≡◌, ℕ, not, ◌&&◌, List, [], ◌∷◌, ◌++◌, Option, Some, None, refl, arith}
use Rattle.std.specs.Prelude.{option_map, slice_get}
use Rattle.scj_base.specs.declared.values.Value.{Value}
use Rattle.scj_rules.specs.Words.{◌>>=◌}
use Rattle.scj_model.specs.declared.events.Event.TheVariants.{Miss}
use Rattle.scj_model.specs.declared.phases.Phase.TheVariants.{Cleanup}
use Rattle.scj_model.specs.declared.operations.SeqOp.TheVariants.{CleanUp}
use Rattle.scj_model.specs.declared.plans.Fire.{Fire}
use Rattle.scj_model.specs.declared.plans.ReadingRow.{ReadingRow}
use Rattle.scj_model.specs.Code.{Code}
use Rattle.scj_model.specs.Plan.{Plan}
use Rattle.scj_model.specs.State.{IdleTurn, ReleaseAt, State, TheSequencer, Turn, TurnOf, is_exec}
use Rattle.scj_model.specs.Steps.{Step, for_each, silently, reporting, then_try}
use Rattle.scj_model.specs.Apply.{release_taken}
use Rattle.scj_model.specs.Sequencer.{BeginsExecution, BeginsMission, ClosesMission, Continues, EndsExecution, LacksMission, LacksSequencer, SeqEffect, SkipsExecution, TakesMission, TakesSafelet, TakesSequencer, Transition, after_operation, goes_to, gone_to, has_started, innermost, phase_after, seq_applied, transition_done}
use Rattle.scj_model.specs.Arrivals.{arrivals, due_handlers, executes_since, fired, fired_at, fired_handler, fires_due}
use Rattle.scj_model.specs.Choice.{Policy}
use Rattle.scj_model.specs.Run.{acts, empty_state, next_unit, turn_acts, turn_taken}
use Rattle.scj_model.specs.Reached.{Arrived, Between, Moment, Operated, Reached}
use Rattle.scj_model.proofs.Reaching.{reached_keeps}
use Rattle.scj_model.proofs.Units.{acts_keep_unit, arrivals_keep_unit, phase_keeps_unit}
use Rattle.run_sizes.specs.Growth.{IsWithinUnits}
use Rattle.run_sizes.proofs.Growing.{Grows, GrowsIf, GrowsTo, by_one, grows_closed, grows_fault, grows_taken, then_grows, unchanged}
use Rattle.run_sizes.proofs.Operating.{bind_grows, either_grows, grows_ref_op, grows_turn, mapped_grows, none_grows, some_grows}

-- ---- the choice and the operation

reported_grows : (s : State) (first : Step) (o : Option Step) → GrowsIf 1 s o →
    GrowsIf 1 s (option_map (λ (second : Step). reporting second.state (first.events ++ second.events)) o)
reported_grows s first None g = none_grows 1 s
reported_grows s first (Some second) g = some_grows 1 s _ (g.is second refl)

turn_grows : (code : Code) (rows : List ReadingRow) (turn : Turn) (s : State) →
    GrowsIf 1 s (turn_acts code rows turn s)
unfolding turn_acts
turn_grows code rows IdleTurn s = some_grows 1 s _ (by_one s _ (unchanged s _ refl refl))
turn_grows code rows (TurnOf index) s = grows_ref_op code rows s (ReleaseAt index)

chosen_grows : (code : Code) (rows : List ReadingRow) (s : State) (turn : Turn) →
    GrowsIf 1 s (then_try (turn_taken s turn) (turn_acts code rows turn))
unfolding turn_taken
chosen_grows code rows s turn =
    reported_grows s (turn_taken s turn) _
    (record {
      is = λ r e. then_grows 1 s (turn_taken s turn).state r.state (unchanged s (turn_taken s turn).state refl refl)
          ((turn_grows code rows turn (turn_taken s turn).state).is r e);
    })

acts_grow : (code : Code) (rows : List ReadingRow) (policy : Policy) (s : State) →
    GrowsIf 1 s (acts code rows policy s)
unfolding acts
acts_grow code rows policy s =
    either_grows 1 s (is_exec s.phase) _ _ (bind_grows 1 s (policy s) _ (λ turn. chosen_grows code rows s turn))
    (grows_turn code rows s)

-- ---- what follows in the sequencer

seq_grows : (code : Code) (s : State) (effect : SeqEffect) → GrowsTo 0 s (seq_applied code s effect)
unfolding seq_applied
seq_grows code s Continues = unchanged s _ refl refl
seq_grows code s (TakesSafelet r) = unchanged s _ refl refl
seq_grows code s (TakesSequencer r) = unchanged s _ refl refl
seq_grows code s (TakesMission r) = unchanged s _ refl refl
seq_grows code s (LacksSequencer r) = grows_fault s TheSequencer s.activity _ _
seq_grows code s LacksMission = unchanged s _ refl refl
seq_grows code s (BeginsMission r) = unchanged s _ refl refl
seq_grows code s BeginsExecution = unchanged s _ refl refl
seq_grows code s SkipsExecution = unchanged s _ refl refl
seq_grows code s EndsExecution = unchanged s _ refl refl
seq_grows code s ClosesMission =
    let g : Grows 0 s _ = grows_closed s (innermost s.activity.areas) in
    record { objects = g.objects; areas = g.areas }

transition_grows : (code : Code) (s : State) (o : Option Transition) →
    GrowsIf 0 s (option_map (transition_done code s) o)
transition_grows code s o =
    mapped_grows 0 s o (transition_done code s) (λ t.
    then_grows 0 s (gone_to s t) _ (unchanged s _ refl refl) (seq_grows code (gone_to s t) t.effect))

phase_grows : (code : Code) (s : State) → GrowsIf 0 s (phase_after code s)
unfolding phase_after
phase_grows code s =
    either_grows 0 s (is_exec s.phase) _ _
    (either_grows 0 s (s.is_end_asked && not (has_started s)) _ _
    (transition_grows code s (s.mission >>= (λ r. goes_to Cleanup (CleanUp r) EndsExecution)))
    (some_grows 0 s _ (unchanged s _ refl refl)))
    (on s.outcome)
  where
    on : (o : Option Value) →
        GrowsIf 0 s (elim o [ None ↦ Some (silently s) | Some value ↦ after_operation code s value ])
    on None = some_grows 0 s _ (unchanged s _ refl refl)
    on (Some value) = transition_grows code s _

-- ---- arrivals

each_grows : {A : Type 0} (step : State → A → Step) → ((s : State) (x : A) → GrowsTo 0 s (step s x)) →
    (xs : List A) (s : State) → GrowsTo 0 s (for_each step xs s)
unfolding for_each
each_grows step g [] s = unchanged s _ refl refl
each_grows step g (x ∷ xs) s =
    then_grows 0 s (step s x).state _ (g s x) (each_grows step g xs (step s x).state)

fired_grows : (code : Code) (s : State) (fire : Fire) → GrowsTo 0 s (fired code s fire)
unfolding fired
fired_grows code s fire = go (fired_handler code s fire.handler)
  where
    go : (h : Option ℕ) →
        GrowsTo 0 s (elim h as (λ x. Step) [
          | Some handler ↦ release_taken s handler
          | None ↦ reporting s (Miss s.unit fire.handler ∷ [])
        ])
    go None = unchanged s _ refl refl
    go (Some handler) = grows_taken s handler

fired_at_grows : (code : Code) (fires : List Fire) (s : State) (index : ℕ) → GrowsTo 0 s (fired_at code fires s index)
fired_at_grows code fires s index = go (slice_get fires index)
  where
    go : (f : Option Fire) → GrowsTo 0 s (elim f as (λ x. Step) [ None ↦ silently s | Some fire ↦ fired code s fire ])
    go None = unchanged s _ refl refl
    go (Some fire) = fired_grows code s fire

arrivals_grow : (code : Code) (plan : Plan) (s : State) → GrowsTo 0 s (arrivals code plan s)
unfolding arrivals
arrivals_grow code plan s =
    then_grows 0 s (for_each release_taken (due_handlers s) s).state _
    (each_grows release_taken grows_taken (due_handlers s) s)
    (each_grows (fired_at code plan.fires) (fired_at_grows code plan.fires)
    (fires_due (executes_since s) s.unit plan.fires) (for_each release_taken (due_handlers s) s).state)

-- ---- a run

pub within_units : (code : Code) (plan : Plan) (policy : Policy) (moment : Moment) (s : State) →
    Reached code plan policy moment s → IsWithinUnits moment s
unfolding empty_state
within_units code plan policy moment s reached =
    reached_keeps code plan policy (λ m t. IsWithinUnits m t)
    (record { objects = omega arith; areas = omega arith })
    (λ t w e. arrived t w)
    (λ t step w e. operated t step w e)
    (λ t step w e. followed t step w e)
    reached
  where
    arrived : (t : State) → IsWithinUnits Between t → IsWithinUnits Arrived (arrivals code plan t).state
    arrived t w =
        let g : GrowsTo 0 t (arrivals code plan t) = arrivals_grow code plan t in
        let u : (arrivals code plan t).state.unit ≡ t.unit = arrivals_keep_unit code plan t in
        record { objects = omega (arith, g.objects, w.objects, u); areas = omega (arith, g.areas, w.areas, u) }

    operated : (t : State) (step : Step) → IsWithinUnits Arrived t → acts code plan.readings policy t ≡ Some step →
        IsWithinUnits Operated step.state
    operated t step w e =
        let g : GrowsTo 1 t step = (acts_grow code plan.readings policy t).is step e in
        let u : step.state.unit ≡ t.unit = (acts_keep_unit code plan.readings policy t).is step e in
        record { objects = omega (arith, g.objects, w.objects, u); areas = omega (arith, g.areas, w.areas, u) }

    followed : (t : State) (step : Step) → IsWithinUnits Operated t → phase_after code t ≡ Some step →
        IsWithinUnits Between (next_unit step.state)
    followed t step w e =
        let g : GrowsTo 0 t step = (phase_grows code t).is step e in
        let u : step.state.unit ≡ t.unit = (phase_keeps_unit code t).is step e in
        record { objects = omega (arith, g.objects, w.objects, u); areas = omega (arith, g.areas, w.areas, u) }
