-- How a unit goes on in the memory: its arrivals, its operation, and what follows it.
use Rattle.std.proofs.Common.{◌≡◌, ℕ, Bool, true, false, not, ◌&&◌, List, [], ◌∷◌, ◌++◌, Option, Some, None, if◌then◌else◌, refl, ap, subst}
use Rattle.std.specs.Prelude.{option_map, slice_get, unwrap_or}
use Rattle.scj_base.specs.declared.values.Value.{Value}
use Rattle.scj_rules.specs.Words.{◌>>=◌}
use Rattle.scj_model.specs.declared.events.Event.TheVariants.{Miss}
use Rattle.scj_model.specs.declared.phases.Phase.TheVariants.{Cleanup}
use Rattle.scj_model.specs.declared.operations.SeqOp.TheVariants.{CleanUp}
use Rattle.scj_model.specs.declared.plans.Fire.{Fire}
use Rattle.scj_model.specs.declared.plans.ReadingRow.{ReadingRow}
use Rattle.scj_model.specs.Code.{Code}
use Rattle.scj_model.specs.Plan.{Plan}
use Rattle.scj_model.specs.State.{Activity, IdleTurn, Job, ReleaseAt, State, TheSequencer, Turn, TurnOf, activity_of, is_exec}
use Rattle.scj_model.specs.Steps.{Step, for_each, silently, reporting, then_try}
use Rattle.scj_model.specs.Apply.{release_taken}
use Rattle.scj_model.specs.Sequencer.{BeginsExecution, BeginsMission, ClosesMission, Continues, EndsExecution, LacksMission, LacksSequencer, SeqEffect, SkipsExecution, TakesMission, TakesSafelet, TakesSequencer, Transition, after_operation, goes_to, gone_to, has_started, innermost, phase_after, seq_applied, transition_done}
use Rattle.scj_model.specs.Arrivals.{arrivals, due_handlers, executes_since, fired, fired_at, fired_handler, fires_due}
use Rattle.scj_model.specs.Choice.{Policy}
use Rattle.scj_model.specs.Run.{acts, turn_acts, turn_taken}
use Rattle.area_growth.specs.Growth.{AreSituated, StaysStill, makes, opens, still}
use Rattle.area_growth.proofs.Growing.{GoesTo, SameTo, StillTo, goes_same, same_still, same_taken, same_then_same, still_closed, still_fault, still_then_still, unchanged}
use Rattle.area_growth.proofs.Operating.{GoesIf, bind_goes, either_goes, goes_ref_op, goes_turn, none_goes, some_goes}

-- ---- the choice and the operation

reported_goes : (s : State) (first : Step) (o : Option Step) → GoesIf s o →
    GoesIf s (option_map (λ (second : Step). reporting second.state (first.events ++ second.events)) o)
reported_goes s first None g = none_goes s
reported_goes s first (Some second) g = some_goes s _ (g.is second refl)

turn_goes : (code : Code) (rows : List ReadingRow) (turn : Turn) (s : State) → AreSituated code rows s →
    GoesIf s (turn_acts code rows turn s)
unfolding turn_acts
turn_goes code rows IdleTurn s m = some_goes s _ (goes_same s _ (unchanged s _ refl refl))
turn_goes code rows (TurnOf index) s m =
    goes_ref_op code rows s index
    (λ activity there f below op rest e r. m.jobs (ReleaseAt index) activity f below op rest there e r)

-- a turn that is taken changes nothing that is looked at
taken : (code : Code) (rows : List ReadingRow) (s : State) (turn : Turn) → AreSituated code rows s →
    AreSituated code rows (turn_taken s turn).state
unfolding turn_taken activity_of
taken code rows s turn m = record {
  jobs = λ job activity f below op rest there e r. m.jobs job activity f below op rest (same job activity there) e r;
  own = m.own;
}
  where
    same : (job : Job) (activity : Activity) → activity_of (turn_taken s turn).state job ≡ Some activity →
        activity_of s job ≡ Some activity
    same TheSequencer activity e = e
    same (ReleaseAt index) activity e = e

chosen_goes : (code : Code) (rows : List ReadingRow) (s : State) (turn : Turn) → AreSituated code rows s →
    GoesIf s (then_try (turn_taken s turn) (turn_acts code rows turn))
unfolding turn_taken
chosen_goes code rows s turn m =
    reported_goes s (turn_taken s turn) _
    (record { is = λ r e. as_it_was r ((turn_goes code rows turn (turn_taken s turn).state (taken code rows s turn m)).is r e) })
  where
    as_it_was : (r : Step) → GoesTo (turn_taken s turn).state r → GoesTo s r
    as_it_was r (still g) = still (record { areas = g.areas; used = g.used })
    as_it_was r (makes area o e l same) = makes area o e l same
    as_it_was r (opens area o e same) = opens area o e same

pub acts_go : (code : Code) (rows : List ReadingRow) (policy : Policy) (s : State) → AreSituated code rows s →
    GoesIf s (acts code rows policy s)
unfolding acts
acts_go code rows policy s m =
    either_goes s (is_exec s.phase) _ _
    (bind_goes s (policy s) _ (λ turn _. chosen_goes code rows s turn m))
    (goes_turn code rows s m)

-- ---- what follows in the sequencer

pub record StillIf (s : State) (o : Option Step) : Type 0 where
  pub is : (r : Step) → o ≡ Some r → StillTo s r

some_still : (s : State) (r : Step) → StillTo s r → StillIf s (Some r)
some_still s r g =
    record { is = λ q e. subst (λ (x : Step). StillTo s x) (ap (λ (o : Option Step). unwrap_or o r) e) g }

none_still : (s : State) → StillIf s None
none_still s = record { is = λ q e. absurd (cc (e)) }

either_still : (s : State) (b : Bool) (x y : Option Step) → StillIf s x → StillIf s y →
    StillIf s (if b then x else y)
either_still s true x y g h = g
either_still s false x y g h = h

seq_still : (code : Code) (s : State) (effect : SeqEffect) → StillTo s (seq_applied code s effect)
unfolding seq_applied
seq_still code s Continues = same_still s _ (unchanged s _ refl refl)
seq_still code s (TakesSafelet r) = same_still s _ (unchanged s _ refl refl)
seq_still code s (TakesSequencer r) = same_still s _ (unchanged s _ refl refl)
seq_still code s (TakesMission r) = same_still s _ (unchanged s _ refl refl)
seq_still code s (LacksSequencer r) = still_fault s TheSequencer s.activity _ _
seq_still code s LacksMission = same_still s _ (unchanged s _ refl refl)
seq_still code s (BeginsMission r) = same_still s _ (unchanged s _ refl refl)
seq_still code s BeginsExecution = same_still s _ (unchanged s _ refl refl)
seq_still code s SkipsExecution = same_still s _ (unchanged s _ refl refl)
seq_still code s EndsExecution = same_still s _ (unchanged s _ refl refl)
seq_still code s ClosesMission =
    let g : StaysStill s _ = still_closed s (innermost s.activity.areas) in
    record { areas = g.areas; used = g.used }

transition_still : (code : Code) (s : State) (o : Option Transition) →
    StillIf s (option_map (transition_done code s) o)
transition_still code s None = none_still s
transition_still code s (Some t) =
    some_still s _
    (still_then_still s (gone_to s t) _ (same_still s _ (unchanged s (gone_to s t) refl refl))
    (seq_still code (gone_to s t) t.effect))

pub phase_still : (code : Code) (s : State) → StillIf s (phase_after code s)
unfolding phase_after
phase_still code s =
    either_still s (is_exec s.phase) _ _
    (either_still s (s.is_end_asked && not (has_started s)) _ _
    (transition_still code s (s.mission >>= (λ r. goes_to Cleanup (CleanUp r) EndsExecution)))
    (some_still s _ (same_still s _ (unchanged s _ refl refl))))
    (on s.outcome)
  where
    on : (o : Option Value) →
        StillIf s (elim o [ None ↦ Some (silently s) | Some value ↦ after_operation code s value ])
    on None = some_still s _ (same_still s _ (unchanged s _ refl refl))
    on (Some value) = transition_still code s _

-- ---- arrivals

each_same : {A : Type 0} (step : State → A → Step) → ((s : State) (x : A) → SameTo s (step s x)) →
    (xs : List A) (s : State) → SameTo s (for_each step xs s)
unfolding for_each
each_same step g [] s = unchanged s _ refl refl
each_same step g (x ∷ xs) s = same_then_same s (step s x).state _ (g s x) (each_same step g xs (step s x).state)

fired_same : (code : Code) (s : State) (fire : Fire) → SameTo s (fired code s fire)
unfolding fired
fired_same code s fire = go (fired_handler code s fire.handler)
  where
    go : (h : Option ℕ) →
        SameTo s (elim h as (λ x. Step) [
          | Some handler ↦ release_taken s handler
          | None ↦ reporting s (Miss s.unit fire.handler ∷ [])
        ])
    go None = unchanged s _ refl refl
    go (Some handler) = same_taken s handler

fired_at_same : (code : Code) (fires : List Fire) (s : State) (index : ℕ) → SameTo s (fired_at code fires s index)
fired_at_same code fires s index = go (slice_get fires index)
  where
    go : (f : Option Fire) → SameTo s (elim f as (λ x. Step) [ None ↦ silently s | Some fire ↦ fired code s fire ])
    go None = unchanged s _ refl refl
    go (Some fire) = fired_same code s fire

pub arrivals_same : (code : Code) (plan : Plan) (s : State) → SameTo s (arrivals code plan s)
unfolding arrivals
arrivals_same code plan s =
    same_then_same s (for_each release_taken (due_handlers s) s).state _
    (each_same release_taken same_taken (due_handlers s) s)
    (each_same (fired_at code plan.fires) (fired_at_same code plan.fires)
    (fires_due (executes_since s) s.unit plan.fires) (for_each release_taken (due_handlers s) s).state)
