-- Arrivals, and what follows an operation: the numbers have 32 bits as before.
use Rattle.std.proofs.Common.{◌≡◌, ℕ, All, not, ◌&&◌, List, [], ◌∷◌, Option, Some, None, refl}
use Rattle.std.specs.Prelude.{option_map, slice_get}
use Rattle.std.proofs.lemmas.List.Elements.{All-nil}
use Rattle.scj_base.specs.declared.values.Value.{Value}
use Rattle.scj_rules.specs.Contexts.{Declarations}
use Rattle.scj_rules.specs.Words.{◌>>=◌}
use Rattle.scj_model.specs.declared.events.Event.{Event}
use Rattle.scj_model.specs.declared.events.Event.TheVariants as event
use Rattle.scj_model.specs.declared.operations.SeqOp.TheVariants.{CleanUp}
use Rattle.scj_model.specs.declared.phases.Phase.TheVariants.{Cleanup}
use Rattle.scj_model.specs.declared.plans.Fire.{Fire}
use Rattle.scj_model.specs.Code.{Code}
use Rattle.scj_model.specs.Plan.{Plan}
use Rattle.scj_model.specs.State.{TheSequencer, State, is_exec}
use Rattle.scj_model.specs.Memory.{closed}
use Rattle.scj_model.specs.Steps.{Step, for_each, silently, reporting}
use Rattle.scj_model.specs.Apply.{class_name_at, release_taken}
use Rattle.scj_model.specs.Arrivals.{arrivals, due_handlers, executes_since, fired, fired_at, fired_handler, fires_due}
use Rattle.scj_model.specs.Sequencer.{BeginsExecution, BeginsMission, ClosesMission, Continues, EndsExecution, LacksMission, LacksSequencer, SeqEffect, SkipsExecution, TakesMission, TakesSafelet, TakesSequencer, Transition, after_operation, goes_to, gone_to, has_started, innermost, phase_after, position_of_object, seq_applied, transition_done}
use Rattle.int_values.specs.Ints.{PrintsInt, StateFits, StepFits}
use Rattle.int_values.proofs.Applied.{fault_fits, taken_fits}
use Rattle.int_values.proofs.Changes.{alike, closed_fits}
use Rattle.int_values.proofs.Steps.{GoodIf, either_good, mapped_good, one_event, silent_fits, some_good, then_fits, two_events}

module _ (p : Declarations) where
  -- ---- arrivals

  each_fits : {A : Type 0} (step : State → A → Step) → ((s : State) (x : A) → StateFits p s → StepFits p (step s x)) →
      (xs : List A) (s : State) → StateFits p s → StepFits p (for_each step xs s)
  unfolding for_each
  each_fits step one [] s h = silent_fits p s h
  each_fits step one (x ∷ xs) s h =
      then_fits p (step s x) (for_each step xs) (one s x h) (each_fits step one xs (step s x).state (one s x h).state)

  fired_fits : (code : Code) (s : State) (fire : Fire) → StateFits p s → StepFits p (fired code s fire)
  unfolding fired
  fired_fits code s fire h = go (fired_handler code s fire.handler)
    where
      go : (o : Option ℕ) →
          StepFits p (elim o as (λ _. Step) [
            | Some handler ↦ release_taken s handler
            | None ↦ reporting s (event.Miss s.unit fire.handler ∷ [])
          ])
      go None = record { state = h; events = one_event p (event.Miss s.unit fire.handler) tt }
      go (Some handler) = taken_fits p s handler h

  fire_fits : (code : Code) (fires : List Fire) (s : State) (n : ℕ) → StateFits p s → StepFits p (fired_at code fires s n)
  fire_fits code fires s n h = go (slice_get fires n)
    where
      go : (o : Option Fire) → StepFits p (elim o as (λ _. Step) [ None ↦ silently s | Some fire ↦ fired code s fire ])
      go None = silent_fits p s h
      go (Some fire) = fired_fits code s fire h

  pub arrivals_fit : (code : Code) (plan : Plan) (s : State) → StateFits p s → StepFits p (arrivals code plan s)
  unfolding arrivals
  arrivals_fit code plan s h =
      let first : StepFits p (for_each release_taken (due_handlers s) s) =
      each_fits release_taken (λ t n g. taken_fits p t n g) (due_handlers s) s h in
      then_fits p (for_each release_taken (due_handlers s) s)
      (for_each (fired_at code plan.fires) (fires_due (executes_since s) s.unit plan.fires)) first
      (each_fits (fired_at code plan.fires) (λ t n g. fire_fits code plan.fires t n g)
      (fires_due (executes_since s) s.unit plan.fires) (for_each release_taken (due_handlers s) s).state first.state)

  -- ---- what follows an operation

  frames_closed : (s : State) (o : Option ℕ) → s.activity.frames ≡ (closed s o).activity.frames
  unfolding closed
  frames_closed s None = refl
  frames_closed s (Some a) = refl

  -- another phase, operation, mission or choice, with these events
  goes_on : (s t : State) (es : List Event) → StateFits p s → t.store ≡ s.store → t.areas ≡ s.areas →
      t.objects ≡ s.objects → t.statics ≡ s.statics → t.activity.frames ≡ s.activity.frames →
      t.releases ≡ s.releases → All PrintsInt es → StepFits p (reporting t es)
  goes_on s t es h store areas objects statics frames releases k =
      record { state = alike p s t h store areas objects statics frames releases; events = k }

  module _ (code : Code) where
    effect_fits : (s : State) (e : SeqEffect) → StateFits p s → StepFits p (seq_applied code s e)
    unfolding seq_applied
    effect_fits s Continues h = silent_fits p s h
    effect_fits s (TakesSafelet q) h = goes_on s _ _ h refl refl refl refl refl refl (All-nil PrintsInt)
    effect_fits s (TakesSequencer q) h = goes_on s _ _ h refl refl refl refl refl refl (All-nil PrintsInt)
    effect_fits s (TakesMission q) h = goes_on s _ _ h refl refl refl refl refl refl (All-nil PrintsInt)
    effect_fits s (LacksSequencer q) h = fault_fits p s TheSequencer s.activity (position_of_object code s q) _ h
    effect_fits s LacksMission h = record { state = h; events = one_event p (event.Done s.unit) tt }
    effect_fits s (BeginsMission q) h =
        record { state = h; events = one_event p (event.Mission s.unit (class_name_at code s q)) tt }
    effect_fits s BeginsExecution h =
        goes_on s _ _ h refl refl refl refl refl refl (one_event p (event.Exec s.unit) tt)
    effect_fits s SkipsExecution h =
        record { state = h; events = two_events p (event.Exec s.unit) (event.Cleanup s.unit) tt tt }
    effect_fits s EndsExecution h = record { state = h; events = one_event p (event.Cleanup s.unit) tt }
    effect_fits s ClosesMission h =
        silent_fits p _
        (alike p (closed s (innermost s.activity.areas)) _ (closed_fits p s (innermost s.activity.areas) h)
        refl refl refl refl (frames_closed s (innermost s.activity.areas)) refl)

    module _ (s : State) (h : StateFits p s) where
      transition_fits : (o : Option Transition) → GoodIf (StepFits p) (option_map (transition_done code s) o)
      transition_fits o =
          mapped_good (StepFits p) o (transition_done code s)
          (λ t e. effect_fits (gone_to s t) t.effect (alike p s (gone_to s t) h refl refl refl refl refl refl))

      pub phase_fits : GoodIf (StepFits p) (phase_after code s)
      unfolding phase_after
      phase_fits =
          either_good (StepFits p) (is_exec s.phase) _ _
          (λ e. either_good (StepFits p) (s.is_end_asked && not (has_started s)) _ _
          (λ g. transition_fits (s.mission >>= (λ r. goes_to Cleanup (CleanUp r) EndsExecution)))
          (λ g. some_good (StepFits p) _ (silent_fits p s h)))
          (λ e. on s.outcome)
        where
          on : (v : Option Value) →
              GoodIf (StepFits p) (elim v [ None ↦ Some (silently s) | Some value ↦ after_operation code s value ])
          on None = some_good (StepFits p) _ (silent_fits p s h)
          on (Some value) = transition_fits _
