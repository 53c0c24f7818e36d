-- What arrivals tell, and what follows an operation, has proper parts.
use Rattle.std.proofs.Common.{◌≡◌, ℕ, ◌+◌, ◌++◌, ◌≤◌, Bool, true, false, not, ◌&&◌, ◌||◌, List, [], ◌∷◌, length, Option, Some, None, if◌then◌else◌, refl, sym, subst, arith}
use Rattle.std.specs.Prelude.{nat_lt, option_map, slice_get}
use Rattle.scj_base.specs.declared.positions.Position.{Position}
use Rattle.scj_base.specs.declared.values.Value.{Value}
use Rattle.scj_base.specs.declared.values.Value.TheVariants.{Int, Bool as Truth, Null, At}
use Rattle.scj_base.specs.Lexeme.{is_name}
use Rattle.scj_rules.specs.Classes.{is_empty}
use Rattle.scj_rules.specs.Words.{◌>>=◌}
use Rattle.scj_tree.specs.declared.nodes.Node.{Node}
use Rattle.scj_model.specs.declared.events.Event.TheVariants as event
use Rattle.scj_model.specs.declared.operations.SeqOp.{SeqOp}
use Rattle.scj_model.specs.declared.operations.SeqOp.TheVariants.{OpenImmortal, AllocSafelet, ConstructSafelet, InitializeApplication, GetSequencer, GetNextMission, OpenMission, Initialize, CleanUp, Execute, Finished}
use Rattle.scj_model.specs.declared.phases.Phase.TheVariants.{Cleanup, Next}
use Rattle.scj_model.specs.declared.plans.Fire.{Fire}
use Rattle.scj_model.specs.Code.{Code}
use Rattle.scj_model.specs.Plan.{Plan}
use Rattle.scj_model.specs.State.{TheSequencer, State, Waits, is_exec}
use Rattle.scj_model.specs.Steps.{Step, silently, reporting, for_each}
use Rattle.scj_model.specs.Apply.{class_name_at, most_waiting, release_taken, releases_of, waiting_of}
use Rattle.scj_model.specs.Arrivals.{arrivals, due_handlers, executes_since, fired, fired_at, fired_handler, fires_due}
use Rattle.scj_model.specs.Sequencer.{Continues, TakesSafelet, TakesSequencer, TakesMission, LacksSequencer, LacksMission, BeginsMission, BeginsExecution, SkipsExecution, EndsExecution, ClosesMission, SeqEffect, Transition, after_initialize, after_operation, goes_to, gone_to, has_started, phase_after, position_of_object, seq_applied, transition, transition_done}
use Rattle.audited_runs.proofs.Arrivals.{handler_has_row}
use Rattle.audited_runs.proofs.Arriving.{HasRow}
use Rattle.audited_runs.proofs.Due.{AllAre, due_have_rows}
use Rattle.audited_runs.proofs.proper.Effects.{few_as, good_fault, good_taken}
use Rattle.audited_runs.proofs.proper.Steps.{Good, GoodIf, either_good, good_silent, good_then, none_proper, nothing_good, one_proper, some_good, two_proper}

module _ (nodes : List Node) (F : Position → Type 0) where
  -- ---- arrivals

  taken_registry : (s : State) (handler : ℕ) → (release_taken s handler).state.registry ≡ s.registry
  unfolding release_taken
  taken_registry s handler = go (not (nat_lt (length (waiting_of s handler)) most_waiting))
    where
      go : (b : Bool) →
          (if b then reporting s (event.Lost s.unit handler ∷ [])
          else (let number = length (releases_of s handler) + 1 in
          reporting (record s { releases = s.releases ++ record { handler = handler; number = number; status = Waits } ∷ [] })
          (event.Arrive s.unit handler number ∷ []))).state.registry ≡ s.registry
      go true = refl
      go false = refl

  each_taken : (ns : List ℕ) (s : State) → length s.registry ≤ 64 → AllAre (HasRow s.registry) ns →
      Good nodes F (for_each release_taken ns s)
  unfolding for_each
  each_taken [] s few all = good_silent nodes F s few
  each_taken (n ∷ ns) s few all =
      good_then nodes F (release_taken s n) (for_each release_taken ns) (good_taken nodes F s n few all.0)
      (each_taken ns (release_taken s n).state (few_as s (release_taken s n).state (taken_registry s n) few)
      (subst (λ rows. AllAre (HasRow rows) ns) (sym (taken_registry s n)) all.1))

  fire_good : (code : Code) (s : State) (fire : Fire) → length s.registry ≤ 64 → Good nodes F (fired code s fire)
  unfolding fired
  fire_good code s fire few = go (fired_handler code s fire.handler) refl
    where
      go : (o : Option ℕ) → fired_handler code s fire.handler ≡ o →
          Good nodes F
          (elim o as (λ _. Step) [
            | Some handler ↦ release_taken s handler
            | None ↦ reporting s (event.Miss s.unit fire.handler ∷ [])
          ])
      go None e = record { events = one_proper nodes F (event.Miss s.unit fire.handler) tt; few = few }
      go (Some handler) e = good_taken nodes F s handler few (handler_has_row code s fire.handler handler e)

  each_fired : (code : Code) (fires : List Fire) (ns : List ℕ) (s : State) → length s.registry ≤ 64 →
      Good nodes F (for_each (fired_at code fires) ns s)
  unfolding for_each
  each_fired code fires [] s few = good_silent nodes F s few
  each_fired code fires (n ∷ ns) s few =
      let one : Good nodes F (fired_at code fires s n) = first (slice_get fires n) in
      good_then nodes F (fired_at code fires s n) (for_each (fired_at code fires) ns) one
      (each_fired code fires ns (fired_at code fires s n).state one.few)
    where
      first : (o : Option Fire) →
          Good nodes F (elim o as (λ _. Step) [ None ↦ silently s | Some fire ↦ fired code s fire ])
      first None = good_silent nodes F s few
      first (Some fire) = fire_good code s fire few

  pub arrivals_good : (code : Code) (plan : Plan) (s : State) → length s.registry ≤ 64 →
      Good nodes F (arrivals code plan s)
  unfolding arrivals
  arrivals_good code plan s few =
      let first : Good nodes F (for_each release_taken (due_handlers s) s) =
      each_taken (due_handlers s) s few (due_have_rows s) in
      good_then nodes F (for_each release_taken (due_handlers s) s)
      (for_each (fired_at code plan.fires) (fires_due (executes_since s) s.unit plan.fires)) first
      (each_fired code plan.fires (fires_due (executes_since s) s.unit plan.fires)
      (for_each release_taken (due_handlers s) s).state first.few)

  -- ---- what follows an operation

  module _ (code : Code) where
    abbrev Reports : State → SeqEffect → Type 0
    Reports s (LacksSequencer q) = F (position_of_object code s q)
    Reports s (BeginsMission q) = is_name (class_name_at code s q) ≡ true
    Reports s e = Unit {0}

    effect_good : (s : State) (e : SeqEffect) → length s.registry ≤ 64 → Reports s e →
        Good nodes F (seq_applied code s e)
    unfolding seq_applied
    effect_good s Continues few h = good_silent nodes F s few
    effect_good s (TakesSafelet q) few h = record { events = none_proper nodes F; few = few }
    effect_good s (TakesSequencer q) few h = record { events = none_proper nodes F; few = few }
    effect_good s (TakesMission q) few h = record { events = none_proper nodes F; few = few }
    effect_good s (LacksSequencer q) few h =
        good_fault nodes F s TheSequencer s.activity (position_of_object code s q) _ few h
    effect_good s LacksMission few h = record { events = one_proper nodes F (event.Done s.unit) tt; few = few }
    effect_good s (BeginsMission q) few h =
        record { events = one_proper nodes F (event.Mission s.unit (class_name_at code s q)) h; few = few }
    effect_good s BeginsExecution few h = record { events = one_proper nodes F (event.Exec s.unit) tt; few = few }
    effect_good s SkipsExecution few h =
        record { events = two_proper nodes F (event.Exec s.unit) (event.Cleanup s.unit) tt tt; few = few }
    effect_good s EndsExecution few h = record { events = one_proper nodes F (event.Cleanup s.unit) tt; few = few }
    effect_good s ClosesMission few h = record { events = none_proper nodes F; few = omega arith }

    module _ (s : State) (few : length s.registry ≤ 64)
        (asks : (r : ℕ) → s.operation ≡ GetSequencer r → F (position_of_object code s r))
        (opens : (r : ℕ) → s.operation ≡ OpenMission r → is_name (class_name_at code s r) ≡ true) where
      goes_good : (t : Transition) → Reports (gone_to s t) t.effect → GoodIf (Good nodes F) (Some (transition_done code s t))
      goes_good t h = some_good (Good nodes F) _ (effect_good (gone_to s t) t.effect few h)

      known_good : (o : Option ℕ) →
          GoodIf (Good nodes F)
          (option_map (transition_done code s)
          (o >>= (λ q. goes_to Next (GetNextMission q) ClosesMission)))
      known_good None = nothing_good (Good nodes F)
      known_good (Some q) = goes_good _ tt

      initialized_good : (skips : Bool) (r : ℕ) →
          GoodIf (Good nodes F) (option_map (transition_done code s) (after_initialize skips r))
      initialized_good true r = goes_good _ tt
      initialized_good false r = goes_good _ tt

      transits_good : (known : Option ℕ) (skips : Bool) (op : SeqOp) (value : Value) → s.operation ≡ op →
          GoodIf (Good nodes F) (option_map (transition_done code s) (transition known skips op value))
      unfolding transition
      transits_good known skips OpenImmortal value same = goes_good _ tt
      transits_good known skips AllocSafelet (At r) same = goes_good _ tt
      transits_good known skips AllocSafelet Null same = nothing_good (Good nodes F)
      transits_good known skips AllocSafelet (Int z) same = nothing_good (Good nodes F)
      transits_good known skips AllocSafelet (Truth b) same = nothing_good (Good nodes F)
      transits_good known skips (ConstructSafelet r) value same = goes_good _ tt
      transits_good known skips (InitializeApplication r) value same = goes_good _ tt
      transits_good known skips (GetSequencer r) (At q) same = goes_good _ tt
      transits_good known skips (GetSequencer r) Null same = goes_good _ (asks r same)
      transits_good known skips (GetSequencer r) (Int z) same = goes_good _ (asks r same)
      transits_good known skips (GetSequencer r) (Truth b) same = goes_good _ (asks r same)
      transits_good known skips (GetNextMission r) (At m) same = goes_good _ tt
      transits_good known skips (GetNextMission r) Null same = goes_good _ tt
      transits_good known skips (GetNextMission r) (Int z) same = goes_good _ tt
      transits_good known skips (GetNextMission r) (Truth b) same = goes_good _ tt
      transits_good known skips (OpenMission r) value same = goes_good _ (opens r same)
      transits_good known skips (Initialize r) value same = initialized_good skips r
      transits_good known skips (CleanUp r) value same = known_good known
      transits_good known skips Execute value same = nothing_good (Good nodes F)
      transits_good known skips Finished value same = nothing_good (Good nodes F)

      ended_good : (o : Option ℕ) →
          GoodIf (Good nodes F)
          (option_map (transition_done code s) (o >>= (λ r. goes_to Cleanup (CleanUp r) EndsExecution)))
      ended_good None = nothing_good (Good nodes F)
      ended_good (Some r) = goes_good _ tt

      pub phase_good : GoodIf (Good nodes F) (phase_after code s)
      unfolding phase_after
      phase_good =
          either_good (Good nodes F) (is_exec s.phase) _ _
          (λ e. either_good (Good nodes F) (s.is_end_asked && not (has_started s)) _ _ (λ f. ended_good s.mission)
          (λ f. some_good (Good nodes F) _ (good_silent nodes F s few)))
          (λ e. on s.outcome)
        where
          on : (v : Option Value) →
              GoodIf (Good nodes F) (elim v [ None ↦ Some (silently s) | Some value ↦ after_operation code s value ])
          on None = some_good (Good nodes F) _ (good_silent nodes F s few)
          on (Some value) =
              transits_good s.mission_sequencer (is_empty s.registry || s.is_end_asked) s.operation value refl
