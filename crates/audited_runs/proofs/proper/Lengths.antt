-- How many lines a run tells in so many units: its trace has fewer than 2^64 by a plan that keeps its limits.
use Rattle.std.proofs.Common.{◌≡◌, ℕ, zero, suc, ◌+◌, ◌*◌, ◌^◌, ◌≤◌, ◌<◌, Bool, true, false, not, ◌&&◌, ◌||◌, List, [], ◌∷◌, ◌++◌, length, Option, Some, None, if◌then◌else◌, refl, sym, subst, arith}
use Rattle.std.specs.Prelude.{option_map, slice_get}
use Rattle.std.proofs.lemmas.List.{length-append}
use Rattle.scj_base.specs.declared.values.Value.{Value}
use Rattle.scj_rules.specs.Classes.{is_empty}
use Rattle.scj_rules.specs.Words.{◌>>=◌, holds}
use Rattle.scj_model.specs.declared.events.Event.{Event}
use Rattle.scj_model.specs.declared.events.Event.TheVariants as event
use Rattle.scj_model.specs.declared.operations.SeqOp.TheVariants.{CleanUp}
use Rattle.scj_model.specs.declared.phases.Phase.TheVariants.{Cleanup}
use Rattle.scj_model.specs.declared.plans.Fire.{Fire}
use Rattle.scj_model.specs.declared.plans.ReadingRow.{ReadingRow}
use Rattle.scj_model.specs.Arrivals.{arrivals, comes_in, due_handlers, executes_since, fired, fired_at, fired_handler, fires_due, handlers_due, is_due, numbers_where}
use Rattle.scj_model.specs.Apply.{release_taken, takes_releases}
use Rattle.scj_model.specs.Choice.{by_priority, chosen}
use Rattle.scj_model.specs.Code.{Code}
use Rattle.scj_model.specs.Plan.{Plan}
use Rattle.scj_model.specs.Reached.{Between, Reached}
use Rattle.scj_model.specs.Run.{acts, continued, empty_state, has_ended, is_same_turn, one_more_unit, one_unit, run, RunSoFar, report_turn, trace, turn_acts, turn_taken, with_turn}
use Rattle.scj_model.specs.Sequencer.{Continues, TakesSafelet, TakesSequencer, TakesMission, LacksSequencer, LacksMission, BeginsMission, BeginsExecution, SkipsExecution, EndsExecution, ClosesMission, SeqEffect, Transition, after_operation, goes_to, gone_to, has_started, innermost, phase_after, seq_applied, transition, transition_done}
use Rattle.scj_model.specs.State.{Release, State, Turn, IdleTurn, TurnOf, is_exec}
use Rattle.scj_model.specs.Steps.{Step, fault_in, for_each, silently, reporting, then_do, then_try}
use Rattle.scj_model.proofs.Reaching.{reached_run}
use Rattle.audited_runs.proofs.OneUnit.{UnitParts, unit_parts}
use Rattle.audited_runs.proofs.proper.Counts.{Short, many_closed, short_taken}
use Rattle.audited_runs.proofs.proper.CountedTurns.{short_release, short_sequencer}
use Rattle.audited_runs.proofs.proper.Steps.{GoodIf, either_good, mapped_good, nothing_good, some_good}

-- ---- the choice and the operation

module _ (n : ℕ) (code : Code) (rows : List ReadingRow) (s : State) (h : length s.releases ≤ n) where
  abbrev W : Step → Type 0
  W = Short (n + 1) (n + 3)

  after_turn : (first : Step) (next : State → Option Step) → length first.events ≤ 1 →
      GoodIf (Short (n + 1) (n + 2)) (next first.state) → GoodIf W (then_try first next)
  after_turn first next l k = go (next first.state) k
    where
      go : (o : Option Step) → GoodIf (Short (n + 1) (n + 2)) o →
          GoodIf W (option_map (λ second. reporting second.state (first.events ++ second.events)) o)
      go None g = nothing_good W
      go (Some second) g =
          some_good W _
          (record {
            reported =
                let e = length-append first.events second.events in
                let m = (g.is second refl).reported in omega (arith, e, l, m);
            more = (g.is second refl).more;
          })

  one_turn : (turn : Turn) → length (turn_taken s turn).events ≤ 1
  unfolding turn_taken report_turn
  one_turn IdleTurn = go (holds s.last_choice (is_same_turn IdleTurn))
    where
      go : (b : Bool) → length (if b then [] else event.Idle s.unit ∷ []) ≤ 1
      go true = omega arith
      go false = omega arith
  one_turn (TurnOf p) = go (holds s.last_choice (is_same_turn (TurnOf p))) (slice_get s.releases p)
    where
      go : (b : Bool) (o : Option Release) →
          length (if b then [] else (elim o as (λ _. List Event) [
            | None ↦ []
            | Some r ↦ event.Run s.unit r.handler r.number ∷ []
          ])) ≤ 1
      go true o = omega arith
      go false None = omega arith
      go false (Some r) = omega arith

  by_choice : (index : Option ℕ) →
      GoodIf W
      (then_try (turn_taken s (elim index [ None ↦ IdleTurn | Some index ↦ TurnOf index ]))
      (turn_acts code rows (elim index [ None ↦ IdleTurn | Some index ↦ TurnOf index ])))
  unfolding turn_taken turn_acts
  by_choice None =
      after_turn (turn_taken s IdleTurn) (turn_acts code rows IdleTurn) (one_turn IdleTurn)
      (some_good (Short (n + 1) (n + 2)) _ (record { reported = omega arith; more = omega (arith, h) }))
  by_choice (Some p) =
      after_turn (turn_taken s (TurnOf p)) (turn_acts code rows (TurnOf p)) (one_turn (TurnOf p))
      (short_release n code rows (with_turn s (TurnOf p)) h p)

  acts_short : GoodIf W (acts code rows by_priority s)
  unfolding acts by_priority
  acts_short =
      either_good W (is_exec s.phase) _ _ (λ exec. by_choice (chosen s)) (λ quiet. weaker (short_sequencer n code rows s h))
    where
      weaker : {o : Option Step} → GoodIf (Short (n + 1) (n + 2)) o → GoodIf W o
      weaker k =
          record {
            is = λ x e. record { reported = (let l = (k.is x e).reported in omega (arith, l)); more = (k.is x e).more };
          }

-- ---- what follows

module _ (m : ℕ) (code : Code) where
  abbrev T : Step → Type 0
  T = Short m 2

  effect_short : (s : State) (e : SeqEffect) → length s.releases ≤ m → T (seq_applied code s e)
  unfolding seq_applied fault_in
  effect_short s Continues h = record { reported = omega arith; more = h }
  effect_short s (TakesSafelet q) h = record { reported = omega arith; more = h }
  effect_short s (TakesSequencer q) h = record { reported = omega arith; more = h }
  effect_short s (TakesMission q) h = record { reported = omega arith; more = h }
  effect_short s (LacksSequencer q) h = record { reported = omega arith; more = h }
  effect_short s LacksMission h = record { reported = omega arith; more = h }
  effect_short s (BeginsMission q) h = record { reported = omega arith; more = h }
  effect_short s BeginsExecution h = record { reported = omega arith; more = h }
  effect_short s SkipsExecution h = record { reported = omega arith; more = h }
  effect_short s EndsExecution h = record { reported = omega arith; more = h }
  effect_short s ClosesMission h =
      record { reported = omega arith; more = many_closed m s (innermost s.activity.areas) h }

  module _ (s : State) (h : length s.releases ≤ m) where
    transits : (t : Option Transition) → GoodIf T (option_map (transition_done code s) t)
    transits t = mapped_good T t (transition_done code s) (λ x e. effect_short (gone_to s x) x.effect h)

    same_short : GoodIf T (Some (silently s))
    same_short = some_good T _ (record { reported = omega arith; more = h })

    phase_short : GoodIf T (phase_after code s)
    unfolding phase_after
    phase_short =
        either_good T (is_exec s.phase) _ _
        (λ e. either_good T (s.is_end_asked && not (has_started s)) _ _
        (λ f. transits (s.mission >>= (λ r. goes_to Cleanup (CleanUp r) EndsExecution))) (λ f. same_short))
        (λ e. on s.outcome)
      where
        on : (v : Option Value) →
            GoodIf T (elim v [ None ↦ Some (silently s) | Some value ↦ after_operation code s value ])
        on None = same_short
        on (Some value) =
            transits (transition s.mission_sequencer (is_empty s.registry || s.is_end_asked) s.operation value)

-- ---- arrivals

fewer_where : {A : Type 0} (test : A → Bool) (k : ℕ) (xs : List A) → length (numbers_where test k xs) ≤ length xs
unfolding numbers_where
fewer_where test k [] = omega arith
fewer_where test k (x ∷ xs) = go (test x) (fewer_where test (k + 1) xs)
  where
    go : (b : Bool) → length (numbers_where test (k + 1) xs) ≤ length xs →
        length ((if b then k ∷ [] else []) ++ numbers_where test (k + 1) xs) ≤ suc (length xs)
    go true h = omega (arith, h)
    go false h = omega (arith, h)

then_short : (first : Step) (next : State → Step) (a b c d : ℕ) → Short a b first → Short c d (next first.state) →
    Short c (b + d) (then_do first next)
then_short first next a b c d h k =
    record {
      reported =
          let e = length-append first.events (next first.state).events in
          let l = h.reported in
          let m = k.reported in omega (arith, e, l, m);
      more = k.more;
    }

each_short : (step : State → ℕ → Step) →
    ((m : ℕ) (t : State) (x : ℕ) → length t.releases ≤ m → Short (m + 1) 1 (step t x)) → (xs : List ℕ) (n : ℕ)
    (s : State) → length s.releases ≤ n → Short (n + length xs) (length xs) (for_each step xs s)
unfolding for_each
each_short step one [] n s h = record { reported = omega arith; more = omega (arith, h) }
each_short step one (x ∷ xs) n s h =
    let first : Short (n + 1) 1 (step s x) = one n s x h in
    let rest : Short (n + 1 + length xs) (length xs) (for_each step xs (step s x).state) =
    each_short step one xs (n + 1) (step s x).state first.more in
    let both : Short (n + 1 + length xs) (1 + length xs) (then_do (step s x) (for_each step xs)) =
    then_short (step s x) (for_each step xs) (n + 1) 1 (n + 1 + length xs) (length xs) first rest in
    record {
      reported = (let l = both.reported in omega (arith, l));
      more = (let m = both.more in omega (arith, m));
    }

fire_short : (code : Code) (fires : List Fire) (m : ℕ) (t : State) (x : ℕ) → length t.releases ≤ m →
    Short (m + 1) 1 (fired_at code fires t x)
unfolding fired
fire_short code fires m t x h = at (slice_get fires x)
  where
    by : (fire : Fire) (o : Option ℕ) →
        Short (m + 1) 1
        (elim o as (λ _. Step) [
          | Some handler ↦ release_taken t handler
          | None ↦ reporting t (event.Miss t.unit fire.handler ∷ [])
        ])
    by fire None = record { reported = omega arith; more = omega (arith, h) }
    by fire (Some handler) = short_taken m t handler h

    at : (o : Option Fire) →
        Short (m + 1) 1 (elim o as (λ _. Step) [ None ↦ silently t | Some fire ↦ fired code t fire ])
    at None = record { reported = omega arith; more = omega (arith, h) }
    at (Some fire) = by fire (fired_handler code t fire.handler)

few_due : (s : State) → length s.registry ≤ 64 → length (due_handlers s) ≤ 64
unfolding due_handlers handlers_due
few_due s few = go (takes_releases s) (fewer_where (is_due s.origin s.unit) 1 s.registry)
  where
    go : (b : Bool) → length (numbers_where (is_due s.origin s.unit) 1 s.registry) ≤ length s.registry →
        length (if b then numbers_where (is_due s.origin s.unit) 1 s.registry else []) ≤ 64
    go true l = omega (arith, l, few)
    go false l = omega arith

arrivals_short : (code : Code) (plan : Plan) (n : ℕ) (s : State) → length s.releases ≤ n → length s.registry ≤ 64 →
    length plan.fires ≤ 10000 → Short (n + 10064) 10064 (arrivals code plan s)
unfolding arrivals fires_due
arrivals_short code plan n s h few fires =
    let due : List ℕ = due_handlers s in
    let come : List ℕ = fires_due (executes_since s) s.unit plan.fires in
    let first : Short (n + length due) (length due) (for_each release_taken due s) =
    each_short release_taken (λ m t x k. short_taken m t x k) due n s h in
    let rest : Short (n + length due + length come) (length come)
    (for_each (fired_at code plan.fires) come (for_each release_taken due s).state) =
    each_short (fired_at code plan.fires) (fire_short code plan.fires) come (n + length due)
    (for_each release_taken due s).state first.more in
    let both : Short (n + length due + length come) (length due + length come)
    (then_do (for_each release_taken due s) (for_each (fired_at code plan.fires) come)) =
    then_short (for_each release_taken due s) (for_each (fired_at code plan.fires) come) (n + length due) (length due)
    (n + length due + length come) (length come) first rest in
    let a : length due ≤ 64 = few_due s few in
    let b : length come ≤ length plan.fires = fewer_where (comes_in (executes_since s) s.unit) 0 plan.fires in
    record {
      reported = (let l = both.reported in omega (arith, l, a, b, fires));
      more = (let m = both.more in omega (arith, m, a, b, fires));
    }

-- ---- units

module _ (code : Code) (plan : Plan) (fires : length plan.fires ≤ 10000)
    (few : (s : State) → Reached code plan by_priority Between s → length s.registry ≤ 64) where
  unit_short : (n : ℕ) (s : State) (u : Step) → length s.releases ≤ n → length s.registry ≤ 64 →
      one_unit code plan by_priority s ≡ Some u → Short (n + 10065) (n + 20133) u
  unit_short n s u h rows e =
      let parts : UnitParts code plan s u = unit_parts code plan s u e in
      let a : Short (n + 10064) 10064 (arrivals code plan s) = arrivals_short code plan n s h rows fires in
      let b : Short (n + 10064 + 1) (n + 10064 + 3) parts.op =
      (acts_short (n + 10064) code plan.readings (arrivals code plan s).state a.more).is parts.op parts.is_op in
      let c : Short (n + 10064 + 1) 2 parts.last =
      (phase_short (n + 10064 + 1) code parts.op.state b.more).is parts.last parts.is_last in
      let d = length-append ((arrivals code plan s).events ++ parts.op.events) parts.last.events in
      let f = length-append (arrivals code plan s).events parts.op.events in
      subst (λ (x : Step). Short (n + 10065) (n + 20133) x) (sym parts.is)
      (record {
        reported = (let x = a.reported in let y = b.reported in let z = c.reported in omega (arith, d, f, x, y, z));
        more = (let x = c.more in omega (arith, x));
      })

  record RunShort (k : ℕ) (x : RunSoFar) : Type 0 where
    reported : length x.events ≤ 100650020133 * k
    more : length x.state.releases ≤ 10065 * k

  one_more : (k : ℕ) (x : RunSoFar) (u : Step) → k ≤ 10000000 → RunShort k x →
      Short (10065 * k + 10065) (10065 * k + 20133) u →
      (length (x.events ++ u.events) ≤ 100650020133 * suc k) × (length u.state.releases ≤ 10065 * suc k)
  one_more k x u l h s =
      let e = length-append x.events u.events in
      let a = h.reported in
      let b = s.reported in
      let c = s.more in (omega (arith, e, a, b, l), omega (arith, c))

  run_short : (k : ℕ) → k ≤ 10000000 → RunShort k (run code plan by_priority k)
  unfolding run one_more_unit continued empty_state
  run_short zero l = record { reported = omega arith; more = omega arith }
  run_short (suc k) l = by (has_ended so_far) refl (run_short k (omega (arith, l)))
    where
      so_far : RunSoFar
      so_far = run code plan by_priority k

      same : RunShort k so_far → RunShort (suc k) so_far
      same h = record { reported = (let a = h.reported in omega (arith, a)); more = (let a = h.more in omega (arith, a)) }

      next : (o : Option Step) → one_unit code plan by_priority so_far.state ≡ o → RunShort k so_far →
          RunShort (suc k) (continued so_far o)
      next None e h = record { reported = (same h).reported; more = (same h).more }
      next (Some u) e h =
          let p = one_more k so_far u (omega (arith, l)) h
          (unit_short (10065 * k) so_far.state u h.more (few so_far.state (reached_run code plan by_priority k)) e) in
          record { reported = p.0; more = p.1 }

      by : (b : Bool) → has_ended so_far ≡ b → RunShort k so_far →
          RunShort (suc k) (if b then so_far else continued so_far (one_unit code plan by_priority so_far.state))
      by true e h = same h
      by false e h = next (one_unit code plan by_priority so_far.state) refl h

  -- a trace has fewer than 2^64 lines
  pub trace_short : plan.units ≤ 10000000 → length (trace code plan plan.units) < 2 ^ 64
  unfolding trace
  trace_short l = go (has_ended (run code plan by_priority plan.units)) (run_short plan.units l).reported
    where
      es : List Event
      es = (run code plan by_priority plan.units).events

      go : (b : Bool) → length es ≤ 100650020133 * plan.units →
          length (es ++ (if b then [] else event.Stopped plan.units ∷ [])) < 2 ^ 64
      go true h = let e = length-append es [] in omega (arith, e, h, l)
      go false h = let e = length-append es (event.Stopped plan.units ∷ []) in omega (arith, e, h, l)
