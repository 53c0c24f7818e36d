-- A run under way is where the reference machine is.
use Rattle.std.specs.Prelude.{◌++◌, Option, Some, is_some, ◌||◌}
use Rattle.std.proofs.Common.{◌≡◌, ℕ, suc, ◌+◌, ◌<◌, Bool, true, false, List, [], refl, sym, ap, ◌∙◌, subst, arith}
use Rattle.scj_tree.specs.Forest.{Forest}
use Rattle.scj_model.specs.declared.events.Event.{Event}
use Rattle.scj_model.specs.Choice.{by_priority}
use Rattle.scj_model.specs.Code.{code_of}
use Rattle.op_list.specs.Listed.{Listing}
use Rattle.scj_model.specs.Plan.{Plan}
use Rattle.scj_model.specs.Run.{RunSoFar, empty_state, has_ended, one_unit, run}
use Rattle.scj_model.specs.Safety.{IsSafe}
use Rattle.scj_model.specs.State.{State, is_over}
use Rattle.scj_model.proofs.ListedRuns.{safe_run}
use Rattle.scj_model.specs.Steps.{Step}
use Rattle.run_plan.specs.Index.{fires_before}
use Rattle.run_plan.proofs.FireOrder.{none_before_the_first_unit}
use Rattle.run_state.specs.declared.states.RunState.{RunState}
use Rattle.run_state.specs.Seen.{state_of}
use Rattle.unit_steps.specs.Alike.{IsAlike, same, over}
use Rattle.unit_steps.specs.Led.{IsLed, IsLedTry}
use Rattle.unit_steps.proofs.RunsOn.{has_result, one_more}
use Rattle.unit_steps.proofs.UnitCounts.{unit_follows}
use Rattle.unit_steps.proofs.UnitJoins.{some_there}
use Rattle.plain_machine.specs.UnderWay.{HasSpent, IsBetween, IsNeverStuck, run_at}
use Rattle.plain_machine.specs.declared.under_way.UnderWay.{UnderWay}

-- a safe program's run is never stuck
pub safe_never_stuck : (forest : Forest) (plan : Plan) → IsSafe (code_of forest) → IsNeverStuck forest plan
safe_never_stuck forest plan safe =
    record { at = λ n. safe_run (code_of forest) plan safe.in_any_order n }

-- ---- before the first unit

pub begun_between : (code : Listing) (plan : Plan) (at : UnderWay) →
    state_of code at.state ≡ empty_state (code_of code.program) plan →
    at.state.unit ≡ 0 → at.past ≡ 0 → IsBetween code plan at
unfolding run empty_state is_over
begun_between code plan at state unit past =
    record {
      goes_on = ap (λ (n : ℕ). has_ended (run_at code.program plan n)) unit;
      state = ap (λ (n : ℕ). (run_at code.program plan n).state) unit ∙ sym state;
      past = past ∙ (sym (none_before_the_first_unit plan) ∙ ap (fires_before plan) (sym unit));
      within = omega (arith, unit);
    }

-- ---- a unit

phase_of_alike : (s t : State) → IsAlike s t → is_over t.phase ≡ is_over s.phase
phase_of_alike s t same = refl
phase_of_alike s t (over activity e none) = refl

unit_of_alike : (s t : State) → IsAlike s t → t.unit ≡ s.unit
unit_of_alike s t same = refl
unit_of_alike s t (over activity e none) = refl

-- where the run goes on they are the same
same_of_alike : (s t : State) → IsAlike s t → is_over s.phase ≡ false → s ≡ t
same_of_alike s t same e = refl
same_of_alike s t (over activity h none) e = absurd (let clash : true ≡ false = sym h ∙ e in cc (clash))

unit_of_state : (code : Listing) (st : RunState) → (state_of code st).unit ≡ st.unit
unfolding state_of
unit_of_state code st = refl

phase_of_state : (code : Listing) (st : RunState) → is_over (state_of code st).phase ≡ is_over st.phase
unfolding state_of
phase_of_state code st = refl

module _ (code : Listing) (plan : Plan) (was at : UnderWay) (between : IsBetween code plan was) where
  abbrev n : ℕ
  n = was.state.unit

  abbrev before : State
  before = state_of code was.state

  led_on : (step : Step) → one_unit (code_of code.program) plan by_priority before ≡ Some step →
      IsLed code step at.state [] at.reported.items → at.past ≡ fires_before plan at.state.unit →
      HasSpent code plan n at
  led_on step e led past =
      let there : one_unit (code_of code.program) plan by_priority (run_at code.program plan n).state ≡ Some step =
      ap (one_unit (code_of code.program) plan by_priority) between.state ∙ e in
      let next : n + 1 ≡ suc n = grind arith in
      let more : run_at code.program plan (n + 1)
      ≡ record { state = step.state; events = (run_at code.program plan n).events ++ step.events; is_stuck = false } =
      ap (run_at code.program plan) next ∙ one_more (code_of code.program) plan by_priority n between.goes_on step there in
      let follows : step.state.unit ≡ n + 1 =
      (unit_follows (code_of code.program) plan by_priority before).is step e
      ∙ ap (λ (m : ℕ). m + 1) (unit_of_state code was.state) in
      record {
        reported = ap (λ (r : RunSoFar). r.events) more
            ∙ ap (λ (events : List Event). (run_at code.program plan n).events ++ events) (sym led.reported);
        alike = subst (λ (s : State). IsAlike s (state_of code at.state)) (sym (ap (λ (r : RunSoFar). r.state) more))
            led.alike;
        not_stuck = ap (λ (r : RunSoFar). r.is_stuck) more;
        past = past;
        unit = sym (unit_of_state code at.state)
            ∙ (unit_of_alike step.state (state_of code at.state) led.alike ∙ follows);
      }

  -- the code answers that the unit has a result
  pub has_spent : (answer : Bool) (front : List Event) → answer ≡ true → front ≡ [] →
      IsLedTry code (one_unit (code_of code.program) plan by_priority before) answer at.state front at.reported.items →
      (answer ≡ true → at.past ≡ fires_before plan at.state.unit) → HasSpent code plan n at
  has_spent answer front e none k past =
      let done = some_there (one_unit (code_of code.program) plan by_priority before) (sym e ∙ k.went) in
      led_on done.0 done.1
      (subst (λ (events : List Event). IsLed code done.0 at.state events at.reported.items) none (k.leads done.0 done.1))
      (past e)

  -- it has one in a run that is never stuck
  pub goes_through : (answer : Bool) (front after : List Event) (state : RunState) → answer ≡ false →
      IsNeverStuck code.program plan →
      IsLedTry code (one_unit (code_of code.program) plan by_priority before) answer state front after → ⊥
  goes_through answer front after state e never k =
      let there = has_result (code_of code.program) plan by_priority n between.goes_on (never.at (suc n)) in
      let here : one_unit (code_of code.program) plan by_priority before ≡ Some there.0 =
      sym (ap (one_unit (code_of code.program) plan by_priority) between.state) ∙ there.1 in
      let clash : false ≡ true = sym e ∙ (k.went ∙ ap (λ (o : Option Step). is_some o) here) in
      cc (clash)

module _ (code : Listing) (plan : Plan) (n : ℕ) (at : UnderWay) (spent : HasSpent code plan n at) where
  or_false : (b : Bool) → (b || false) ≡ b
  or_false true = refl
  or_false false = refl

  -- the run after the unit has ended where it is over
  ended_by_phase : has_ended (run_at code.program plan (n + 1)) ≡ is_over at.state.phase
  ended_by_phase =
      ap (λ (b : Bool). is_over (run_at code.program plan (n + 1)).state.phase || b) spent.not_stuck
      ∙ (or_false (is_over (run_at code.program plan (n + 1)).state.phase)
      ∙ (sym (phase_of_alike (run_at code.program plan (n + 1)).state (state_of code at.state) spent.alike)
      ∙ phase_of_state code at.state))

  pub ended_after : is_over at.state.phase ≡ true → has_ended (run_at code.program plan (n + 1)) ≡ true
  ended_after e = ended_by_phase ∙ e

  pub goes_on_after : is_over at.state.phase ≡ false → has_ended (run_at code.program plan (n + 1)) ≡ false
  goes_on_after e = ended_by_phase ∙ e

  pub over_after : is_over at.state.phase ≡ true → is_over (run_at code.program plan (n + 1)).state.phase ≡ true
  over_after e =
      sym (phase_of_alike (run_at code.program plan (n + 1)).state (state_of code at.state) spent.alike)
      ∙ (phase_of_state code at.state ∙ e)

  pub between_after : is_over at.state.phase ≡ false → n < plan.units → IsBetween code plan at
  between_after e within =
      let goes_on : has_ended (run_at code.program plan (n + 1)) ≡ false = ended_by_phase ∙ e in
      let not_over : is_over (run_at code.program plan (n + 1)).state.phase ≡ false =
      sym (phase_of_alike (run_at code.program plan (n + 1)).state (state_of code at.state) spent.alike)
      ∙ (phase_of_state code at.state ∙ e) in
      record {
        goes_on = ap (λ (m : ℕ). has_ended (run_at code.program plan m)) spent.unit ∙ goes_on;
        state = ap (λ (m : ℕ). (run_at code.program plan m).state) spent.unit
            ∙ same_of_alike (run_at code.program plan (n + 1)).state (state_of code at.state) spent.alike not_over;
        past = spent.past;
        within = omega (arith, spent.unit, within);
      }
