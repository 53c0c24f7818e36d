-- A run under way comes to states in which the machine's laws hold.
use Rattle.std.specs.Prelude.{Bool, false, true, Some, ◌||◌}
use Rattle.std.proofs.Common.{◌≡◌, ◌∙◌, ◌≤◌, refl, ap, subst, sym, arith}
use Rattle.scj_model.specs.Arrivals.{arrivals}
use Rattle.scj_model.specs.Choice.{by_priority}
use Rattle.scj_model.specs.Code.{code_of}
use Rattle.scj_model.specs.Plan.{Plan}
use Rattle.scj_model.specs.Reached.{Arrived, Between, Reached, on_arrival, on_operation}
use Rattle.scj_model.specs.Run.{acts}
use Rattle.scj_model.specs.State.{State, is_over}
use Rattle.scj_model.specs.Steps.{Step}
use Rattle.scj_model.proofs.Reaching.{reached_run}
use Rattle.scj_model.proofs.Units.{arrivals_keep_unit}
use Rattle.op_list.specs.Listed.{Listing}
use Rattle.run_state.specs.declared.states.RunState.{RunState}
use Rattle.run_state.specs.Seen.{state_of}
use Rattle.unit_steps.specs.Alike.{IsAlike}
use Rattle.unit_steps.specs.Standing.{ActsStand, PhaseStands}
use Rattle.plain_machine.specs.Lawful.{IsLawful}
use Rattle.plain_machine.specs.UnderWay.{IsBetween, run_at}
use Rattle.plain_machine.specs.declared.under_way.UnderWay.{UnderWay}

or_left : (a b : Bool) → (a || b) ≡ false → a ≡ false
or_left false b e = refl
or_left true b e = e

module _ (code : Listing) (plan : Plan) (at : UnderWay) (between : IsBetween code plan at)
    (lawful : IsLawful code plan) where
  abbrev before : State
  before = state_of code at.state

  reached_before : Reached (code_of code.program) plan by_priority Between before
  reached_before =
      subst (λ (s : State). Reached (code_of code.program) plan by_priority Between s) between.state
      (reached_run (code_of code.program) plan by_priority at.state.unit)

  goes_on_there : is_over before.phase ≡ false
  goes_on_there =
      ap (λ (s : State). is_over s.phase) (sym between.state)
      ∙ or_left (is_over (run_at code.program plan at.state.unit).state.phase) (run_at code.program plan at.state.unit).is_stuck
      between.goes_on

  pub reached_there : Reached (code_of code.program) plan by_priority Arrived (arrivals (code_of code.program) plan before).state
  reached_there = on_arrival before reached_before goes_on_there

  pub arrived_stands : (st : RunState) → state_of code st ≡ (arrivals (code_of code.program) plan before).state →
      ActsStand code plan.readings st
  unfolding state_of
  arrived_stands st e =
      let same : st.unit ≡ at.state.unit = ap (λ (s : State). s.unit) e ∙ arrivals_keep_unit (code_of code.program) plan before in
      let within : at.state.unit ≤ plan.units = between.within in
      lawful.arrived st (subst (λ (s : State). Reached (code_of code.program) plan by_priority Arrived s) (sym e) reached_there)
      (omega (arith, same, within))

  pub operated_stands : (st : RunState) (step : Step) →
      acts (code_of code.program) plan.readings by_priority (arrivals (code_of code.program) plan before).state ≡ Some step →
      IsAlike step.state (state_of code st) → PhaseStands st
  operated_stands st step e alike =
      lawful.operated step.state st (on_operation (arrivals (code_of code.program) plan before).state step reached_there e) alike
