-- What a machine counts on in the states that its run comes to.
use Rattle.std.specs.Prelude.{◌≤◌}
use Rattle.scj_model.specs.Choice.{by_priority}
use Rattle.scj_model.specs.Code.{code_of}
use Rattle.scj_model.specs.Plan.{Plan}
use Rattle.scj_model.specs.Reached.{Arrived, Operated, Reached}
use Rattle.scj_model.specs.State.{State}
use Rattle.op_list.specs.Listed.{Listing}
use Rattle.run_state.specs.declared.states.RunState.{RunState}
use Rattle.run_state.specs.Seen.{state_of}
use Rattle.unit_steps.specs.Alike.{IsAlike}
use Rattle.unit_steps.specs.Standing.{ActsStand, PhaseStands}

pub record IsLawful (code : Listing) (plan : Plan) : Type 0 where
  -- before the operation of a unit
  pub arrived : (st : RunState) → Reached (code_of code.program) plan by_priority Arrived (state_of code st) →
      st.unit ≤ plan.units → ActsStand code plan.readings st
  -- and before what follows it, up to the frames of a sequencer whose run is over
  pub operated : (s : State) (st : RunState) → Reached (code_of code.program) plan by_priority Operated s →
      IsAlike s (state_of code st) → PhaseStands st
