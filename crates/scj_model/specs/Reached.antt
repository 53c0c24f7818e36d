-- Reached: the states that a run comes to, looked at in three moments of a unit.
use Rattle.std.specs.Prelude.{◌≡◌, false, Some}
use Rattle.scj_model.specs.Code.{Code}
use Rattle.scj_model.specs.Plan.{Plan}
use Rattle.scj_model.specs.State.{State, is_over}
use Rattle.scj_model.specs.Steps.{Step}
use Rattle.scj_model.specs.Sequencer.{phase_after}
use Rattle.scj_model.specs.Arrivals.{arrivals}
use Rattle.scj_model.specs.Choice.{Policy}
use Rattle.scj_model.specs.Run.{acts, next_unit, empty_state}

-- between two units; after the arrivals of a unit; after its operation and before what follows it in the sequencer
pub data Moment : Type 0 where
  Between : Moment
  Arrived : Moment
  Operated : Moment

pub data Reached (code : Code) (plan : Plan) (policy : Policy) : Moment → State → Type 0 where
  at_first : Reached code plan policy Between (empty_state code plan)
  on_arrival : (s : State) → Reached code plan policy Between s → is_over s.phase ≡ false →
      Reached code plan policy Arrived (arrivals code plan s).state
  on_operation : (s : State) (step : Step) → Reached code plan policy Arrived s →
      acts code plan.readings policy s ≡ Some step → Reached code plan policy Operated step.state
  on_phase : (s : State) (step : Step) → Reached code plan policy Operated s → phase_after code s ≡ Some step →
      Reached code plan policy Between (next_unit step.state)
