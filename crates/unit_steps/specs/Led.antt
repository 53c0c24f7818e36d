-- What the code does in a part of a unit: the definitions' step, up to the frames of a sequencer whose run is over.
use Rattle.std.specs.Prelude.{◌≡◌, Bool, List, ◌++◌, Option, Some, is_some}
use Rattle.scj_model.specs.declared.events.Event.{Event}
use Rattle.op_list.specs.Listed.{Listing}
use Rattle.scj_model.specs.Steps.{Step}
use Rattle.run_state.specs.declared.states.RunState.{RunState}
use Rattle.run_state.specs.Seen.{state_of}
use Rattle.unit_steps.specs.Alike.{IsAlike}

-- the step led to a state like this one, and its events were told
pub record IsLed (code : Listing) (step : Step) (st : RunState) (before after : List Event) : Type 0 where
  pub alike : IsAlike step.state (state_of code st)
  pub reported : after ≡ before ++ step.events

-- a step that may have no result: the code answers whether it has one, and if so it was led there
pub record IsLedTry (code : Listing) (step : Option Step) (answer : Bool) (st : RunState) (before after : List Event) : Type 0 where
  pub went : answer ≡ is_some step
  pub leads : (done : Step) → step ≡ Some done → IsLed code done st before after
