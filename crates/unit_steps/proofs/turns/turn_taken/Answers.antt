use Rattle.std.proofs.Common.{refl}
use Rattle.scj_model.specs.Run.{turn_taken}
use Rattle.run_state.specs.Seen.{state_of}
use Rattle.unit_steps.proofs.turns.turn_taken.Goals as goal

pub returns-clause-step : goal.returns-clause-step
unfolding turn_taken state_of
returns-clause-step c = λ code. record {
  state = refl;
  reported = c.in_ok-report_other_turn.ensures code;
}
