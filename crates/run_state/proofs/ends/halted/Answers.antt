use Rattle.std.proofs.Common.{refl}
use Rattle.scj_model.specs.Steps.{fault_in}
use Rattle.run_state.specs.Seen.{state_of}
use Rattle.run_state.proofs.ends.halted.Goals as goal

pub returns : goal.returns
unfolding fault_in state_of
returns c = λ code activity. record {
  state = refl;
  reported = c.in_ok-report_two.ensures;
}
