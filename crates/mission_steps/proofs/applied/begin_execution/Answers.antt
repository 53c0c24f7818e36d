use Rattle.std.proofs.Common.{ℕ, ap, None}
use Rattle.scj_model.specs.State.{State}
use Rattle.scj_model.specs.Sequencer.{seq_applied}
use Rattle.run_state.specs.Seen.{state_of}
use Rattle.mission_steps.proofs.applied.begin_execution.Goals as goal

pub returns : goal.returns
unfolding seq_applied state_of
returns c = λ code. record {
  state =
      ap (λ (n : ℕ). (let s : State = record (state_of code c.args.state.now) { origin = n; last_choice = None } in s))
      c.in_ok-state.ensures;
  reported = c.in_ok-report.ensures;
}
