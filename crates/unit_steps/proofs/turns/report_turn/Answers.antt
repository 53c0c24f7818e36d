use Rattle.scj_model.specs.Run.{report_turn}
use Rattle.run_state.specs.Seen.{state_of}
use Rattle.unit_steps.proofs.turns.report_turn.Goals as goal

pub returns-in_ok-report-in-Idle : goal.returns-in_ok-report-in-Idle
unfolding report_turn state_of
returns-in_ok-report-in-Idle c = λ code. rw c.in-Idle.is (c.in_ok-report-in-Idle.ensures)

pub returns-in_ok-report_run-in-Of : goal.returns-in_ok-report_run-in-Of
unfolding report_turn state_of
returns-in_ok-report_run-in-Of c = λ code. rw c.in-Of.is (c.in_ok-report_run-in-Of.ensures code)
