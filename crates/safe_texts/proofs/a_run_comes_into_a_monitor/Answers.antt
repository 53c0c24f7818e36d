use Rattle.safe_texts.proofs.GateRun.{gate_run}
use Rattle.safe_texts.proofs.a_run_comes_into_a_monitor.Goals as goal

pub returns : goal.returns
returns c = gate_run
