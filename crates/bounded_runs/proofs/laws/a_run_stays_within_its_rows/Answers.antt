use Rattle.bounded_runs.proofs.ControllerRows.{controller_stays_within}
use Rattle.bounded_runs.proofs.laws.a_run_stays_within_its_rows.Goals as goal

pub returns : goal.returns
returns c = controller_stays_within
