use Rattle.bounded_runs.proofs.EmptyHandler.{one_release_meets_its_bound}
use Rattle.bounded_runs.proofs.laws.a_run_meets_its_bound.Goals as goal

pub returns : goal.returns
returns c = one_release_meets_its_bound
