use Rattle.accepted_laws.proofs.ClassSorts.{are_intervals}
use Rattle.accepted_laws.proofs.nodes.trees_are_intervals.Goals as goal

pub returns : goal.returns
returns c = are_intervals
