use Rattle.directed_graphs.proofs.OrderSteps.{IsBehind}
use Rattle.directed_graphs.proofs.order.groups_upto.Given as goal

abbrev pub invariant-loop-count : goal.invariant-loop-count
invariant-loop-count l = IsBehind l.groups l.index l.count

abbrev pub decreases-loop-count : goal.decreases-loop-count
decreases-loop-count l = l.count
