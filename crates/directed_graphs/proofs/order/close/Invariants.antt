use Rattle.directed_graphs.specs.Walks.{walk_of}
use Rattle.directed_graphs.proofs.Emptying.{IsEmptying}
use Rattle.directed_graphs.proofs.order.close.Given as goal

abbrev pub invariant-loop-index : goal.invariant-loop-index
invariant-loop-index l = IsEmptying l.group (walk_of l.initial.search) (walk_of l.search) l.index
