use Rattle.directed_graphs.specs.Graphs.{rows_of}
use Rattle.directed_graphs.specs.Walks.{walk_of}
use Rattle.directed_graphs.proofs.Walking.{IsVisited}
use Rattle.directed_graphs.proofs.order.in_order.Given as goal

abbrev pub invariant-loop-root : goal.invariant-loop-root
invariant-loop-root l = IsVisited (rows_of l.rows) (walk_of l.search) l.root
