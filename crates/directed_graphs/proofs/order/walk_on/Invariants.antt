use Rattle.directed_graphs.specs.Graphs.{rows_of}
use Rattle.directed_graphs.specs.Walks.{walk_of, steps_left, IsWalk, SeesMore}
use Rattle.directed_graphs.proofs.order.walk_on.Given as goal

abbrev pub invariant-loop-search : goal.invariant-loop-search
invariant-loop-search l = record {
  walk : IsWalk (rows_of l.rows) (walk_of l.search);
  sees : SeesMore (walk_of l.initial.search) (walk_of l.search);
}

abbrev pub decreases-loop-search : goal.decreases-loop-search
decreases-loop-search l = steps_left (rows_of l.rows) (walk_of l.search)
