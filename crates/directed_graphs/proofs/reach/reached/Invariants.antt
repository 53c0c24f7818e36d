use Rattle.directed_graphs.specs.Graphs.{rows_of}
use Rattle.directed_graphs.proofs.Searching.{IsSearch}
use Rattle.directed_graphs.proofs.reach.reached.Given as goal

abbrev pub invariant-loop-index : goal.invariant-loop-index
invariant-loop-index l = IsSearch (rows_of l.rows) l.from l.marks.items l.found.items l.index
