use Rattle.std.proofs.Common.{◌≤◌, length}
use Rattle.runs_in_check.specs.Guards.{AreParents}
use Rattle.runs_in_check.proofs.parents.parents_of.Given as goal

-- the parents of the children of the nodes from the place on are there
abbrev pub invariant-loop-index : goal.invariant-loop-index
invariant-loop-index l = record {
  within : l.index ≤ length l.program.nodes;
  are_there : AreParents l.program.nodes l.index l.rows.items;
}

abbrev pub decreases-loop-index : goal.decreases-loop-index
decreases-loop-index l = l.index
