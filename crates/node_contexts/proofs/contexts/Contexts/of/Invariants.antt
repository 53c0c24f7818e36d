use Rattle.std.proofs.Common.{◌≤◌, [], length}
use Rattle.node_contexts.specs.Steps.{AreReported}
use Rattle.node_contexts.proofs.contexts.Contexts.of.Given as goal

-- the contexts of the children of the nodes from the place on are there
abbrev pub invariant-loop-index : goal.invariant-loop-index
invariant-loop-index l =
    record { within : l.index ≤ length l.program.nodes; reported : AreReported l.program l.index [] l.rows.items }

abbrev pub decreases-loop-index : goal.decreases-loop-index
decreases-loop-index l = l.index
