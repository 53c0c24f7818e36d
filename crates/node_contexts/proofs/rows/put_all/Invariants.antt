use Rattle.std.proofs.Common.{ℕ, length}
use Rattle.scj_tree.specs.declared.nodes.Node.{Node}
use Rattle.node_contexts.specs.Packed.{reported}
use Rattle.node_contexts.specs.Steps.{AreSpread}
use Rattle.node_contexts.proofs.rows.put_all.Given as goal

-- the rest is still to be written
abbrev pub invariant-loop-rest : goal.invariant-loop-rest
invariant-loop-rest l = (parent : ℕ) (node : Node)
    → AreSpread l.program parent node l.family l.initial.rest (reported l.initial.known) l.initial.rows.items
    → AreSpread l.program parent node l.family l.rest (reported l.known) l.rows.items

abbrev pub decreases-loop-rest : goal.decreases-loop-rest
decreases-loop-rest l = length l.rest
