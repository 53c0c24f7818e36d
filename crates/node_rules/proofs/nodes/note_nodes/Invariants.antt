use Rattle.std.proofs.Common.{◌≡◌, ◌++◌}
use Rattle.scj_tree.specs.Recursion.{joined_below}
use Rattle.scj_rules.specs.Contexts.{declarations_of}
use Rattle.node_rules.specs.Nodes.{noted_at}
use Rattle.node_rules.proofs.nodes.note_nodes.Given as goal

-- the nodes so far are looked at
abbrev pub invariant-loop-number : goal.invariant-loop-number
invariant-loop-number l =
    l.found.items ≡ l.initial.found.items ++ joined_below (noted_at (declarations_of l.classes)) l.number
