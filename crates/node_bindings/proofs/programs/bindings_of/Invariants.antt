use Rattle.std.proofs.Common.{◌≡◌, None}
use Rattle.scj_tree.specs.Recursion.{lookup, listed}
use Rattle.scj_rules.specs.Contexts.{declarations_of}
use Rattle.scj_rules.specs.Bindings.{binding_at}
use Rattle.node_bindings.proofs.programs.bindings_of.Given as goal

-- what the nodes so far stand for is told
abbrev pub invariant-loop-number : goal.invariant-loop-number
invariant-loop-number l = l.bindings ≡ listed (binding_at (declarations_of l.facts) (lookup None l.types)) l.number
