use Rattle.std.proofs.Common.{◌≡◌, length}
use Rattle.parser_machine.specs.Closing.{closed}
use Rattle.parser_machine.specs.States.{level_of}
use Rattle.parser_nodes.specs.Reported.{seen}
use Rattle.expression_steps.proofs.closing.closed.Given as goal

abbrev pub invariant-loop-entry : goal.invariant-loop-entry
invariant-loop-entry l = record {
  same : closed l.fn.id l.fn.nodes.all l.fn.stack (seen l.view) ≡ closed l.id l.nodes.all l.stack (seen l.view);
  kept : l.nodes.kept ≡ l.fn.nodes.kept;
  level : l.level ≡ level_of (seen l.view);
}

abbrev pub decreases-loop-entry : goal.decreases-loop-entry
decreases-loop-entry l = length l.stack
