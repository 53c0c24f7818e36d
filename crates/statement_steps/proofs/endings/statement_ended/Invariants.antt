use Rattle.std.proofs.Common.{◌≡◌, length}
use Rattle.parser_machine.specs.Members.{statement_ended}
use Rattle.parser_nodes.specs.Reported.{seen}
use Rattle.statement_steps.proofs.endings.statement_ended.Given as goal

abbrev pub invariant-loop-entry : goal.invariant-loop-entry
invariant-loop-entry l = record {
  same : statement_ended l.fn.id l.fn.nodes.all l.fn.stack (seen l.view) ≡ statement_ended l.id l.nodes.all l.stack
      (seen l.view);
  kept : l.nodes.kept ≡ l.fn.nodes.kept;
}

abbrev pub decreases-loop-entry : goal.decreases-loop-entry
decreases-loop-entry l = length l.stack
