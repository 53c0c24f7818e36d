use Rattle.std.proofs.Common.{◌≡◌, length}
use Rattle.parser_machine.specs.States.{at}
use Rattle.parser_machine.specs.declared.modes.Mode.TheVariants.{FileStart}
use Rattle.scj_tree.specs.Lexemes.{lexemes_of}
use Rattle.parser_steps.specs.Outcomes.{way, AllFit}
use Rattle.parser_steps.proofs.runs.read.Given as goal

abbrev pub invariant-loop-rest : goal.invariant-loop-rest
invariant-loop-rest l = record {
  same : way (at FileStart l.fn.stack l.fn.nodes.all) (lexemes_of l.bytes l.fn.tokens) ≡ way
      (at l.mode l.stack l.nodes.all) (lexemes_of l.bytes l.rest);
  kept : l.nodes.kept ≡ l.fn.nodes.kept;
  fit : AllFit l.bytes l.rest;
}

abbrev pub decreases-loop-rest : goal.decreases-loop-rest
decreases-loop-rest l = length l.rest
