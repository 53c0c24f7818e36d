use Rattle.std.proofs.Common.{drop}
use Rattle.scj_check.specs.Texts.{texts_of}
use Rattle.scj_check.specs.ParseOutcomes.{HasFiles, Stands}
use Rattle.scj_check.proofs.parse_outcomes.read.Given as goal

abbrev pub invariant-loop-file : goal.invariant-loop-file
invariant-loop-file l =
    HasFiles l.file l.outcome × Stands (texts_of l.sources) l.file (drop l.file (texts_of l.sources)) l.outcome
