use Rattle.std.proofs.Common.{length}
use Rattle.scj_rules.specs.Classes.{superclass_in, classes_above}
use Rattle.scj_rules.specs.Contexts.{declarations_of}
use Rattle.scj_rules.proofs.ChainLemmas.{chain_comes_back}
use Rattle.scj_rules.proofs.WithinLemmas.{written-stays}
use Rattle.scj_rules.proofs.report_laws.class_cycles_are_found.Goals as goal

pub returns : goal.returns
unfolding classes_above
returns c = λ forest class. chain_comes_back (superclass_in (declarations_of forest).written)
    (length (declarations_of forest).written) class (written-stays forest)
