use Rattle.std.proofs.Common.{length}
use Rattle.scj_rules.specs.Classes.{superclass_in, superclasses}
use Rattle.scj_rules.specs.Contexts.{declarations_of}
use Rattle.scj_rules.proofs.ChainLemmas.{chain_reaches}
use Rattle.scj_rules.proofs.WithinLemmas.{counted-stays}
use Rattle.scj_rules.proofs.report_laws.superclasses_are_reached.Goals as goal

pub returns : goal.returns
unfolding superclasses
returns c = λ forest a b l. chain_reaches (superclass_in (declarations_of forest).classes)
    (length (declarations_of forest).classes) a b (counted-stays forest) l
