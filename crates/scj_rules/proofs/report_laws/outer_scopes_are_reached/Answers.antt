use Rattle.scj_rules.proofs.WithinLemmas.{outer-reaches}
use Rattle.scj_rules.proofs.report_laws.outer_scopes_are_reached.Goals as goal

pub returns : goal.returns
returns c = λ forest a b l. outer-reaches forest a b l
