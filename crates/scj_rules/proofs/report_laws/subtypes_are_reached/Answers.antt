use Rattle.scj_rules.proofs.SubtypeLemmas.{subtypes-reached}
use Rattle.scj_rules.proofs.report_laws.subtypes_are_reached.Goals as goal

pub returns : goal.returns
returns c = subtypes-reached
