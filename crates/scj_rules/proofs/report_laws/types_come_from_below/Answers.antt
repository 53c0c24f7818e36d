use Rattle.std.proofs.Common.{None, length}
use Rattle.scj_tree.proofs.RecursionLemmas.{bottom_up-is}
use Rattle.scj_rules.specs.TypeRules.{types_in, type_of_next}
use Rattle.scj_rules.proofs.report_laws.types_come_from_below.Goals as goal

pub returns : goal.returns
unfolding types_in
returns c = λ p id h. bottom_up-is None (type_of_next p) (length p.nodes) id h
