use Rattle.std.proofs.Common.{None, length}
use Rattle.scj_tree.proofs.RecursionLemmas.{bottom_up-is}
use Rattle.scj_rules.specs.UseRules.{scopes_in, scope_of_next}
use Rattle.scj_rules.proofs.report_laws.scopes_come_from_below.Goals as goal

pub returns : goal.returns
unfolding scopes_in
returns c = λ p types id h. bottom_up-is None (scope_of_next p types) (length p.nodes) id h
