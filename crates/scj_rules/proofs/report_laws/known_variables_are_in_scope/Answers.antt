use Rattle.scj_rules.proofs.InScopeLemmas.{known-in-scope}
use Rattle.scj_rules.proofs.report_laws.known_variables_are_in_scope.Goals as goal

pub returns : goal.returns
returns c = known-in-scope
