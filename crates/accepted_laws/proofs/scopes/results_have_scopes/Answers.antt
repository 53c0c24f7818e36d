use Rattle.accepted_laws.proofs.MemberScopes.{result_has_scope}
use Rattle.accepted_laws.proofs.ClassSorts.{well_sorted}
use Rattle.accepted_laws.proofs.scopes.results_have_scopes.Goals as goal

pub returns : goal.returns
returns c = λ forest a class id m e c kind. result_has_scope forest a.is_accepted a.whole (well_sorted forest a.is_read) class id m e c kind
