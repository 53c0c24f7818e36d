use Rattle.accepted_laws.proofs.DeclarationScopes.{current_has_scope}
use Rattle.accepted_laws.proofs.ClassSorts.{well_sorted}
use Rattle.accepted_laws.proofs.scopes.members_have_a_current_scope.Goals as goal

pub returns : goal.returns
returns c = λ forest a class member k. current_has_scope forest a.is_accepted a.whole (well_sorted forest a.is_read) class member k
