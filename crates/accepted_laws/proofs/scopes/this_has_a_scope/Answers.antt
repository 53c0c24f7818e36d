use Rattle.accepted_laws.proofs.DeclarationScopes.{this_has_scope}
use Rattle.accepted_laws.proofs.ClassSorts.{well_sorted}
use Rattle.accepted_laws.proofs.scopes.this_has_a_scope.Goals as goal

pub returns : goal.returns
returns c = λ forest a class. this_has_scope forest a.is_accepted a.whole (well_sorted forest a.is_read) class
