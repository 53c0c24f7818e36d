use Rattle.accepted_laws.proofs.DeclarationScopes.{runs_in_has_scope}
use Rattle.accepted_laws.proofs.ClassSorts.{well_sorted}
use Rattle.accepted_laws.proofs.scopes.methods_run_in_a_scope.Goals as goal

pub returns : goal.returns
returns c = λ forest a class id m e k. runs_in_has_scope forest a.is_accepted a.whole (well_sorted forest a.is_read) class id m e k
