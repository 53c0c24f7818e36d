use Rattle.accepted_laws.proofs.DeclarationScopes.{all_known}
use Rattle.accepted_laws.proofs.ClassSorts.{well_sorted}
use Rattle.accepted_laws.proofs.scopes.class_scopes_are_known.Goals as goal

pub returns : goal.returns
returns c = λ forest a class. all_known forest a.is_accepted a.whole (well_sorted forest a.is_read) class
