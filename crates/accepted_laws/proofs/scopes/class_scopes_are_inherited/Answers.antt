use Rattle.accepted_laws.proofs.ScopesOfClasses.{scope_of_above}
use Rattle.accepted_laws.proofs.ClassSorts.{well_sorted}
use Rattle.accepted_laws.proofs.scopes.class_scopes_are_inherited.Goals as goal

pub returns : goal.returns
returns c = λ forest a class above scope l h e. scope_of_above forest a.is_accepted a.whole (well_sorted forest a.is_read) class above scope l h e
