use Rattle.accepted_laws.proofs.DeclarationScopes.{declaration_has_scope}
use Rattle.accepted_laws.proofs.ClassSorts.{well_sorted}
use Rattle.accepted_laws.proofs.scopes.declarations_have_scopes.Goals as goal

pub returns : goal.returns
returns c = λ forest a id node t there e k. declaration_has_scope forest a.is_accepted a.whole (well_sorted forest a.is_read) id node t there e k
