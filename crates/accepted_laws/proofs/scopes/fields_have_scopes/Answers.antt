use Rattle.accepted_laws.proofs.MemberScopes.{field_has_scope}
use Rattle.accepted_laws.proofs.ClassSorts.{well_sorted}
use Rattle.accepted_laws.proofs.scopes.fields_have_scopes.Goals as goal

pub returns : goal.returns
returns c = λ forest a class id node f there is c kind. field_has_scope forest a.is_accepted a.whole (well_sorted forest a.is_read) class id node f there is c kind
