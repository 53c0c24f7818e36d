use Rattle.accepted_laws.proofs.MemberVariables.{known_is_variable}
use Rattle.accepted_laws.proofs.ClassSorts.{well_sorted}
use Rattle.accepted_laws.proofs.nodes.variables_in_scope_have_numbers.Goals as goal

pub returns : goal.returns
returns c = λ forest whole texts id member v m h. known_is_variable forest whole (well_sorted forest texts) id member v m h
