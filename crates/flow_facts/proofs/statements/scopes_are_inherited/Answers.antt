use Rattle.accepted_laws.proofs.ClassSorts.{well_sorted}
use Rattle.scj_model.specs.Code.{code_of}
use Rattle.flow_facts.proofs.ClassFacts.{inherits_scope}
use Rattle.flow_facts.proofs.statements.scopes_are_inherited.Goals as goal

pub returns : goal.returns
unfolding code_of
returns c = λ forest a x above n h k. inherits_scope forest a.is_accepted a.whole (well_sorted forest a.is_read) x above
    n h k
