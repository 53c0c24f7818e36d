use Rattle.accepted_laws.proofs.ClassSorts.{well_sorted}
use Rattle.scj_rules.specs.Contexts.{declarations_of}
use Rattle.accepted_facts.proofs.StatementFacts.{assign_facts}
use Rattle.accepted_facts.proofs.statements.assignments_have_facts.Goals as goal

pub returns : goal.returns
unfolding declarations_of
returns c = λ forest a member class id target value position there inside. assign_facts forest a.is_accepted a.whole (well_sorted forest a.is_read) member class id target value position there inside
