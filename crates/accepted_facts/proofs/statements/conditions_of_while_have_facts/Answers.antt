use Rattle.accepted_laws.proofs.ClassSorts.{well_sorted}
use Rattle.scj_rules.specs.Contexts.{declarations_of}
use Rattle.accepted_facts.proofs.StatementFacts.{while_condition}
use Rattle.accepted_facts.proofs.statements.conditions_of_while_have_facts.Goals as goal

pub returns : goal.returns
unfolding declarations_of
returns c = λ forest a member class id condition body position there inside. while_condition forest a.is_accepted a.whole (well_sorted forest a.is_read) member class id condition body position there inside
