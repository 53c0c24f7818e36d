use Rattle.accepted_laws.proofs.ClassSorts.{well_sorted}
use Rattle.scj_rules.specs.Contexts.{declarations_of}
use Rattle.accepted_facts.proofs.StatementFacts.{for_condition}
use Rattle.accepted_facts.proofs.statements.conditions_of_for_have_facts.Goals as goal

pub returns : goal.returns
unfolding declarations_of
returns c = λ forest a member class id first condition step body position there inside. for_condition forest a.is_accepted a.whole (well_sorted forest a.is_read) member class id first condition step body position there inside
