use Rattle.accepted_laws.proofs.ClassSorts.{well_sorted}
use Rattle.scj_rules.specs.Contexts.{declarations_of}
use Rattle.accepted_facts.proofs.StatementFacts.{if_condition}
use Rattle.accepted_facts.proofs.statements.conditions_of_if_have_facts.Goals as goal

pub returns : goal.returns
unfolding declarations_of
returns c = λ forest a member class id condition then_part position else_part there inside. if_condition forest a.is_accepted a.whole (well_sorted forest a.is_read) member class id condition then_part position else_part there inside
