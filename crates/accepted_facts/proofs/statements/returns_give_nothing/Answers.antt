use Rattle.accepted_laws.proofs.ClassSorts.{well_sorted}
use Rattle.scj_rules.specs.Contexts.{declarations_of}
use Rattle.accepted_facts.proofs.ReturnFacts.{returns_nothing}
use Rattle.accepted_facts.proofs.statements.returns_give_nothing.Goals as goal

pub returns : goal.returns
unfolding declarations_of
returns c = λ forest a member class id position m there inside k. returns_nothing forest a.is_accepted a.whole (well_sorted forest a.is_read) member class id position m there inside k
