use Rattle.accepted_laws.proofs.ClassSorts.{well_sorted}
use Rattle.accepted_facts.proofs.JudgedValues.{judged}
use Rattle.scj_rules.specs.Contexts.{declarations_of}
use Rattle.accepted_facts.proofs.expressions.expressions_are_judged.Goals as goal

pub returns : goal.returns
unfolding declarations_of
returns c = λ forest a member class id node there inside v k. judged forest a.is_accepted a.whole (well_sorted forest a.is_read) member class id node there inside v k
