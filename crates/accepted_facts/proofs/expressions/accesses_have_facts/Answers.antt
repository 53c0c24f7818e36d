use Rattle.accepted_laws.proofs.ClassSorts.{well_sorted}
use Rattle.accepted_facts.proofs.AccessFacts.{access_facts}
use Rattle.scj_rules.specs.Contexts.{declarations_of}
use Rattle.accepted_facts.proofs.expressions.accesses_have_facts.Goals as goal

pub returns : goal.returns
unfolding declarations_of
returns c = λ forest a member class id object position name k there inside j. access_facts forest a.is_accepted a.whole (well_sorted forest a.is_read) member class id object position name k there inside j
