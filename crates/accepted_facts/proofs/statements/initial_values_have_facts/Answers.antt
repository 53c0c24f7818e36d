use Rattle.accepted_laws.proofs.ClassSorts.{well_sorted}
use Rattle.scj_rules.specs.Contexts.{declarations_of}
use Rattle.accepted_facts.proofs.ReturnFacts.{initial_value_facts}
use Rattle.accepted_facts.proofs.statements.initial_values_have_facts.Goals as goal

pub returns : goal.returns
unfolding declarations_of
returns c = λ forest a member class id value declared_type position name_position name flags there inside. initial_value_facts forest a.is_accepted a.whole (well_sorted forest a.is_read) member class id value declared_type position name_position name flags there inside
