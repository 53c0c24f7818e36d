use Rattle.accepted_laws.proofs.ClassSorts.{well_sorted}
use Rattle.scj_rules.specs.Contexts.{declarations_of}
use Rattle.accepted_facts.proofs.NewFacts.{new_facts}
use Rattle.accepted_facts.proofs.calls.new_objects_have_facts.Goals as goal

pub returns : goal.returns
unfolding declarations_of
returns c = λ forest a member class id position name_position name arguments k there inside part j. new_facts forest a.is_accepted a.whole (well_sorted forest a.is_read) member class id position name_position name arguments k there inside part j
