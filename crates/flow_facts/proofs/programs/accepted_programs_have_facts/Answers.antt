use Rattle.flow_facts.proofs.AllFacts.{all_facts}
use Rattle.flow_facts.proofs.programs.accepted_programs_have_facts.Goals as goal

pub returns : goal.returns
returns c = λ forest a. all_facts forest a
