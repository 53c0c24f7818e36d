use Rattle.scj_model.specs.Code.{code_of}
use Rattle.flow_facts.proofs.ClassFacts.{of_assigned_type}
use Rattle.flow_facts.proofs.statements.objects_are_of_assigned_types.Goals as goal

pub returns : goal.returns
unfolding code_of
returns c = λ forest a class t u h k. of_assigned_type forest a.is_accepted class t u h k
