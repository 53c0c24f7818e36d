use Rattle.scj_model.specs.Code.{code_of}
use Rattle.flow_facts.proofs.ClassFacts.{concrete_of_itself}
use Rattle.flow_facts.proofs.statements.concrete_classes_are_of_their_types.Goals as goal

pub returns : goal.returns
unfolding code_of
returns c = λ forest a class h. concrete_of_itself forest a.is_accepted class h
