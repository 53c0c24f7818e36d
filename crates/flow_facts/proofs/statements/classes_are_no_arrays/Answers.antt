use Rattle.accepted_laws.proofs.ClassSorts.{well_sorted}
use Rattle.scj_model.specs.Code.{code_of}
use Rattle.flow_facts.proofs.HeldFields.{class_no_array}
use Rattle.flow_facts.proofs.statements.classes_are_no_arrays.Goals as goal

pub returns : goal.returns
unfolding code_of
returns c = λ forest a class l.
    class_no_array forest a.is_accepted a.whole (well_sorted forest a.is_read) class l
