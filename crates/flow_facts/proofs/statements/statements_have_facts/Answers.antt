use Rattle.accepted_laws.proofs.ClassSorts.{well_sorted}
use Rattle.scj_model.specs.Code.{code_of}
use Rattle.flow_facts.proofs.StatementKinds.{statement_fact}
use Rattle.flow_facts.proofs.statements.statements_have_facts.Goals as goal

pub returns : goal.returns
unfolding code_of
returns c = λ forest a b class sig id node body is there. statement_fact forest a.is_accepted a.whole
    (well_sorted forest a.is_read) a.is_read b class sig id node body is there
