use Rattle.scj_check.proofs.VerdictLaws.{one_forest}
use Rattle.scj_check.proofs.laws.one_program_at_most.Goals as goal

pub returns : goal.returns
returns c = λ texts one other a b. one_forest a b
