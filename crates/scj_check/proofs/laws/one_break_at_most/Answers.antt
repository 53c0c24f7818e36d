use Rattle.scj_check.proofs.VerdictLaws.{one_break}
use Rattle.scj_check.proofs.laws.one_break_at_most.Goals as goal

pub returns : goal.returns
returns c = λ texts one other a b. one_break a b
