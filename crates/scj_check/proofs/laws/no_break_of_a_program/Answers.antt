use Rattle.scj_check.proofs.VerdictLaws.{no_break}
use Rattle.scj_check.proofs.laws.no_break_of_a_program.Goals as goal

pub returns : goal.returns
returns c = λ texts program found a b. no_break a b
