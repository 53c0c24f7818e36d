use Rattle.scj_lexer.proofs.Whole.{breaks_unique}
use Rattle.scj_lexer.proofs.laws.at_most_one_break.Goals as goal

pub returns : goal.returns
returns c = breaks_unique
