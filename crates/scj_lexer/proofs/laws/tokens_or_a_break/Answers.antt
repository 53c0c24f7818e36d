use Rattle.scj_lexer.proofs.Whole.{one_of_two}
use Rattle.scj_lexer.proofs.laws.tokens_or_a_break.Goals as goal

pub returns : goal.returns
returns c = one_of_two
