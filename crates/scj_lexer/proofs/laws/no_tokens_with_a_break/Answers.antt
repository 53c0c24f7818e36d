use Rattle.std.proofs.Common.{[]}
use Rattle.scj_lexer.proofs.Whole.{not_both}
use Rattle.scj_lexer.proofs.laws.no_tokens_with_a_break.Goals as goal

pub returns : goal.returns
returns c = λ file bytes tokens. not_both file [] bytes tokens
