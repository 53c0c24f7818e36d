use Rattle.std.proofs.Common.{[]}
use Rattle.scj_lexer.proofs.Whole.{lexes_unique}
use Rattle.scj_lexer.proofs.laws.at_most_one_list.Goals as goal

pub returns : goal.returns
returns c = λ file bytes some other. lexes_unique file [] bytes some other
