use Rattle.std.proofs.Common.{[]}
use Rattle.scj_show.proofs.Lexing.{lexes, reads}
use Rattle.scj_show.proofs.laws.canonical_text_lexes.Goals as goal

pub returns-clause-tokens : goal.returns-clause-tokens
returns-clause-tokens c = λ file ss are. lexes file [] ss are

pub returns-clause-lexemes : goal.returns-clause-lexemes
returns-clause-lexemes c = λ file ss. reads file [] ss
