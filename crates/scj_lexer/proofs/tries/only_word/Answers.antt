use Rattle.scj_lexer.specs.Tries.{only_word_of}
use Rattle.scj_lexer.proofs.Searches.{only_word_in_range}
use Rattle.scj_lexer.proofs.tries.only_word.Goals as goal

pub returns-clause-in_range : goal.returns-clause-in_range
unfolding only_word_of
returns-clause-in_range c = only_word_in_range c.args.first c.args.second c.args.len
