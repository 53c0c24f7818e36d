use Rattle.std.proofs.Common.{rules}
use Rattle.scj_base.specs.Vocabulary.{words}
use Rattle.scj_base.proofs.ReadThrough.{at_place}
use Rattle.scj_base.proofs.vocabulary.word_text.Goals as goal

pub returns : goal.returns
unfolding words
returns c = search (rules, at_place)
