use Rattle.std.proofs.Common.{rules}
use Rattle.scj_base.specs.Vocabulary.{signs}
use Rattle.scj_base.proofs.ReadThrough.{at_place}
use Rattle.scj_base.proofs.vocabulary.sign_text.Goals as goal

pub returns : goal.returns
unfolding signs
returns c = search (rules, at_place)
