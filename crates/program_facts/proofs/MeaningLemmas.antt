-- What no rows tell.
use Rattle.std.proofs.Common.{[]}
use Rattle.scj_tree.specs.Forest.{Forest}
use Rattle.program_facts.specs.Meanings.{IsMeaningAt, AreMeanings}

pub no_meanings : (forest : Forest) → AreMeanings forest []
unfolding IsMeaningAt
no_meanings forest id = tt
