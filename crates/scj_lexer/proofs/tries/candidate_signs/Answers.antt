use Rattle.std.proofs.Common.{◌-◌, ◌<◌, arith, rules}
use Rattle.scj_lexer.specs.Tries.{signs_from}
use Rattle.scj_lexer.proofs.Searches.{read_through}
use Rattle.scj_lexer.proofs.tries.candidate_signs.Goals as goal

pub returns : goal.returns
unfolding signs_from
returns c = let h : c.args.byte - 33 < 94 = omega arith in search (rules, read_through)
