use Rattle.std.proofs.Common.{◌≡◌, rules}
use Rattle.scj_lexer.specs.Tries.{last_sign}
use Rattle.scj_lexer.proofs.TableChecks.{last_in_range}
use Rattle.scj_lexer.proofs.tries.sign_alone.Goals as goal

pub returns-clause-value : goal.returns-clause-value
unfolding last_sign
returns-clause-value c = rw (← c.candidate_signs.ensures) search rules

pub returns-clause-in_range : goal.returns-clause-in_range
unfolding last_sign
returns-clause-in_range c =
    let same : c.copied.result ≡ last_sign c.args.byte = rw (← c.candidate_signs.ensures) search rules in
    rw same (last_in_range c.args.byte)
