use Rattle.std.proofs.Common.{arith}
use Rattle.std.proofs.lemmas.Grind.{common_steps}
use Rattle.symbol_table.proofs.LookLemmas.{standing_is}
use Rattle.symbol_table.proofs.scopes.standing.Goals as goal

pub returns-in-Some-member_like : goal.returns-in-Some-member_like
returns-in-Some-member_like c = λ a.
    standing_is _ _ _ _ _ _ c.args.is_entered (c.in-Some.ensures.nearest _ _ a)
    (grind (arith, common_steps, c.in-Some-member_like.ensures c.args.name.now c.first_declared.ensures))

pub returns-in-None : goal.returns-in-None
returns-in-None c = λ a.
    standing_is _ _ _ _ _ _ c.args.is_entered (c.in-Some.ensures.nearest _ _ a)
    (grind (arith, common_steps, c.in-None.ensures c.args.name.now c.first_declared.ensures))
