use Rattle.std.proofs.Common.{sym, arith}
use Rattle.response_bounds.proofs.Levels.{first_bound, first_none}
use Rattle.response_bounds.proofs.sweep.response_by.Goals as goal

pub returns-then-units-gap_of : goal.returns-then-units-gap_of
returns-then-units-gap_of c =
    sym (first_bound c.args.rows.now c.args.row c.args.units c.gap_of.result c.requires.row c.gap_of.ensures.gap
    c.requires.first (omega (arith, c.if-units-gap_of.true)))

pub returns-else-units-gap_of : goal.returns-else-units-gap_of
returns-else-units-gap_of c =
    sym (first_none c.args.rows.now c.args.row c.args.units c.gap_of.result c.requires.row c.gap_of.ensures.gap
    c.requires.first (omega (arith, c.if-units-gap_of.false)))
