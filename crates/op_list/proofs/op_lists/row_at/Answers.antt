use Rattle.std.proofs.Common.{◌≡◌, sym, ap, ◌∙◌, arith, Some, slice_get}
use Rattle.op_list.specs.Rows.{rest_at, GoesBy}
use Rattle.op_list.proofs.Rests.{rest_zero, rest_is, rest_none}
use Rattle.op_list.proofs.op_lists.row_at.Goals as goal

pub returns-then-index-eq0-clause-none : goal.returns-then-index-eq0-clause-none
returns-then-index-eq0-clause-none c =
    let is : c.args.index ≡ 0 = c.if-index-eq0.true in ap (rest_at c.args.rows.now) is ∙ rest_zero c.args.rows.now

pub returns-in-None-clause-none : goal.returns-in-None-clause-none
returns-in-None-clause-none c = rest_none c.args.rows.now c.args.index (sym c.read.ensures ∙ c.in-None.is)

pub returns-in-Some-clause-some : goal.returns-in-Some-clause-some
returns-in-Some-clause-some c =
    let there : slice_get c.args.rows.now c.args.index ≡ Some c.in-Some.row = sym c.read.ensures ∙ c.in-Some.is in
    let good = c.requires.each c.args.index c.in-Some.row (omega (arith, c.if-index-eq0.false)) there in
    rest_is c.args.rows.now c.args.index c.in-Some.row there good.down

pub returns-in-Some-clause-asks : goal.returns-in-Some-clause-asks
returns-in-Some-clause-asks c =
    let there : slice_get c.args.rows.now c.args.index ≡ Some c.in-Some.row = sym c.read.ensures ∙ c.in-Some.is in
    (c.requires.each c.args.index c.in-Some.row (omega (arith, c.if-index-eq0.false)) there).asked

pub returns-in-Some-clause-goes : goal.returns-in-Some-clause-goes
unfolding GoesBy
returns-in-Some-clause-goes c =
    let there : slice_get c.args.rows.now c.args.index ≡ Some c.in-Some.row = sym c.read.ensures ∙ c.in-Some.is in
    (c.requires.each c.args.index c.in-Some.row (omega (arith, c.if-index-eq0.false)) there).branch
