use Rattle.std.proofs.Common.{refl, rules}
use Rattle.std.specs.Prelude.{min, slice_index_or}
use Rattle.scj_model.specs.Code.{code_of}
use Rattle.memory_needs.specs.Need.{too_much}
use Rattle.memory_needs.specs.Solved.{need_by}
use Rattle.memory_needs.proofs.Capped.{solving_none, solving_more, solving_all}
use Rattle.memory_needs.proofs.needs.needs.Goals as goal

pub loop-index-init : goal.loop-index-init
loop-index-init c =
    solving_none (code_of c.args.code.now) c.args.order.now c.in_ok-rows.rows.items (search rules)

pub loop-index-preserved : goal.loop-index-preserved
loop-index-preserved c =
    rw c.set_need.ensures
    (solving_more (code_of c.args.code.now) c.args.order.now c.loop-index.index c.loop-index.rows.items
    (min too_much (need_by (code_of c.args.code.now) c.loop-index.rows.items
    (slice_index_or c.args.order.now c.loop-index.index 0))) c.loop-index.invariant c.loop-index-test.true refl)

pub returns-clause-whole : goal.returns-clause-whole
returns-clause-whole c = c.loop-index.invariant.whole

pub returns-clause-capped : goal.returns-clause-capped
returns-clause-capped c =
    solving_all (code_of c.args.code.now) c.args.order.now c.loop-index.index c.loop-index.rows.items
    c.loop-index.invariant c.loop-index-test.false
