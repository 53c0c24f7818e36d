use Rattle.std.proofs.Common.{arith}
use Rattle.response_bounds.proofs.AddedCosts.{stride}
use Rattle.response_bounds.proofs.sweep.add_row.Goals as goal

pub loop-index-preserved : goal.loop-index-preserved
loop-index-preserved c =
    stride c.args.added.now.items c.loop-index.added.items c.args.row.now c.args.from c.loop-index.index c.index.result.now
    c.saturating_add.result (omega (arith, c.loop-index-test.true, c.len.ensures)) c.loop-index.invariant.0
    c.requires.declared.gap_from c.index.ensures (omega (arith, c.saturating_add.ensures)) c.loop-index.invariant.1
    c.loop-index.invariant.2
