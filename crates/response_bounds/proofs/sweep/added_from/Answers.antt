use Rattle.std.proofs.Common.{◌+◌, arith}
use Rattle.response_bounds.proofs.AddedCosts.{all_rows, rows_less, rows_more}
use Rattle.response_bounds.proofs.sweep.added_from.Goals.{then-rows-row, else-rows-row}
use Rattle.response_bounds.proofs.sweep.added_from.Goals as goal

pub loop-row-preserved : goal.loop-row-preserved
loop-row-preserved c = elim c.if-rows-row.branch [
  | then-rows-row w ↦
      rw w.added-is (
      rows_more c.args.rows.now c.args.level c.args.from c.loop-row.row c.args.count c.loop-row.added.items
      w.add_row.new.added.items _ c.loop-row-test.true w.if-rows-row.true w.add_row.ensures.count
      c.loop-row.invariant.0 w.add_row.ensures.at_most c.loop-row.invariant.1
      )
  | else-rows-row w ↦
      rw w.added-is (
      rows_less c.args.rows.now c.args.level c.args.from c.loop-row.row c.args.count c.loop-row.added.items
      c.loop-row.invariant.0 c.loop-row.invariant.1
      )
]

pub returns-clause-at_most : goal.returns-clause-at_most
returns-clause-at_most c =
    λ k. all_rows c.args.rows.now c.args.level (c.args.from + k) c.loop-row.row _
    (omega (arith, c.loop-row.auto.row-end, c.loop-row-test.false)) (c.loop-row.invariant.1 k)
