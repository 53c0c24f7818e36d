use Rattle.std.proofs.Common.{sym, arith}
use Rattle.object_layout.proofs.SlotLemmas.{found_nowhere}
use Rattle.object_layout.proofs.slots.index_by_search.Goals as goal

pub returns-clause-value : goal.returns-clause-value
returns-clause-value c =
    sym
    (found_nowhere c.args.fields.now c.args.field c.loop-index.index (omega (arith, c.loop-index-test.false))
    c.loop-index.invariant)
