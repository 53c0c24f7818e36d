use Rattle.std.proofs.Common.{arith}
use Rattle.std.proofs.lemmas.Grind.{common_steps}
use Rattle.static_scopes.proofs.scoped.rows_of.Goals as goal

pub loop-id-preserved : goal.loop-id-preserved
loop-id-preserved c = λ id row.
    grind (arith, common_steps, c.loop-id.invariant id row, c.in_ok-insert.ensures.updates.0 id, c.run_at.ensures)
