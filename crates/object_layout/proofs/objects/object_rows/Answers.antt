use Rattle.scj_rules.specs.Contexts.{declarations_of}
use Rattle.object_layout.proofs.ObjectLemmas.{rows_more}
use Rattle.object_layout.proofs.objects.object_rows.Goals as goal

pub loop-number-preserved : goal.loop-number-preserved
loop-number-preserved c =
    rw c.in_ok-push.ensures.items
    (rows_more (declarations_of c.args.classes.now) c.loop-number.number c.loop-number.rows.items c.in_ok-row.row
    c.loop-number.invariant (rw c.at.ensures at c.in_ok-row.ensures))
