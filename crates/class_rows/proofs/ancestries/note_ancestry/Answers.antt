use Rattle.std.proofs.Common.{arith}
use Rattle.class_rows.proofs.WalkLemmas.{noted}
use Rattle.class_rows.proofs.ancestries.note_ancestry.Goals as goal

pub returns-then-at-len : goal.returns-then-at-len
returns-then-at-len c = λ rows is.
    noted rows _ _ _ (omega (arith, c.if-at-len.true, c.len.ensures)) (rw (← c.number-at.ensures) at is)
