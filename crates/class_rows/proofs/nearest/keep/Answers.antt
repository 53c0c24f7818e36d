use Rattle.std.proofs.Common.{arith}
use Rattle.std.proofs.lemmas.Grind.{common_steps}
use Rattle.std.proofs.lemmas.Map.Text.{is_eq-slice_cmp}
use Rattle.class_rows.proofs.nearest.keep.Goals as goal

pub returns-in_ok-insert-in-Some : goal.returns-in_ok-insert-in-Some
returns-in_ok-insert-in-Some c = λ other.
    grind (arith, common_steps, c.in_ok-insert-in-Some.ensures.updates.0 other, is_eq-slice_cmp c.args.name.now other)

pub returns-in-None : goal.returns-in-None
returns-in-None c = λ other.
    grind (arith, common_steps, c.remove.ensures.updates.0 other, is_eq-slice_cmp c.args.name.now other)
