use Rattle.std.proofs.Common.{arith}
use Rattle.std.proofs.lemmas.Grind.{common_steps}
use Rattle.std.proofs.lemmas.Map.Text.{is_eq-slice_cmp}
use Rattle.std.proofs.lemmas.Slice.Eq.{bytes_eq-Decides}
use Rattle.class_rows.proofs.nearest.put.Goals as goal

pub returns : goal.returns
returns c = λ other.
    grind (arith, common_steps, c.in_ok-insert.ensures.updates.0 other, c.remove.ensures.updates.0 other, c.remove.ensures.value, (bytes_eq-Decides c.args.name.now other).0, is_eq-slice_cmp c.args.name.now other)
