use Rattle.std.proofs.Common.{◌≡◌}
use Rattle.scj_tree.specs.Recursion.{bottom_up}
use Rattle.scj_model.specs.Code.{code_of}
use Rattle.certain_faults.specs.declared.known.Left.TheVariants.{Forgets}
use Rattle.certain_faults.specs.Known.{next_left}
use Rattle.certain_faults.proofs.pass.left_rows.Given as goal

abbrev pub invariant-loop-number : goal.invariant-loop-number
invariant-loop-number l = l.rows.items ≡ bottom_up Forgets (next_left (code_of l.checked.program)) l.number
