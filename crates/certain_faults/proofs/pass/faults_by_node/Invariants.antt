use Rattle.std.proofs.Common.{◌≡◌}
use Rattle.scj_tree.specs.Recursion.{joined_below}
use Rattle.scj_model.specs.Code.{code_of}
use Rattle.certain_faults.specs.Places.{found_at}
use Rattle.certain_faults.proofs.pass.faults_by_node.Given as goal

abbrev pub invariant-loop-number : goal.invariant-loop-number
invariant-loop-number l = l.found.items ≡ joined_below (found_at (code_of l.checked.program)) l.number
