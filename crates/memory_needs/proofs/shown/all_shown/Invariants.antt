use Rattle.std.proofs.Common.{◌≡◌}
use Rattle.scj_tree.specs.Recursion.{listed}
use Rattle.scj_model.specs.Code.{code_of}
use Rattle.memory_needs.specs.Shown.{shown_at}
use Rattle.memory_needs.proofs.shown.all_shown.Given as goal

abbrev pub invariant-loop-number : goal.invariant-loop-number
invariant-loop-number l = l.shown.items ≡ listed (shown_at (code_of l.code) l.rows) l.number
