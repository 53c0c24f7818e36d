use Rattle.std.proofs.Common.{◌≡◌, ◌==◌, ℕ, length}
use Rattle.std.specs.HashMap.{get}
use Rattle.runs_in_check.specs.Guards.{ifs_on, left_by}
use Rattle.runs_in_check.proofs.guards.undo.Given as goal

-- the guards on the rest of the way are still to be undone
abbrev pub invariant-loop-left : goal.invariant-loop-left
invariant-loop-left l = (number : ℕ)
    → left_by l.x (ifs_on l.program.nodes l.left l.part) number (get ◌==◌ l.rows number)
    ≡ left_by l.x (ifs_on l.program.nodes (length l.program.nodes) l.fn.id) number (get ◌==◌ l.fn.rows number)

abbrev pub decreases-loop-left : goal.decreases-loop-left
decreases-loop-left l = l.left
