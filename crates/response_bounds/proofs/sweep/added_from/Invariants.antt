use Rattle.std.proofs.Common.{◌≡◌, ◌+◌, ◌≤◌, ℕ, length}
use Rattle.std.specs.Prelude.{slice_index}
use Rattle.response_bounds.specs.Sums.{sum_below}
use Rattle.response_bounds.specs.Levels.{added_over}
use Rattle.response_bounds.proofs.sweep.added_from.Given as goal

abbrev pub invariant-loop-row : goal.invariant-loop-row
invariant-loop-row l =
    (length l.added.items ≡ l.count)
    × ((k : ℕ) → slice_index l.added.items k ≤ sum_below (added_over l.rows l.level (l.from + k)) l.row)
