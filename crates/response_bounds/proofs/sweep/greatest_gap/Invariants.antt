use Rattle.std.proofs.Common.{◌≡◌, ◌≤◌, ◌<◌, ℕ}
use Rattle.response_bounds.specs.Rows.{most_units, row_at}
use Rattle.response_bounds.proofs.sweep.greatest_gap.Given as goal

abbrev pub invariant-loop-row : goal.invariant-loop-row
invariant-loop-row l =
    (l.greatest ≤ most_units)
    × ((i : ℕ) → i < l.row → (row_at l.rows i).priority ≡ l.level → (row_at l.rows i).gap ≤ l.greatest)
