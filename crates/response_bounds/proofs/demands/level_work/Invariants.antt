use Rattle.std.proofs.Common.{◌≡◌, ◌≤◌, ◌*◌}
use Rattle.response_bounds.specs.Sums.{sum_below}
use Rattle.response_bounds.specs.Levels.{level_work_over}
use Rattle.response_bounds.specs.Rows.{most_units}
use Rattle.response_bounds.proofs.demands.level_work.Given as goal

abbrev pub invariant-loop-row : goal.invariant-loop-row
invariant-loop-row l =
    (l.sum ≡ sum_below (level_work_over l.rows l.level l.units) l.row) × (l.sum ≤ l.row * (most_units * most_units))
