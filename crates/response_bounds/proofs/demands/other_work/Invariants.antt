use Rattle.std.proofs.Common.{◌≡◌, ◌≤◌, ◌*◌}
use Rattle.response_bounds.specs.Sums.{sum_below}
use Rattle.response_bounds.specs.Rows.{work_over, most_units}
use Rattle.response_bounds.proofs.demands.other_work.Given as goal

abbrev pub invariant-loop-other : goal.invariant-loop-other
invariant-loop-other l =
    (l.sum ≡ sum_below (work_over l.rows l.row l.units) l.other) × (l.sum ≤ l.other * (most_units * most_units))
