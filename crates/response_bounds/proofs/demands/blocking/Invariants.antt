use Rattle.std.proofs.Common.{◌≡◌, ◌≤◌}
use Rattle.response_bounds.specs.Sums.{max_below}
use Rattle.response_bounds.specs.Rows.{section_over, most_units}
use Rattle.response_bounds.proofs.demands.blocking.Given as goal

abbrev pub invariant-loop-other : goal.invariant-loop-other
invariant-loop-other l = (l.greatest ≡ max_below (section_over l.rows l.row) l.other) × (l.greatest ≤ most_units)
