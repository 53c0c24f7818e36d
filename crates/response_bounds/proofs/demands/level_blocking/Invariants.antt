use Rattle.std.proofs.Common.{◌≡◌, ◌≤◌}
use Rattle.response_bounds.specs.Sums.{max_below}
use Rattle.response_bounds.specs.Levels.{level_section_over}
use Rattle.response_bounds.specs.Rows.{most_units}
use Rattle.response_bounds.proofs.demands.level_blocking.Given as goal

abbrev pub invariant-loop-row : goal.invariant-loop-row
invariant-loop-row l = (l.greatest ≡ max_below (level_section_over l.rows l.level) l.row) × (l.greatest ≤ most_units)
