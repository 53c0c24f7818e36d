use Rattle.std.proofs.Common.{◌+◌, ◌-◌, ◌≤◌}
use Rattle.response_bounds.specs.Levels.{NoneBelow}
use Rattle.response_bounds.proofs.sweep.search.Given as goal

abbrev pub invariant-loop-units : goal.invariant-loop-units
invariant-loop-units l =
    (1 ≤ l.units) × (NoneBelow l.rows l.level l.from → NoneBelow l.rows l.level l.units)

abbrev pub decreases-loop-units : goal.decreases-loop-units
decreases-loop-units l = l.most + 1 - l.units
