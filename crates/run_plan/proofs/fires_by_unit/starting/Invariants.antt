use Rattle.std.proofs.Common.{◌≡◌, ◌++◌, drop}
use Rattle.run_plan.specs.Index.{from_start}
use Rattle.run_plan.proofs.fires_by_unit.starting.Given as goal

abbrev pub invariant-loop-fire : goal.invariant-loop-fire
invariant-loop-fire l = l.chosen.items ++ from_start (drop l.fire-index l.fires) ≡ from_start l.fires
