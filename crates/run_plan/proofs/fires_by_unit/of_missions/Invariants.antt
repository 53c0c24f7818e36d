use Rattle.std.proofs.Common.{◌≡◌, ◌++◌, drop}
use Rattle.run_plan.specs.Index.{from_mission}
use Rattle.run_plan.proofs.fires_by_unit.of_missions.Given as goal

abbrev pub invariant-loop-fire : goal.invariant-loop-fire
invariant-loop-fire l = l.chosen.items ++ from_mission (drop l.fire-index l.fires) ≡ from_mission l.fires
