use Rattle.std.proofs.Common.{◌≡◌, ◌++◌, drop, map}
use Rattle.toml.specs.Data.{table}
use Rattle.toml.specs.View.{view}
use Rattle.run_plan.specs.NewTable.{fire_row}
use Rattle.run_plan.proofs.migration.fire_rows.Given as goal

abbrev pub invariant-loop-fire : goal.invariant-loop-fire
invariant-loop-fire l = map view l.rows.items ++ map (λ fire. table (fire_row fire)) (drop l.fire-index l.fires) ≡ map (λ fire. table (fire_row fire)) l.fires
