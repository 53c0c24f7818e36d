use Rattle.std.proofs.Common.{◌≡◌, ◌++◌, drop, map}
use Rattle.toml.specs.Data.{table}
use Rattle.toml.specs.View.{view}
use Rattle.run_plan.specs.NewTable.{reading_row}
use Rattle.run_plan.proofs.migration.reading_rows.Given as goal

abbrev pub invariant-loop-reading : goal.invariant-loop-reading
invariant-loop-reading l = map view l.rows.items ++ map (λ row. table (reading_row row)) (drop l.reading-index l.readings) ≡ map (λ row. table (reading_row row)) l.readings
