use Rattle.std.proofs.Common.{◌≡◌, ◌++◌, All, drop, option_map, vec_len}
use Rattle.toml.specs.View.{items_view}
use Rattle.run_plan.specs.Limits.{IsReading}
use Rattle.run_plan.specs.Rows.{each_row, reading_of}
use Rattle.run_plan.proofs.rows.each_reading.Given as goal

abbrev pub invariant-loop-value : goal.invariant-loop-value
invariant-loop-value l =
    (vec_len l.readings ≡ l.value-index)
    × (option_map (λ others. l.readings.items ++ others) (each_row reading_of (items_view (drop l.value-index l.values))) ≡ each_row reading_of (items_view l.values))
    × All IsReading l.readings.items
