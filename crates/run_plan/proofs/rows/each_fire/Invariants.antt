use Rattle.std.proofs.Common.{◌≡◌, ◌++◌, All, drop, option_map, vec_len}
use Rattle.toml.specs.View.{items_view}
use Rattle.run_plan.specs.Limits.{IsFire}
use Rattle.run_plan.specs.Rows.{each_row, fire_of}
use Rattle.run_plan.proofs.rows.each_fire.Given as goal

abbrev pub invariant-loop-value : goal.invariant-loop-value
invariant-loop-value l =
    (vec_len l.fires ≡ l.value-index)
    × (option_map (λ others. l.fires.items ++ others) (each_row (fire_of l.second) (items_view (drop l.value-index l.values))) ≡ each_row (fire_of l.second) (items_view l.values))
    × All IsFire l.fires.items
