use Rattle.std.proofs.Common.{◌≡◌, ◌++◌, All, drop, option_map, vec_len}
use Rattle.toml.specs.View.{items_view}
use Rattle.run_plan.specs.Rows.{each_row}
use Rattle.response_times.specs.DeclaredOf.{IsHandler, handler_of}
use Rattle.response_times.proofs.handlers.each_handler.Given as goal

abbrev pub invariant-loop-value : goal.invariant-loop-value
invariant-loop-value l =
    (vec_len l.handlers ≡ l.value-index)
    × (option_map (λ others. l.handlers.items ++ others)
    (each_row handler_of (items_view (drop l.value-index l.values)))
    ≡ each_row handler_of (items_view l.values))
    × All IsHandler l.handlers.items
