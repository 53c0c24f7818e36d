use Rattle.std.proofs.Common.{◌≡◌, ◌≤◌, ◌+◌, length}
use Rattle.std.specs.Prelude.{filter_map}
use Rattle.scj_rules.specs.Views.{variable_at, parameters_at}
use Rattle.node_views.proofs.parameters.parameter_count.Given as goal

-- those that are left are still to be counted
abbrev pub invariant-loop-others : goal.invariant-loop-others
invariant-loop-others l =
    (l.count + length (filter_map (variable_at l.program.nodes) l.others) ≡ length
    (parameters_at l.program.nodes l.fn.parameters))
    × (l.count + length l.others ≤ length l.initial.others)

abbrev pub decreases-loop-others : goal.decreases-loop-others
decreases-loop-others l = length l.others
