use Rattle.std.proofs.Common.{◌≡◌, length}
use Rattle.std.specs.Prelude.{filter_map, slice_get}
use Rattle.scj_rules.specs.Views.{variable_at, parameters_at}
use Rattle.node_views.proofs.parameters.parameter_node.Given as goal

-- the parameter stands among those that are left
abbrev pub invariant-loop-others : goal.invariant-loop-others
invariant-loop-others l = slice_get (filter_map (variable_at l.program.nodes) l.others) l.left ≡ slice_get
    (parameters_at l.program.nodes l.fn.parameters) l.fn.i

abbrev pub decreases-loop-others : goal.decreases-loop-others
decreases-loop-others l = length l.others
