use Rattle.std.proofs.Common.{◌≡◌, ◌++◌, length, filter}
use Rattle.object_layout.specs.Fields.{is_static_at}
use Rattle.object_layout.proofs.fields.static_nodes.Given as goal

-- those that are left are still to come
abbrev pub invariant-loop-others : goal.invariant-loop-others
invariant-loop-others l =
    l.nodes.items ++ filter (is_static_at l.program.nodes) l.others ≡ filter
    (is_static_at l.program.nodes) l.initial.others

abbrev pub decreases-loop-others : goal.decreases-loop-others
decreases-loop-others l = length l.others
