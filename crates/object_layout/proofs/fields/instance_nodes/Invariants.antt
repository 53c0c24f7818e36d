use Rattle.std.proofs.Common.{◌≡◌, ◌++◌, length, filter}
use Rattle.object_layout.specs.Fields.{is_instance_at}
use Rattle.object_layout.proofs.fields.instance_nodes.Given as goal

-- those that are left are still to come
abbrev pub invariant-loop-others : goal.invariant-loop-others
invariant-loop-others l =
    l.nodes.items ++ filter (is_instance_at l.program.nodes) l.others ≡ filter
    (is_instance_at l.program.nodes) l.initial.others

abbrev pub decreases-loop-others : goal.decreases-loop-others
decreases-loop-others l = length l.others
