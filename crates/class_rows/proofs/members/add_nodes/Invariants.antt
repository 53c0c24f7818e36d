use Rattle.std.proofs.Common.{◌≡◌, ◌++◌, filter, length}
use Rattle.class_rows.specs.Members.{is_member}
use Rattle.class_rows.proofs.members.add_nodes.Given as goal

-- those that are left are still to come
abbrev pub invariant-loop-others : goal.invariant-loop-others
invariant-loop-others l = l.ids.items ++ filter (is_member l.kind l.program.nodes) l.others ≡ l.initial.ids.items
    ++ filter (is_member l.kind l.program.nodes) l.initial.others

abbrev pub decreases-loop-others : goal.decreases-loop-others
decreases-loop-others l = length l.others
