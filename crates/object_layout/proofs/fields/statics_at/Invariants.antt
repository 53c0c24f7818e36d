use Rattle.std.proofs.Common.{◌≡◌, ◌++◌, length}
use Rattle.std.specs.List.{filter_map}
use Rattle.object_layout.specs.Fields.{static_at}
use Rattle.object_layout.proofs.fields.statics_at.Given as goal

-- those that are left are still to come
abbrev pub invariant-loop-others : goal.invariant-loop-others
invariant-loop-others l =
    l.statics.items ++ filter_map (static_at l.program.nodes) l.others ≡ filter_map
    (static_at l.program.nodes) l.initial.others

abbrev pub decreases-loop-others : goal.decreases-loop-others
decreases-loop-others l = length l.others
