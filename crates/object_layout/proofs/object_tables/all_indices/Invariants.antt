use Rattle.std.proofs.Common.{◌≡◌, length}
use Rattle.object_layout.specs.Objects.{all_noted}
use Rattle.object_layout.proofs.object_tables.all_indices.Given as goal

-- those that are left are still to be noted
abbrev pub invariant-loop-others : goal.invariant-loop-others
invariant-loop-others l = all_noted l.indices.items l.others ≡ all_noted l.initial.indices.items l.rows

abbrev pub decreases-loop-others : goal.decreases-loop-others
decreases-loop-others l = length l.others
