use Rattle.std.proofs.Common.{◌≡◌, length}
use Rattle.object_layout.specs.Slots.{noted}
use Rattle.object_layout.proofs.slots.note_indices.Given as goal

-- those that are left are still to be noted
abbrev pub invariant-loop-others : goal.invariant-loop-others
invariant-loop-others l = noted l.indices.items l.index l.others ≡ noted l.initial.indices.items 0 l.fields

abbrev pub decreases-loop-others : goal.decreases-loop-others
decreases-loop-others l = length l.others
