use Rattle.std.proofs.Common.{◌≡◌, ◌<◌, ℕ, Some, slice_get}
use Rattle.object_layout.specs.declared.objects.ObjectRow.{ObjectRow}
use Rattle.object_layout.specs.Slots.{HasIndices}
use Rattle.object_layout.proofs.slots.has_all_indices.Given as goal

-- the table has the places of the rows so far
abbrev pub invariant-loop-at : goal.invariant-loop-at
invariant-loop-at l = (class : ℕ) (row : ObjectRow) → class < l.at → slice_get l.rows class ≡ Some row →
    HasIndices l.indices row.fields.items
