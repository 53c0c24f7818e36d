use Rattle.std.specs.Prelude.{◌≡◌, ◌≤◌, ℕ, Some, length, slice_get}
use Rattle.region_heap.specs.declared.rows.AreaRow.{AreaRow as RowOfArea}
use Rattle.region_heap.proofs.finds.row_of.Given as goal

abbrev pub invariant-loop-left : goal.invariant-loop-left
invariant-loop-left l = record {
  within : l.left ≤ length l.areas;
  none : (k : ℕ) (row : RowOfArea) → l.left ≤ k → slice_get l.areas k ≡ Some row → row.area ≡ l.area → ⊥;
}

abbrev pub decreases-loop-left : goal.decreases-loop-left
decreases-loop-left l = l.left
