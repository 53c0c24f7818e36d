use Rattle.std.specs.Prelude.{◌≡◌, ◌<◌, ◌≤◌, ◌-◌, ℕ, Some, length, slice_get}
use Rattle.region_heap.specs.declared.rows.ObjectRow.{ObjectRow as RowOfObject}
use Rattle.region_heap.proofs.finds.find.Given as goal

abbrev pub invariant-loop-low : goal.invariant-loop-low
invariant-loop-low l = record {
  within : l.high ≤ length l.objects;
  below : (i : ℕ) (x : RowOfObject) → i < l.low → slice_get l.objects i ≡ Some x → x.number < l.number;
  above : (i : ℕ) (x : RowOfObject) → l.high ≤ i → slice_get l.objects i ≡ Some x → l.number < x.number;
}

abbrev pub decreases-loop-low : goal.decreases-loop-low
decreases-loop-low l = l.high - l.low
