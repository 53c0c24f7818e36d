use Rattle.std.specs.Prelude.{◌≡◌, ◌-◌, vec_capacity}
use Rattle.region_heap.specs.MovedRows.{AreMovedDown}
use Rattle.region_heap.proofs.compactions.keep_below.Given as goal

abbrev pub invariant-loop-i : goal.invariant-loop-i
invariant-loop-i l = record {
  moved : AreMovedDown l.start l.fn.objects.items l.objects.items l.i l.kept;
  capacity : vec_capacity l.objects ≡ vec_capacity l.fn.objects;
}

abbrev pub decreases-loop-i : goal.decreases-loop-i
decreases-loop-i l = l.count - l.i
