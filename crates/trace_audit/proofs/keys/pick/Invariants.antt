use Rattle.std.specs.BinaryHeap.{IsHeap, heap_items, heap_len}
use Rattle.std.specs.Ordering.{nat_cmp}
use Rattle.trace_audit.specs.Index.{HasKeys, all_seen}
use Rattle.trace_audit.proofs.keys.pick.Given as goal

abbrev pub invariant-loop-key : goal.invariant-loop-key
invariant-loop-key l = record {
  ordered : IsHeap nat_cmp (heap_items l.keys);
  keyed : HasKeys (all_seen l.handlers l.releases) (heap_items l.keys);
}

abbrev pub decreases-loop-key : goal.decreases-loop-key
decreases-loop-key l = heap_len l.keys
