use Rattle.std.specs.Prelude.{◌-◌}
use Rattle.region_heap.specs.Written.{IsBegun}
use Rattle.region_heap.proofs.writes.lay_object.Given as goal

abbrev pub invariant-loop-i : goal.invariant-loop-i
invariant-loop-i l = IsBegun l.fn.words l.first l.fn.class l.fn.area l.slots l.i l.words

abbrev pub decreases-loop-i : goal.decreases-loop-i
decreases-loop-i l = l.count - l.i
