use Rattle.std.specs.Prelude.{◌-◌, replicate}
use Rattle.region_heap.specs.Written.{IsBegun}
use Rattle.region_heap.proofs.writes.lay_array.Given as goal

abbrev pub invariant-loop-i : goal.invariant-loop-i
invariant-loop-i l = IsBegun l.fn.words l.first l.fn.class l.fn.area (replicate l.count l.fn.value) l.i l.words

abbrev pub decreases-loop-i : goal.decreases-loop-i
decreases-loop-i l = l.count - l.i
