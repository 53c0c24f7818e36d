use Rattle.std.specs.Prelude.{◌-◌, take}
use Rattle.scj_model.specs.Apply.{with_first}
use Rattle.region_heap.specs.Contents.{hidden_slots}
use Rattle.region_heap.specs.Written.{IsChangedAt}
use Rattle.region_heap.proofs.numbers.put_numbers.Given as goal

abbrev pub invariant-loop-i : goal.invariant-loop-i
invariant-loop-i l = IsChangedAt l.fn.words l.first (with_first (hidden_slots (take l.i l.hidden))) l.words

abbrev pub decreases-loop-i : goal.decreases-loop-i
decreases-loop-i l = l.count - l.i
