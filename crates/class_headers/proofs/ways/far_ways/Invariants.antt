use Rattle.std.proofs.Common.{◌≤◌, ◌-◌, length}
use Rattle.class_headers.specs.Ways.{AreDoubled}
use Rattle.class_headers.proofs.ways.far_ways.Given as goal

abbrev pub invariant-loop-steps : goal.invariant-loop-steps
invariant-loop-steps l = record { some : 1 ≤ l.steps; far : AreDoubled l.fn.first.items l.steps l.ways.items }

abbrev pub decreases-loop-steps : goal.decreases-loop-steps
decreases-loop-steps l = length l.ways.items - l.steps
