use Rattle.std.proofs.Common.{◌+◌, ◌-◌, ◌≤◌, ◌<◌, ℕ, length}
use Rattle.std.specs.Prelude.{slice_index}
use Rattle.response_bounds.proofs.sweep.look_on.Given as goal

abbrev pub invariant-loop-index : goal.invariant-loop-index
invariant-loop-index l =
    (1 ≤ l.index) × (l.index ≤ length l.added)
    × ((demand : ℕ → ℕ) → l.work ≤ demand l.from →
    ((k : ℕ) → demand (l.from + k) + slice_index l.added k ≤ demand (l.from + k + 1)) →
    (l.sum ≤ demand (l.from + l.index)) × ((y : ℕ) → l.from ≤ y → y < l.from + l.index → y < demand y))

abbrev pub decreases-loop-index : goal.decreases-loop-index
decreases-loop-index l = length l.added - l.index
