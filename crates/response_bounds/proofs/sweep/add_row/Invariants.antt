use Rattle.std.proofs.Common.{◌≡◌, ◌+◌, ◌-◌, ◌%◌, ◌≤◌, ℕ, length, if◌then◌else◌}
use Rattle.std.specs.Prelude.{nat_lt, slice_index}
use Rattle.response_bounds.specs.Levels.{added_in}
use Rattle.response_bounds.proofs.sweep.add_row.Given as goal

abbrev pub invariant-loop-index : goal.invariant-loop-index
invariant-loop-index l =
    (length l.added.items ≡ length l.initial.added.items) × ((l.from + l.index) % l.row.gap ≡ 0)
    × ((k : ℕ) →
    slice_index l.added.items k
    ≤ slice_index l.initial.added.items k + (if nat_lt k l.index then added_in l.row (l.from + k) else 0))

abbrev pub decreases-loop-index : goal.decreases-loop-index
decreases-loop-index l = length l.initial.added.items - l.index
