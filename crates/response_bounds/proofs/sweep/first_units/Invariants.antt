use Rattle.std.proofs.Common.{◌≡◌, ◌+◌, ◌≤◌, ◌<◌, ℕ, length}
use Rattle.std.specs.Prelude.{slice_index}
use Rattle.response_bounds.specs.Levels.{IsFirst, NoneBelow}
use Rattle.response_bounds.specs.Rows.{highest_priority}
use Rattle.response_bounds.proofs.sweep.first_units.Given as goal

abbrev pub invariant-loop-level : goal.invariant-loop-level
invariant-loop-level l =
    (l.level ≤ highest_priority) × (1 ≤ l.units) × (length l.firsts.items ≡ 29)
    × NoneBelow l.rows (l.level + 1) l.units
    × ((level : ℕ) → l.level < level → level ≤ highest_priority → IsFirst l.rows level (slice_index l.firsts.items level))

abbrev pub decreases-loop-level : goal.decreases-loop-level
decreases-loop-level l = l.level
