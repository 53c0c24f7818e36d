use Rattle.std.proofs.Common.{◌≡◌, ◌==◌, ℕ, ◌++◌, length, map}
use Rattle.std.specs.HashMap.{get}
use Rattle.object_layout.proofs.field_tables.numbers_at.Given as goal

-- those that are left are still to come
abbrev pub invariant-loop-others : goal.invariant-loop-others
invariant-loop-others l =
    l.numbers.items ++ map (λ (id : ℕ). get ◌==◌ l.found id) l.others ≡ map (λ (id : ℕ). get ◌==◌ l.found id)
    l.initial.others

abbrev pub decreases-loop-others : goal.decreases-loop-others
decreases-loop-others l = length l.others
