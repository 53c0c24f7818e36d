use Rattle.std.proofs.Common.{◌≡◌, ◌≤◌, ◌==◌, ◌+◌, ℕ, length, drop}
use Rattle.std.specs.List.{position_from}
use Rattle.std.specs.HashMap.{get}
use Rattle.class_rows.proofs.members.indices_of.Given as goal

-- the nodes from this place on are entered
abbrev pub invariant-loop-at : goal.invariant-loop-at
invariant-loop-at l = record {
  within : l.at ≤ length l.ids;
  entered : (id : ℕ) → get ◌==◌ l.map id ≡ position_from (λ other. id == other) (l.first + l.at) (drop l.at l.ids);
}

abbrev pub decreases-loop-at : goal.decreases-loop-at
decreases-loop-at l = l.at
