use Rattle.std.proofs.Common.{◌≡◌, ◌≤◌, ℕ, List, length, drop}
use Rattle.class_headers.specs.NamedNumbers.{found_under, HasNoFew}
use Rattle.class_rows.specs.Members.{first_named}
use Rattle.class_rows.proofs.members.firsts_of.Given as goal

-- the nodes from this place on are entered
abbrev pub invariant-loop-at : goal.invariant-loop-at
invariant-loop-at l = record {
  within : l.at ≤ length l.ids;
  few : HasNoFew l.firsts l.at;
  entered : (name : List ℕ) → found_under l.firsts name ≡ first_named l.kind l.program.nodes name (drop l.at l.ids);
}

abbrev pub decreases-loop-at : goal.decreases-loop-at
decreases-loop-at l = l.at
