use Rattle.std.proofs.Common.{◌≡◌, ◌≤◌, length, drop}
use Rattle.std.specs.List.{find}
use Rattle.std.specs.Option.{option_or}
use Rattle.std.specs.HashMap.{get}
use Rattle.class_headers.specs.NamedNumbers.{found_under}
use Rattle.class_rows.specs.declared.members.OwnKey.{OwnKey}
use Rattle.class_rows.specs.Members.{is_like, is_same_own, in_class}
use Rattle.class_rows.proofs.members.add_names.Given as goal

-- the members from this one on are entered
abbrev pub invariant-loop-at : goal.invariant-loop-at
invariant-loop-at l = record {
  within : l.at ≤ length l.members;
  entered : (key : OwnKey) → get is_same_own l.map key ≡ option_or (in_class l.class key
      (find (is_like l.kind l.program.nodes (found_under l.firsts) key.first) (drop l.at l.members)))
      (get is_same_own l.initial.map key);
}

abbrev pub decreases-loop-at : goal.decreases-loop-at
decreases-loop-at l = l.at
