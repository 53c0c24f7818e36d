use Rattle.std.proofs.Common.{◌≡◌, ◌≤◌, ℕ, List, length, drop}
use Rattle.std.specs.List.{position_from}
use Rattle.scj_base.specs.Bytes.{is_same}
use Rattle.class_headers.specs.NamedNumbers.{found_under, HasNoFew}
use Rattle.class_headers.proofs.names.index_of.Given as goal

-- the names from the number on have their places
abbrev pub invariant-loop-number : goal.invariant-loop-number
invariant-loop-number l = record {
  within : l.number ≤ length l.names;
  few : HasNoFew l.index l.number;
  numbered : (name : List ℕ) → found_under l.index name ≡ position_from (is_same name) l.number (drop l.number l.names);
}

abbrev pub decreases-loop-number : goal.decreases-loop-number
decreases-loop-number l = l.number
