use Rattle.std.proofs.Common.{◌≡◌, false, length, take}
use Rattle.scj_tree.specs.Recursion.{bottom_up}
use Rattle.type_words.specs.Returns.{returns_next}
use Rattle.type_words.proofs.bodies.returning.Given as goal

-- the nodes so far are told, in a row for all
abbrev pub invariant-loop-number : goal.invariant-loop-number
invariant-loop-number l = record {
  whole : length l.returns.items ≡ length l.program.nodes;
  reported : take l.number l.returns.items ≡ bottom_up false (returns_next l.program.nodes) l.number;
}
