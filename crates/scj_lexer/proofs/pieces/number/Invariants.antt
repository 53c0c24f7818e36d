use Rattle.std.proofs.Common.{◌≡◌, ◌≤◌, drop}
use Rattle.scj_lexer.specs.First.{digits_of}
use Rattle.scj_lexer.proofs.pieces.number.Given as goal

abbrev pub invariant-loop-byte : goal.invariant-loop-byte
invariant-loop-byte l = record {
  same : digits_of l.value (drop l.byte-index l.bytes) ≡ digits_of 0 l.bytes;
  small : l.value ≤ 2147483648;
}
