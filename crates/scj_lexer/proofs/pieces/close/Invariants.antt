use Rattle.std.proofs.Common.{◌≡◌, ◌+◌, length}
use Rattle.std.specs.Prelude.{option_map}
use Rattle.scj_lexer.specs.First.{close_of}
use Rattle.scj_lexer.proofs.pieces.close.Given as goal

abbrev pub decreases-loop-rest : goal.decreases-loop-rest
decreases-loop-rest l = length l.rest

abbrev pub invariant-loop-rest : goal.invariant-loop-rest
invariant-loop-rest l = record {
  same : option_map (λ n. l.len + n) (close_of l.rest) ≡ close_of l.bytes;
  small : l.len
      + length l.rest ≡ length l.bytes;
}
