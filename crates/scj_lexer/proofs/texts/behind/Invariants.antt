use Rattle.std.proofs.Common.{◌≡◌, ◌≤◌, ◌+◌, take}
use Rattle.std.specs.Prelude.{fold}
use Rattle.scj_base.specs.Lex.{position_behind_byte}
use Rattle.scj_lexer.proofs.texts.behind.Given as goal

abbrev pub invariant-loop-byte : goal.invariant-loop-byte
invariant-loop-byte l = record {
  so_far : l.position ≡ fold position_behind_byte l.fn.pos (take l.byte-index l.bytes);
  line : l.position.line ≤ l.fn.pos.line + l.byte-index;
  column : l.position.col ≤ l.fn.pos.col + l.byte-index;
}
