use Rattle.std.proofs.Common.{◌≡◌, drop}
use Rattle.std.specs.Prelude.{find}
use Rattle.scj_lexer.specs.Tries.{is_sign_first}
use Rattle.scj_lexer.proofs.tries.sign.Given as goal

abbrev pub invariant-loop-index : goal.invariant-loop-index
invariant-loop-index l = find (is_sign_first l.bytes) (drop l.index-index l.index-items) ≡ find
    (is_sign_first l.bytes) l.index-items
