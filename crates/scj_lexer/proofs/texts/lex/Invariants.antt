use Rattle.std.proofs.Common.{length}
use Rattle.scj_lexer.proofs.Reached.{Reached}
use Rattle.scj_lexer.proofs.texts.lex.Given as goal

abbrev pub decreases-loop-rest : goal.decreases-loop-rest
decreases-loop-rest l = length l.rest

abbrev pub invariant-loop-rest : goal.invariant-loop-rest
invariant-loop-rest l = record { reached : Reached l.file l.bytes l.rest l.pos l.tokens }
