use Rattle.std.proofs.Common.{◌≡◌, length}
use Rattle.trace_audit.specs.Parts.{with_digits}
use Rattle.trace_audit.proofs.parts.with_digits.Given as goal

abbrev pub invariant-loop-rest : goal.invariant-loop-rest
invariant-loop-rest l = with_digits l.fn.first l.fn.bytes ≡ with_digits l.n l.rest

abbrev pub decreases-loop-rest : goal.decreases-loop-rest
decreases-loop-rest l = length l.rest
