use Rattle.std.proofs.Common.{◌≡◌}
use Rattle.response_bounds.specs.Responses.{responses_below}
use Rattle.response_bounds.proofs.sweep.respond.Given as goal

abbrev pub invariant-loop-row : goal.invariant-loop-row
invariant-loop-row l = l.answer.items ≡ responses_below l.rows l.row
