use Rattle.std.proofs.Common.{◌≡◌, ◌+◌, length}
use Rattle.response_bounds.specs.Responses.{are_right_from}
use Rattle.response_bounds.proofs.responses.are_right.Given as goal

abbrev pub invariant-loop-rest : goal.invariant-loop-rest
invariant-loop-rest l =
    (l.row + length l.rest ≡ length l.rows) × (are_right_from l.rows l.row l.rest ≡ are_right_from l.rows 0 l.claims)

abbrev pub decreases-loop-rest : goal.decreases-loop-rest
decreases-loop-rest l = length l.rest
