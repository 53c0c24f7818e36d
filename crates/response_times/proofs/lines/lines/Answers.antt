use Rattle.std.proofs.Common.{◌≡◌, ◌<◌, ◌+◌, ℕ, List, true, length, subst, arith}
use Rattle.std.specs.Prelude.{slice_index_or}
use Rattle.response_bounds.specs.declared.rows.Declared.{Declared}
use Rattle.response_bounds.specs.declared.responses.Response.{Response}
use Rattle.response_bounds.specs.Responses.{are_right_from, is_right}
use Rattle.response_bounds.proofs.LeastBounds.{right_item}
use Rattle.response_times.proofs.lines.lines.Goals as goal

at_row : (rows : List Declared) (claims : List Response) (row index : ℕ) (d : Response) → index < length claims →
    are_right_from rows 0 claims ≡ true → row ≡ index → is_right rows row (slice_index_or claims index d) ≡ true
at_row rows claims row index d l right same =
    subst (λ k. is_right rows k (slice_index_or claims index d) ≡ true) (here row index same)
    (right_item rows claims 0 index d l right)
  where
    here : (row index : ℕ) → row ≡ index → 0 + index ≡ row
    here row index e = omega (arith, e)

pub response_line-requires-clause-right : goal.response_line-requires-clause-right
response_line-requires-clause-right c =
    at_row c.args.rows.now c.args.responses.now c.loop-response.row c.loop-response.response-index _
    (omega (arith, c.loop-response-test.true)) c.requires.right c.loop-response.invariant.0
