use Rattle.std.proofs.Common.{◌≡◌, ◌≤◌, ◌<◌, ℕ, List, true, length, ap, sym, ◌∙◌, arith}
use Rattle.response_bounds.specs.declared.rows.Declared.{Declared}
use Rattle.response_bounds.specs.declared.responses.Response.{Response}
use Rattle.response_bounds.specs.declared.responses.Response.TheVariants.{Bound}
use Rattle.response_bounds.specs.Responses.{is_right}
use Rattle.response_bounds.specs.Rows.{AreDeclared, most_units, row_at}
use Rattle.response_bounds.proofs.LeastBounds.{right_bound}
use Rattle.response_bounds.proofs.Monotone.{row_there}
use Rattle.response_times.proofs.lines.response_line.Goals as goal

small : (rows : List Declared) (i x : ℕ) (r : Response) → AreDeclared rows → i < length rows →
    is_right rows i r ≡ true → r ≡ Bound x → x ≤ most_units
small rows i x r declared l right e =
    let a : x ≤ (row_at rows i).gap = (right_bound rows i x l (ap (is_right rows i) (sym e) ∙ right)).upto in
    let b : (row_at rows i).gap ≤ most_units = (row_there rows declared i l).gap_upto in
    omega (arith, a, b)

pub other_work-other-requires-clause-units : goal.other_work-other-requires-clause-units
other_work-other-requires-clause-units c =
    small c.args.rows.now c.args.row c.in-Bound.units c.args.response c.requires.declared c.requires.row
    c.requires.right c.in-Bound.is
