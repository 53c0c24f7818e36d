use Rattle.std.proofs.Common.{◌∙◌, sym}
use Rattle.response_times.proofs.Accepted.{as_claimed}
use Rattle.response_times.proofs.bounds.check_response.Goals as goal

pub returns-clause-times : goal.returns-clause-times
returns-clause-times c =
    λ right forest accepted plan n within.
    as_claimed forest accepted plan c.args.rows.now c.args.answer.now n c.requires (sym c.are_bounds.ensures ∙ right)
    within
