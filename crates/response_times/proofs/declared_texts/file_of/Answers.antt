use Rattle.std.proofs.Common.{sym, subst}
use Rattle.response_bounds.specs.Rows.{AreDeclared}
use Rattle.response_times.proofs.HandlerRows.{are_declared}
use Rattle.response_times.proofs.declared_texts.file_of.Goals as goal

pub returns-clause-declared : goal.returns-clause-declared
returns-clause-declared c =
    subst AreDeclared (sym c.in_ok-rows.ensures.rows)
    (are_declared c.args.handlers.now c.requires.some c.requires.few c.requires.limits)
