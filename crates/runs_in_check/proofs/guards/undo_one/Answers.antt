use Rattle.std.proofs.Common.{◌==◌, sym, ◌∙◌}
use Rattle.std.specs.HashMap.{get}
use Rattle.runs_in_check.proofs.Walks.{left_as_they_are, left_without}
use Rattle.runs_in_check.proofs.guards.undo_one.Goals as goal

pub returns-then-is_asked_of : goal.returns-then-is_asked_of
returns-then-is_asked_of c = λ other.
    (rw c.number.ensures at (c.remove.ensures.updates.0 other))
    ∙ left_without c.args.x.now (get ◌==◌ c.args.rows.now) c.args.number
    (sym c.is_asked_of.ensures ∙ c.if-is_asked_of.true) other

pub returns-else-is_asked_of : goal.returns-else-is_asked_of
returns-else-is_asked_of c =
    left_as_they_are c.args.x.now (get ◌==◌ c.args.rows.now) c.args.number
    (sym c.is_asked_of.ensures ∙ c.if-is_asked_of.false)
