use Rattle.std.proofs.Common.{◌==◌, sym, ◌∙◌}
use Rattle.std.specs.HashMap.{get}
use Rattle.runs_in_check.proofs.Walks.{left_at_first, left_elsewhere}
use Rattle.runs_in_check.proofs.guards.undo_at.Goals as goal

pub returns-then-is_first_part : goal.returns-then-is_first_part
returns-then-is_first_part c = λ number.
    left_at_first c.args.program.now.nodes c.args.parent c.args.part c.args.x.now number
    (get ◌==◌ c.args.rows.now number) _ (sym c.if-is_first_part.true ∙ c.is_first_part.ensures)
    (c.undo_one.ensures number)

pub returns-else-is_first_part : goal.returns-else-is_first_part
returns-else-is_first_part c = λ number.
    left_elsewhere c.args.program.now.nodes c.args.parent c.args.part c.args.x.now number
    (get ◌==◌ c.args.rows.now number) (sym c.if-is_first_part.false ∙ c.is_first_part.ensures)
