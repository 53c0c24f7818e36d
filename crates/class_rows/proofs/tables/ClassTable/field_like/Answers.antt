use Rattle.std.proofs.Common.{Some, None}
use Rattle.class_rows.proofs.OwnLemmas.{own_field_row}
use Rattle.class_rows.proofs.tables.ClassTable.field_like.Goals as goal

pub returns : goal.returns
returns c = λ name e.
    own_field_row c.args.self.now c.args.class name (Some c.in_ok-node.node) (c.in_ok-node.ensures name e)

pub returns-in_err-node : goal.returns-in_err-node
returns-in_err-node c = λ name e. rw c.from_residual.ensures
    (own_field_row c.args.self.now c.args.class name None (c.in_err-node.ensures name e))
