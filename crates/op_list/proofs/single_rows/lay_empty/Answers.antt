use Rattle.op_list.proofs.Folds.{leave_plain}
use Rattle.op_list.proofs.single_rows.lay_empty.Goals as goal

pub lay_plain-requires-clause-plain : goal.lay_plain-requires-clause-plain
lay_plain-requires-clause-plain c = leave_plain c.args.code.now.nodes
