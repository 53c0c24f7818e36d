use Rattle.std.proofs.Common.{Some, None}
use Rattle.class_rows.proofs.OwnLemmas.{framework_row_is}
use Rattle.class_rows.proofs.tables.ClassTable.framework_row.Goals as goal

pub returns : goal.returns
returns c =
    framework_row_is c.args.self.now c.args.class c.args.name.now (Some c.in_ok-id.id) c.requires c.in_ok-id.ensures

pub returns-in_err-id : goal.returns-in_err-id
returns-in_err-id c = rw c.from_residual.ensures
    (framework_row_is c.args.self.now c.args.class c.args.name.now None c.requires c.in_err-id.ensures)
