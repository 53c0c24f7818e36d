use Rattle.std.proofs.Common.{◌≤◌, Some, None, arith}
use Rattle.scj_rules.specs.Classes.{first_user_class}
use Rattle.class_rows.proofs.OwnLemmas.{declared_row_is}
use Rattle.class_rows.proofs.tables.ClassTable.method_like.Goals as goal

pub returns : goal.returns
returns c =
    let user : first_user_class ≤ c.args.class =
    omega (arith, c.if-number-lt-FRAMEWORK_CLASS_COUNT.false, c.number.ensures) in
    rw c.as_method.ensures (declared_row_is c.args.self.now c.args.class c.args.name.now (Some c.in_ok-node.node) user
    (c.in_ok-node.ensures c.args.name.now (c.requires user)))

pub returns-in_err-node : goal.returns-in_err-node
returns-in_err-node c =
    let user : first_user_class ≤ c.args.class =
    omega (arith, c.if-number-lt-FRAMEWORK_CLASS_COUNT.false, c.number.ensures) in
    rw c.from_residual.ensures (declared_row_is c.args.self.now c.args.class c.args.name.now None user
    (c.in_err-node.ensures c.args.name.now (c.requires user)))
