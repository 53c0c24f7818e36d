use Rattle.std.proofs.Common.{arith}
use Rattle.std.proofs.lemmas.Grind.{common_steps}
use Rattle.class_rows.proofs.OwnLemmas.{method_is}
use Rattle.class_rows.proofs.tables.ClassTable.nearest_method.Goals as goal

pub returns-in-Some-own_method : goal.returns-in-Some-own_method
returns-in-Some-own_method c =
    let whole = method_is c.args.self.now c.args.class c.args.name.now c.in-Some.above c.in-Some.ensures in
    grind (arith, common_steps, whole, c.in-Some-own_method.ensures)

pub returns-in-Some-above : goal.returns-in-Some-above
returns-in-Some-above c =
    let whole = method_is c.args.self.now c.args.class c.args.name.now c.in-Some.above c.in-Some.ensures in
    grind (arith, common_steps, whole, c.in_default-own_method.ensures, c.in-Some-above.is, c.as_method.ensures)

pub returns-in-None : goal.returns-in-None
returns-in-None c =
    let whole = method_is c.args.self.now c.args.class c.args.name.now c.in-Some.above c.in-Some.ensures in
    grind (arith, common_steps, whole, c.in_default-own_method.ensures, c.in-None.is, c.framework_method_above.ensures)
