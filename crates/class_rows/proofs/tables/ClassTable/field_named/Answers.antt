use Rattle.std.proofs.Common.{arith}
use Rattle.std.proofs.lemmas.Grind.{common_steps}
use Rattle.scj_rules.specs.Classes.{field_named}
use Rattle.class_rows.proofs.OwnLemmas.{field_is}
use Rattle.class_rows.proofs.tables.ClassTable.field_named.Goals as goal

pub returns-in-Some : goal.returns-in-Some
unfolding field_named
returns-in-Some c =
    let own = c.field_like.ensures c.args.name.now c.first_declared.ensures in
    let whole = field_is c.args.self.now c.args.class c.args.name.now c.in-Some.above c.in-Some.ensures in
    grind (arith, common_steps, own, whole, c.or.ensures)
