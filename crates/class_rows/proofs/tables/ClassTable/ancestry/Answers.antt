use Rattle.std.proofs.Common.{arith}
use Rattle.std.proofs.lemmas.Grind.{common_steps}
use Rattle.class_rows.proofs.tables.ClassTable.ancestry.Goals as goal

pub returns-in-Some-Some : goal.returns-in-Some-Some
returns-in-Some-Some c =
    rw (← c.self.view_is)
    (c.self.invariant.ancestries c.args.class c.in-Some-Some.reported (grind (arith, common_steps)))
