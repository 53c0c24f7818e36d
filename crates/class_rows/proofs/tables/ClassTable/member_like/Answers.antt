use Rattle.std.proofs.Common.{◌∙◌, sym}
use Rattle.class_rows.proofs.tables.ClassTable.member_like.Goals as goal

pub returns-in-Some : goal.returns-in-Some
returns-in-Some c = λ name e.
    (rw (c.number.ensures, c.number-in-Some.ensures) at (c.copied.ensures ∙ c.get.ensures.value))
    ∙ c.members_like.ensures.named c.args.class c.in-Some.id name (sym c.in-Some.is ∙ e)
