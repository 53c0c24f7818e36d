use Rattle.std.proofs.Common.{◌∙◌, Some, None}
use Rattle.plain_machine.proofs.EndLaws.{end_is}
use Rattle.plain_machine.proofs.ends.end_of.Goals as goal

pub returns-in-Some : goal.returns-in-Some
returns-in-Some c =
    c.end_reported.ensures ∙ end_is c.args.reported.now (Some c.in-Some.event.now) (rw c.in-Some.is at c.last.ensures.value)

pub returns-in-None : goal.returns-in-None
returns-in-None c = end_is c.args.reported.now None (rw c.in-None.is at c.last.ensures.value)
