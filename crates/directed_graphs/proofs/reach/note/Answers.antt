use Rattle.std.proofs.Common.{rules}
use Rattle.directed_graphs.proofs.Notes.{noted_more}
use Rattle.directed_graphs.proofs.reach.note.Goals as goal

pub returns-in_ok-push-clause-noted : goal.returns-in_ok-push-clause-noted
returns-in_ok-push-clause-noted c =
    rw c.in_ok-push.ensures.items (
    noted_more c.args.marks.now.items c.args.found.now.items c.args.vertex c.requires.noted (search rules) (search rules)
    )
