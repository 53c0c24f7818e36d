use Rattle.scj_cli.specs.Answers.Answer.{show_unreadable, shown}
use Rattle.scj_cli.proofs.shows.showing_of.Goals as goal

pub returns-in_ok-texts-in-Read-clause-ok : goal.returns-in_ok-texts-in-Read-clause-ok
returns-in_ok-texts-in-Read-clause-ok c =
    rw c.in_ok-texts-in-Read.ensures (shown (rw c.in-Read.is at c.in_ok-program.ensures))

pub returns-in_ok-texts-in-Broken-clause-ok : goal.returns-in_ok-texts-in-Broken-clause-ok
returns-in_ok-texts-in-Broken-clause-ok c =
    rw (c.in_ok-texts-in-Broken.ensures, c.as_bytes.ensures.value, c.in_ok-text-in-Broken.ensures)
    (show_unreadable (rw c.in-Broken.is at c.in_ok-program.ensures))
