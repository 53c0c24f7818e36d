use Rattle.scj_rules.specs.Phases.{nowhere}
use Rattle.scj_rules.specs.Verdicts.{in_program}
use Rattle.scj_cli.specs.Answers.Answer.{refused, accepted}
use Rattle.scj_cli.proofs.checks.judge.Goals as goal

pub returns-in-Accepted-clause-ok : goal.returns-in-Accepted-clause-ok
returns-in-Accepted-clause-ok c =
    let e = c.in_ok-accepted-in-Accepted.ensures in
    let v = rw c.in-Accepted.is at c.in_ok-check.ensures in
    rw (e.0, e.1) (accepted (in_program v.0 (nowhere v.1)))

pub returns-clause-ok : goal.returns-clause-ok
returns-clause-ok c =
    let e = c.in_ok-refused-in-Refused.ensures in
    let v = rw c.in-Refused.is at c.in_ok-check.ensures in
    rw (e.0, e.1, c.items.ensures) (refused v.0 v.1)
