use Rattle.scj_rules.specs.Phases.{nowhere}
use Rattle.scj_rules.specs.Verdicts.{in_program}
use Rattle.scj_cli.specs.Answers.Answer.{bounds_of_none, bounds_listed}
use Rattle.scj_cli.proofs.bounds.judge.Goals as goal

pub returns-in_ok-listed-in-Accepted-clause-ok : goal.returns-in_ok-listed-in-Accepted-clause-ok
returns-in_ok-listed-in-Accepted-clause-ok c =
    let e = c.in_ok-listed-in-Accepted.ensures in
    let v = rw c.in-Accepted.is at c.in_ok-checked.ensures in
    rw e.0 (bounds_listed (in_program v.0 (nowhere v.1)) v.0 e.1)

pub returns-in_ok-reported-in-Refused-clause-ok : goal.returns-in_ok-reported-in-Refused-clause-ok
returns-in_ok-reported-in-Refused-clause-ok c =
    let e = c.in_ok-reported-in-Refused.ensures in
    let v = rw c.in-Refused.is at c.in_ok-checked.ensures in
    rw (e.0, e.1, c.items.ensures) (bounds_of_none v.0 v.1)
