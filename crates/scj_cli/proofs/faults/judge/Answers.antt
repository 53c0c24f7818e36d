use Rattle.scj_rules.specs.Phases.{nowhere}
use Rattle.scj_rules.specs.Verdicts.{in_program}
use Rattle.scj_cli.specs.Answers.Answer.{faults_of_none, faults_listed}
use Rattle.scj_cli.proofs.faults.judge.Goals as goal

pub returns-in_ok-listed-in-Accepted-clause-ok : goal.returns-in_ok-listed-in-Accepted-clause-ok
returns-in_ok-listed-in-Accepted-clause-ok c =
    let e = c.in_ok-listed-in-Accepted.ensures in
    let v = rw c.in-Accepted.is at c.in_ok-checked.ensures in
    rw (e.0, e.1)
    (faults_listed {faults = c.deref.result.now} (in_program v.0 (nowhere v.1)) v.0
    (rw c.deref.ensures.value c.in_ok-faults-in-Accepted.ensures))

pub returns-in_ok-refused-in-Refused-clause-ok : goal.returns-in_ok-refused-in-Refused-clause-ok
returns-in_ok-refused-in-Refused-clause-ok c =
    let e = c.in_ok-refused-in-Refused.ensures in
    let v = rw c.in-Refused.is at c.in_ok-checked.ensures in
    rw (e.0, e.1, c.items.ensures) (faults_of_none v.0 v.1)
