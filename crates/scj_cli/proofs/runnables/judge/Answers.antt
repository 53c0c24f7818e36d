use Rattle.std.proofs.Common.{string_bytes}
use Rattle.std.proofs.lemmas.Result.{err_from_is_err_and}
use Rattle.scj_cli.specs.Outcomes.{breaks_rules}
use Rattle.scj_cli.proofs.RunLaws.{ready, refused_run, report_is_empty, texts_count}
use Rattle.scj_cli.proofs.runnables.judge.Goals as goal

pub returns-in_err-runnable-in-Accepted-clause-refusal : goal.returns-in_err-runnable-in-Accepted-clause-refusal
returns-in_err-runnable-in-Accepted-clause-refusal c =
    let p =
    err_from_is_err_and c.from_residual-in_err-runnable-in-Accepted.result
    c.from_residual-in_err-runnable-in-Accepted.ensures.1 in
    let v = rw c.in-Accepted.is at c.in_ok-checked.ensures in
    rw (p.1, p.2) (refused_run _ _ _ (report_is_empty v.0 v.1) c.in_err-runnable-in-Accepted.ensures.refusal)

pub returns-in_ok-runnable-in-Accepted-clause-ok : goal.returns-in_ok-runnable-in-Accepted-clause-ok
returns-in_ok-runnable-in-Accepted-clause-ok c =
    let e = c.in_ok-runnable-in-Accepted.ensures in
    let v = rw c.in-Accepted.is at c.in_ok-checked.ensures in
    rw e.program (ready v.0 v.1 e.planned e.files (texts_count string_bytes _ _ c.requires.named))

pub returns-in_ok-text-in-Refused-clause-ok : goal.returns-in_ok-text-in-Refused-clause-ok
returns-in_ok-text-in-Refused-clause-ok c =
    let v = rw c.in-Refused.is at c.in_ok-checked.ensures in
    (_, breaks_rules v.0 v.1, rw c.items.ensures at c.in_ok-text-in-Refused.ensures)
