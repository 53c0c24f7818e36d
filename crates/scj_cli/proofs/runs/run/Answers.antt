use Rattle.std.proofs.Common.{map, string_bytes}
use Rattle.std.proofs.lemmas.Result.{err_from_is_err_and}
use Rattle.scj_check.specs.Texts.{texts_of}
use Rattle.command_line.specs.Job.{Run}
use Rattle.scj_cli.proofs.CauseLaws.{Stops-loads, Stops-form}
use Rattle.scj_cli.proofs.RunLaws.{texts_count, form_of_run, answered_by_run, stopped_by_run, answered_by_report, broken_at_report}
use Rattle.scj_cli.proofs.runs.run.Goals as goal

pub returns-in_err-files-clause-stop : goal.returns-in_err-files-clause-stop
returns-in_err-files-clause-stop g c =
    let p = err_from_is_err_and c.from_residual.result c.from_residual.ensures.1 in
    rw (p.1, p.2) (Stops-loads (Run _ _) _ _ _ _ c.in_err-files.ensures.refusal)

pub returns-in_err-text-clause-stop : goal.returns-in_err-text-clause-stop
returns-in_err-text-clause-stop g c =
    let p = err_from_is_err_and c.from_residual-in_err-text.result c.from_residual-in_err-text.ensures.1 in
    let files = c.in_ok-files.files in
    let count = texts_count string_bytes _ _ c.in_ok-files.ensures.count in
    rw (p.1, p.2)
    (Stops-form (Run _ _) _ _ _ _ _ c.in_ok-files.ensures.ok
    (form_of_run c.args.plan.now files.plan.items (map string_bytes c.args.names.now) (texts_of files.sources) _ count
    (rw c.deref.ensures.value at c.in_err-text.ensures.refusal)))

pub returns-in_err-put_all-in-Reported-clause-stop : goal.returns-in_err-put_all-in-Reported-clause-stop
returns-in_err-put_all-in-Reported-clause-stop g c =
    let p =
    err_from_is_err_and c.from_residual-in_err-put_all-in-Reported.result
    c.from_residual-in_err-put_all-in-Reported.ensures.1 in
    let count = texts_count string_bytes _ _ c.in_ok-files.ensures.count in
    let judged = rw (c.in-Reported.is, c.deref.ensures.value) at c.in_ok-text.ensures.ok in
    rw (p.1, p.2)
    (broken_at_report c.in_ok-files.ensures.ok count judged.1 judged.2
    (rw c.as_bytes.ensures.value at c.in_err-put_all-in-Reported.ensures.failed))

pub returns-in-Reported-clause-ok : goal.returns-in-Reported-clause-ok
returns-in-Reported-clause-ok g c =
    let count = texts_count string_bytes _ _ c.in_ok-files.ensures.count in
    let judged = rw (c.in-Reported.is, c.deref.ensures.value) at c.in_ok-text.ensures.ok in
    answered_by_report c.in_ok-files.ensures.ok count judged.1 judged.2
    (rw c.as_bytes.ensures.value at c.in_ok-put_all-in-Reported.ensures.ok)

pub returns-in_err-status-in-Ready-clause-stop : goal.returns-in_err-status-in-Ready-clause-stop
returns-in_err-status-in-Ready-clause-stop g c =
    let p =
    err_from_is_err_and c.from_residual-in_err-status-in-Ready.result c.from_residual-in_err-status-in-Ready.ensures.1
    in
    let count = texts_count string_bytes _ _ c.in_ok-files.ensures.count in
    let judged = rw (c.in-Ready.is, c.deref.ensures.value) at c.in_ok-text.ensures.ok in
    rw (p.1, p.2)
    (stopped_by_run _ c.in_ok-files.ensures.ok count judged.0 (rw judged.1 at c.in_err-status-in-Ready.ensures.stop))

pub returns-clause-ok : goal.returns-clause-ok
returns-clause-ok g c =
    let count = texts_count string_bytes _ _ c.in_ok-files.ensures.count in
    let judged = rw (c.in-Ready.is, c.deref.ensures.value) at c.in_ok-text.ensures.ok in
    answered_by_run c.in_ok-files.ensures.ok count judged.0 (rw judged.1 at c.in_ok-status-in-Ready.ensures.ok)
