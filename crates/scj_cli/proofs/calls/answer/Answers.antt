use Rattle.std.proofs.lemmas.Result.{err_from_is_err_and}
use Rattle.scj_cli.proofs.CauseLaws.{Stops-no_job, Stops-words}
use Rattle.scj_cli.proofs.calls.answer.Goals as goal

pub returns-in-Ok-Run-clause-ok : goal.returns-in-Ok-Run-clause-ok
returns-in-Ok-Run-clause-ok g c =
    let job = rw c.in-Ok-Run.field-0-is at c.in-Ok-Run.ensures.job in
    rw job (rw (c.deref-in-Ok-Run.ensures, c.deref-in-Ok-Run-2.ensures.value) at c.run.ensures.ok)

pub returns-in-Ok-Run-clause-stop : goal.returns-in-Ok-Run-clause-stop
returns-in-Ok-Run-clause-stop g c =
    let job = rw c.in-Ok-Run.field-0-is at c.in-Ok-Run.ensures.job in
    rw job (rw (c.deref-in-Ok-Run.ensures, c.deref-in-Ok-Run-2.ensures.value) at c.run.ensures.stop)

pub returns-in-Ok-Areas-clause-ok : goal.returns-in-Ok-Areas-clause-ok
returns-in-Ok-Areas-clause-ok g c =
    let job = rw c.in-Ok-Areas.field-0-is at c.in-Ok-Areas.ensures.job in
    rw job (rw (c.deref-in-Ok-Areas.ensures, c.deref-in-Ok-Areas-2.ensures.value) at c.areas.ensures.ok)

pub returns-in-Ok-Areas-clause-stop : goal.returns-in-Ok-Areas-clause-stop
returns-in-Ok-Areas-clause-stop g c =
    let job = rw c.in-Ok-Areas.field-0-is at c.in-Ok-Areas.ensures.job in
    rw job (rw (c.deref-in-Ok-Areas.ensures, c.deref-in-Ok-Areas-2.ensures.value) at c.areas.ensures.stop)

pub returns-in_err-status-in-Ok-Gen-clause-stop : goal.returns-in_err-status-in-Ok-Gen-clause-stop
returns-in_err-status-in-Ok-Gen-clause-stop g c =
    let p = err_from_is_err_and c.from_residual.result c.from_residual.ensures.1 in
    let job = rw c.in-Ok-Gen.field-0-is at c.in-Ok-Gen.ensures.job in
    rw (job, p.1, p.2) (c.in_err-status-in-Ok-Gen.ensures.stop _)

pub returns-in_ok-status-in-Ok-Gen-clause-ok : goal.returns-in_ok-status-in-Ok-Gen-clause-ok
returns-in_ok-status-in-Ok-Gen-clause-ok g c =
    let job = rw c.in-Ok-Gen.field-0-is at c.in-Ok-Gen.ensures.job in
    rw job (c.in_ok-status-in-Ok-Gen.ensures.ok _)

pub returns-in-Err-Usage-clause-stop : goal.returns-in-Err-Usage-clause-stop
returns-in-Err-Usage-clause-stop g c = rw (c.in-Err-Usage.ensures.job c.in-Err-Usage.field-0-is) (Stops-no_job _ _ _)

pub returns-in-Err-Memory-clause-stop : goal.returns-in-Err-Memory-clause-stop
returns-in-Err-Memory-clause-stop g c = Stops-words _ _ _ _
