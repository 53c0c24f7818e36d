use Rattle.std.proofs.lemmas.Result.{err_from_is_err_and}
use Rattle.command_line.specs.Job.{Audit}
use Rattle.scj_cli.specs.Endings.Comes.{answered}
use Rattle.scj_cli.specs.Modes.Stops.{broken}
use Rattle.scj_cli.proofs.CauseLaws.{Stops-loads, Stops-form}
use Rattle.scj_cli.proofs.audits.audit.Goals as goal

pub returns-in_err-files-clause-stop : goal.returns-in_err-files-clause-stop
returns-in_err-files-clause-stop g c =
    let p = err_from_is_err_and c.from_residual.result c.from_residual.ensures.1 in
    rw (p.1, p.2) (Stops-loads (Audit _ _) _ _ _ _ c.in_err-files.ensures.refusal)

pub returns-in_err-line-clause-stop : goal.returns-in_err-line-clause-stop
returns-in_err-line-clause-stop g c =
    let p = err_from_is_err_and c.from_residual-in_err-line.result c.from_residual-in_err-line.ensures.1 in
    rw (p.1, p.2)
    (Stops-form (Audit _ _) _ _ _ _ _ c.in_ok-files.ensures.ok
    ((rw (c.deref.ensures.value, c.deref-2.ensures.value) at c.in_err-line.ensures.refusal) _ _))

pub returns-in_err-put_all-clause-stop : goal.returns-in_err-put_all-clause-stop
returns-in_err-put_all-clause-stop g c =
    let p = err_from_is_err_and c.from_residual-in_err-put_all.result c.from_residual-in_err-put_all.ensures.1 in
    rw (p.1, p.2)
    (broken (answered c.in_ok-files.ensures.ok
    ((rw (c.deref.ensures.value, c.deref-2.ensures.value) at c.in_ok-line.ensures.ok) _ _))
    (rw c.as_bytes.ensures.value at c.in_err-put_all.ensures.failed))

pub returns-clause-ok : goal.returns-clause-ok
returns-clause-ok g c = record {
  text = _;
  comes = answered c.in_ok-files.ensures.ok
      ((rw (c.deref.ensures.value, c.deref-2.ensures.value) at c.in_ok-line.ensures.ok) _ _);
  put = rw c.as_bytes.ensures.value at c.in_ok-put_all.ensures.ok;
}
