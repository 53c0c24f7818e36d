use Rattle.std.proofs.lemmas.Result.{err_from_is_err_and}
use Rattle.command_line.specs.Job.{Faults}
use Rattle.scj_cli.specs.Endings.Comes.{answered}
use Rattle.scj_cli.specs.Modes.Stops.{broken}
use Rattle.scj_cli.proofs.CauseLaws.{Stops-loads, Stops-form}
use Rattle.scj_cli.proofs.faults.faults.Goals as goal

pub returns-in_err-sources-clause-stop : goal.returns-in_err-sources-clause-stop
returns-in_err-sources-clause-stop g c =
    let p = err_from_is_err_and c.from_residual.result c.from_residual.ensures.1 in
    rw (p.1, p.2) (Stops-loads (Faults _) _ _ _ _ c.in_err-sources.ensures.refusal)

pub returns-in_err-reported-clause-stop : goal.returns-in_err-reported-clause-stop
returns-in_err-reported-clause-stop g c =
    let p = err_from_is_err_and c.from_residual-in_err-reported.result c.from_residual-in_err-reported.ensures.1 in
    rw (p.1, p.2) (Stops-form (Faults _) _ _ _ _ _ c.in_ok-sources.ensures.ok c.in_err-reported.ensures.refusal)

pub returns-in_err-put_all-clause-stop : goal.returns-in_err-put_all-clause-stop
returns-in_err-put_all-clause-stop g c =
    let p = err_from_is_err_and c.from_residual-in_err-put_all.result c.from_residual-in_err-put_all.ensures.1 in
    rw (p.1, p.2)
    (broken (answered c.in_ok-sources.ensures.ok c.in_ok-reported.ensures.ok)
    (rw c.as_bytes.ensures.value at c.in_err-put_all.ensures.failed))

pub returns-clause-ok : goal.returns-clause-ok
returns-clause-ok g c = record {
  text = _;
  comes = answered c.in_ok-sources.ensures.ok c.in_ok-reported.ensures.ok;
  put = rw c.as_bytes.ensures.value at c.in_ok-put_all.ensures.ok;
}
