use Rattle.std.proofs.lemmas.Result.{err_from_is_err_and}
use Rattle.command_line.specs.Job.{Migrate}
use Rattle.scj_cli.specs.Endings.Comes.{answered}
use Rattle.scj_cli.specs.Modes.Stops.{broken}
use Rattle.scj_cli.proofs.CauseLaws.{Stops-loads, Stops-form}
use Rattle.scj_cli.proofs.migrations.migrate.Goals as goal

pub returns-in_err-text-clause-stop : goal.returns-in_err-text-clause-stop
returns-in_err-text-clause-stop g c =
    let p = err_from_is_err_and c.from_residual.result c.from_residual.ensures.1 in
    rw (p.1, p.2) (Stops-loads (Migrate _) _ _ _ _ c.in_err-text.ensures.refusal)

pub returns-in_err-again-clause-stop : goal.returns-in_err-again-clause-stop
returns-in_err-again-clause-stop g c =
    let p = err_from_is_err_and c.from_residual-in_err-again.result c.from_residual-in_err-again.ensures.1 in
    rw (p.1, p.2)
    (Stops-form (Migrate _) _ _ _ _ _ c.in_ok-text.ensures.ok
    (rw c.deref.ensures.value at c.in_err-again.ensures.refusal _))

pub returns-in_err-put_all-clause-stop : goal.returns-in_err-put_all-clause-stop
returns-in_err-put_all-clause-stop g c =
    let p = err_from_is_err_and c.from_residual-in_err-put_all.result c.from_residual-in_err-put_all.ensures.1 in
    rw (p.1, p.2)
    (broken (answered c.in_ok-text.ensures.ok (rw c.deref.ensures.value at c.in_ok-again.ensures.ok _))
    (rw c.deref-2.ensures.value at c.in_err-put_all.ensures.failed))

pub returns-clause-ok : goal.returns-clause-ok
returns-clause-ok g c = record {
  text = _;
  comes = answered c.in_ok-text.ensures.ok (rw c.deref.ensures.value at c.in_ok-again.ensures.ok _);
  put = rw c.deref-2.ensures.value at c.in_ok-put_all.ensures.ok;
}
