use Rattle.std.proofs.lemmas.Result.{err_from_is_err_and}
use Rattle.command_line.specs.Job.{Areas}
use Rattle.scj_cli.specs.Endings.Comes.{answered}
use Rattle.scj_cli.specs.Modes.Stops.{broken}
use Rattle.scj_cli.proofs.CauseLaws.{Stops-loads, Stops-form}
use Rattle.scj_cli.proofs.areas.areas.Goals as goal

pub returns-in_err-files-clause-stop : goal.returns-in_err-files-clause-stop
returns-in_err-files-clause-stop g c =
    let p = err_from_is_err_and c.from_residual.result c.from_residual.ensures.1 in
    rw (p.1, p.2) (Stops-loads (Areas _ _) _ _ _ _ c.in_err-files.ensures.refusal)

pub returns-in_err-reported-clause-stop : goal.returns-in_err-reported-clause-stop
returns-in_err-reported-clause-stop g c =
    let p = err_from_is_err_and c.from_residual-in_err-reported.result c.from_residual-in_err-reported.ensures.1 in
    rw (p.1, p.2)
    (Stops-form (Areas _ _) _ _ _ _ _ c.in_ok-files.ensures.ok
    (rw c.deref.ensures.value at (c.in_err-reported.ensures.refusal c.args.plan.now)))

pub returns-in_err-put_all-clause-stop : goal.returns-in_err-put_all-clause-stop
returns-in_err-put_all-clause-stop g c =
    let p = err_from_is_err_and c.from_residual-in_err-put_all.result c.from_residual-in_err-put_all.ensures.1 in
    rw (p.1, p.2)
    (broken (answered c.in_ok-files.ensures.ok
    (rw c.deref.ensures.value at (c.in_ok-reported.ensures.ok c.args.plan.now)))
    (rw c.deref-2.ensures.value at c.in_err-put_all.ensures.failed))

pub returns-clause-ok : goal.returns-clause-ok
returns-clause-ok g c = record {
  text = _;
  comes = answered c.in_ok-files.ensures.ok (rw c.deref.ensures.value at (c.in_ok-reported.ensures.ok c.args.plan.now));
  put = rw c.deref-2.ensures.value at c.in_ok-put_all.ensures.ok;
}
