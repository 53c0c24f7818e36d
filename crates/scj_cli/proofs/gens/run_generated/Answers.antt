use Rattle.std.proofs.lemmas.Result.{err_from_is_err_and}
use Rattle.command_line.specs.Job.{Gen}
use Rattle.scj_cli.specs.Endings.MayStand.{none}
use Rattle.scj_cli.specs.Endings.Comes.{answered}
use Rattle.scj_cli.specs.Modes.Stops.{broken}
use Rattle.scj_cli.proofs.CauseLaws.{Stops-form}
use Rattle.scj_cli.proofs.gens.run_generated.Goals as goal

pub returns-in_err-reported-clause-stop : goal.returns-in_err-reported-clause-stop
returns-in_err-reported-clause-stop g c =
    let p = err_from_is_err_and c.from_residual.result c.from_residual.ensures.1 in
    rw (p.1, p.2) (λ shelf. Stops-form (Gen _) shelf _ _ _ _ none c.in_err-reported.ensures.refusal)

pub returns-in_err-put_all-clause-stop : goal.returns-in_err-put_all-clause-stop
returns-in_err-put_all-clause-stop g c =
    let p = err_from_is_err_and c.from_residual-in_err-put_all.result c.from_residual-in_err-put_all.ensures.1 in
    rw (p.1, p.2)
    (λ shelf. broken (answered none c.in_ok-reported.ensures.ok)
    (rw c.deref.ensures.value at c.in_err-put_all.ensures.failed))

pub returns-clause-ok : goal.returns-clause-ok
returns-clause-ok g c = λ shelf. record {
  text = _;
  comes = answered none c.in_ok-reported.ensures.ok;
  put = rw c.deref.ensures.value at c.in_ok-put_all.ensures.ok;
}
