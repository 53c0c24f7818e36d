use Rattle.std.proofs.lemmas.Result.{err_from_is_err_and}
use Rattle.command_line.specs.Job.{Show}
use Rattle.scj_cli.specs.Endings.Comes.{answered}
use Rattle.scj_cli.specs.Modes.Stops.{broken}
use Rattle.scj_cli.proofs.CauseLaws.{Stops-loads, Stops-form}
use Rattle.scj_cli.proofs.shows.show.Goals as goal

pub returns-in_err-sources-clause-stop : goal.returns-in_err-sources-clause-stop
returns-in_err-sources-clause-stop g c =
    let p = err_from_is_err_and c.from_residual.result c.from_residual.ensures.1 in
    rw (p.1, p.2) (Stops-loads (Show _) _ _ _ _ c.in_err-sources.ensures.refusal)

pub returns-in_err-showing-clause-stop : goal.returns-in_err-showing-clause-stop
returns-in_err-showing-clause-stop g c =
    let p = err_from_is_err_and c.from_residual-in_err-showing.result c.from_residual-in_err-showing.ensures.1 in
    rw (p.1, p.2) (Stops-form (Show _) _ _ _ _ _ c.in_ok-sources.ensures.ok c.in_err-showing.ensures.refusal)

pub returns-in_err-put_each-clause-stop : goal.returns-in_err-put_each-clause-stop
returns-in_err-put_each-clause-stop g c =
    let p = err_from_is_err_and c.from_residual-in_err-put_each.result c.from_residual-in_err-put_each.ensures.1 in
    rw (p.1, p.2)
    (broken (answered c.in_ok-sources.ensures.ok c.in_ok-showing.ensures.ok)
    (rw c.deref.ensures.value at c.in_err-put_each.ensures.failed))

pub returns-clause-ok : goal.returns-clause-ok
returns-clause-ok g c = record {
  text = _;
  comes = answered c.in_ok-sources.ensures.ok c.in_ok-showing.ensures.ok;
  put = rw c.deref.ensures.value at c.in_ok-put_each.ensures.ok;
}
