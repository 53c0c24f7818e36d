use Rattle.std.proofs.lemmas.Result.{err_from_is_err_and}
use Rattle.plain_machine.proofs.PartLaws.{PutPart-nothing}
use Rattle.plain_machine.proofs.area_runs.run_watched.Goals as goal

pub returns-in_err-last-clause-stop : goal.returns-in_err-last-clause-stop
returns-in_err-last-clause-stop g c =
    let p = err_from_is_err_and c.from_residual-in_err-last.result c.from_residual-in_err-last.ensures.1 in
    rw (p.1, p.2) (PutPart-nothing _ _ _)
