use Rattle.std.proofs.lemmas.Result.{err_from_is_err_and}
use Rattle.scj_cli.proofs.LoadLaws.{refused_alone, stands_alone}
use Rattle.scj_cli.proofs.loads.load_alone.Goals as goal

pub returns-in_err-text-clause-refusal : goal.returns-in_err-text-clause-refusal
returns-in_err-text-clause-refusal g c =
    let p = err_from_is_err_and c.from_residual.result c.from_residual.ensures.1 in
    rw (p.1, p.2) (refused_alone _ _ _ _ c.in_err-text.ensures.refusal)

pub returns-clause-ok : goal.returns-clause-ok
returns-clause-ok g c = stands_alone c.in_ok-text.ensures.ok
