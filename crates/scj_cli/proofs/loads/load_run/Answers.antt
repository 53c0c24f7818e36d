use Rattle.std.proofs.Common.{string_bytes}
use Rattle.std.proofs.lemmas.Result.{err_from_is_err_and}
use Rattle.scj_io.proofs.LoadLaws.{ShelfGoes-then}
use Rattle.scj_cli.proofs.LoadLaws.{refused_before, refused_behind, source_count, stand_with_plan}
use Rattle.scj_cli.proofs.loads.load_run.Goals as goal

pub returns-in_err-sources-clause-refusal : goal.returns-in_err-sources-clause-refusal
returns-in_err-sources-clause-refusal g c =
    let p = err_from_is_err_and c.from_residual.result c.from_residual.ensures.1 in
    rw (p.1, p.2) (refused_before _ _ _ _ _ c.in_err-sources.ensures.refusal)

pub returns-in_err-plan-clause-goes : goal.returns-in_err-plan-clause-goes
returns-in_err-plan-clause-goes g c = ShelfGoes-then c.load_all.ensures.goes c.load.ensures.goes

pub returns-in_err-plan-clause-refusal : goal.returns-in_err-plan-clause-refusal
returns-in_err-plan-clause-refusal g c =
    let p = err_from_is_err_and c.from_residual-in_err-plan.result c.from_residual-in_err-plan.ensures.1 in
    rw (p.1, p.2)
    (refused_behind _ _ _ _ c.load_all.ensures.goes c.in_ok-sources.ensures.ok c.in_err-plan.ensures.refusal)

pub returns-clause-goes : goal.returns-clause-goes
returns-clause-goes g c = ShelfGoes-then c.load_all.ensures.goes c.load.ensures.goes

pub returns-clause-ok : goal.returns-clause-ok
returns-clause-ok g c =
    stand_with_plan c.load_all.ensures.goes c.in_ok-sources.ensures.ok c.in_ok-plan.ensures.ok

pub returns-clause-count : goal.returns-clause-count
returns-clause-count g c = source_count string_bytes _ _ c.in_ok-sources.ensures.ok
