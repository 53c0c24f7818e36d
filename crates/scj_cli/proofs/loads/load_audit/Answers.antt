use Rattle.std.proofs.Common.{[], ◌∷◌}
use Rattle.std.proofs.lemmas.Result.{err_from_is_err_and}
use Rattle.scj_io.specs.Loads.{shelf_run}
use Rattle.scj_io.proofs.LoadLaws.{ShelfGoes-then}
use Rattle.scj_cli.specs.Jobs.{audit_limits}
use Rattle.scj_cli.proofs.LoadLaws.{plan_refused, plan_within, refused_alone, refused_before, refused_behind, stand_with_plan, stands_alone}
use Rattle.scj_cli.proofs.loads.load_audit.Goals as goal

pub returns-in_err-trace_text-clause-refusal : goal.returns-in_err-trace_text-clause-refusal
returns-in_err-trace_text-clause-refusal g c =
    let p = err_from_is_err_and c.from_residual.result c.from_residual.ensures.1 in
    rw (p.1, p.2)
    (refused_before _ _ (_ ∷ []) _ _
    (refused_alone _ _ _ _ (rw c.limit_of_trace-limit.ensures at c.in_err-trace_text.ensures.refusal)))

pub returns-in_err-plan_text-clause-goes : goal.returns-in_err-plan_text-clause-goes
returns-in_err-plan_text-clause-goes g c = ShelfGoes-then c.load.ensures.goes c.load-2.ensures.goes

pub returns-in_err-plan_text-clause-refusal : goal.returns-in_err-plan_text-clause-refusal
returns-in_err-plan_text-clause-refusal g c =
    let p = err_from_is_err_and c.from_residual-in_err-plan_text.result c.from_residual-in_err-plan_text.ensures.1 in
    let trace = stands_alone {limits = audit_limits c.args.plan.now} (rw c.limit_of_trace-limit.ensures at c.in_ok-trace_text.ensures.ok) in
    rw (p.1, p.2)
    (refused_behind _ _ _ _ c.load.ensures.goes trace
    (plan_refused (shelf_run (g.H.Shelf.held c.load.new.shelf) (g.H.Shelf.faults c.load.new.shelf)
    (g.H.Shelf.faults c.load-2.new.shelf) (g.H.Shelf.most c.load-2.new.shelf)) c.args.plan.now _
    c.in_err-plan_text.ensures.refusal))

pub returns-clause-goes : goal.returns-clause-goes
returns-clause-goes g c = ShelfGoes-then c.load.ensures.goes c.load-2.ensures.goes

pub returns-clause-ok : goal.returns-clause-ok
returns-clause-ok g c =
    stand_with_plan c.load.ensures.goes (stands_alone {limits = audit_limits c.args.plan.now} (rw c.limit_of_trace-limit.ensures at c.in_ok-trace_text.ensures.ok))
    (plan_within c.in_ok-plan_text.ensures.ok)
