use Rattle.std.proofs.lemmas.Result.{err_from_is_err_and}
use Rattle.scj_cli.proofs.AuditLaws.{audit_reported, form_of_audit}
use Rattle.scj_cli.proofs.audits.audited.Goals as goal

pub returns-in_err-plan-clause-refusal : goal.returns-in_err-plan-clause-refusal
returns-in_err-plan-clause-refusal c =
    let p = err_from_is_err_and c.from_residual.result c.from_residual.ensures.1 in
    rw (p.1, p.2) (form_of_audit _ _ _ c.in_err-plan.ensures.refusal)

pub returns-clause-ok : goal.returns-clause-ok
returns-clause-ok c = audit_reported c.in_ok-plan.ensures.ok c.in_ok-audit.ensures c.in_ok-line.ensures
