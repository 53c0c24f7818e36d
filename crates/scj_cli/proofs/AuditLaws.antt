-- From what the text of a plan means to the answer of an audit.
use Rattle.std.proofs.Common.{◌≡◌, ℕ, List, [], ◌∷◌, Some, subst}
use Rattle.scj_base.specs.declared.statuses.Status.TheVariants.{Done}
use Rattle.scj_model.specs.Plan.{Plan}
use Rattle.command_line.specs.Job.{Audit as AuditJob}
use Rattle.run_plan.specs.PlanOf.{Meaning, meaning_of_text, plan as means_plan}
use Rattle.trace_audit.specs.Audits.{audit_of}
use Rattle.trace_audit.specs.declared.answers.Audit.{Audit}
use Rattle.scj_cli.specs.Answers.{Answer}
use Rattle.scj_cli.specs.Answers.Answer.{audited}
use Rattle.scj_cli.specs.Audits.{audit_status, audit_line, audit_out, audit_err}
use Rattle.scj_cli.specs.Judgements.{RefusesPlan}
use Rattle.scj_cli.specs.Modes.{RefusesForm}
use Rattle.scj_cli.specs.declared.refusals.Refusal.{Refusal}
use Rattle.scj_cli.specs.declared.refusals.Refusal.TheVariants.{Usage, Unread, Overlong, Unplanned, OutOfMemory}

-- the answer by what the text of the plan means
audited_by : (plan trace plan_text trace_text : List ℕ) (meaning : Meaning) → meaning_of_text plan_text ≡ meaning →
    Answer (Some (AuditJob plan trace)) (trace_text ∷ plan_text ∷ []) (audit_status meaning)
    (audit_out trace_text meaning) (audit_err meaning)
audited_by plan trace plan_text trace_text meaning is =
    subst (λ (m : Meaning). Answer (Some (AuditJob plan trace)) (trace_text ∷ plan_text ∷ []) (audit_status m)
    (audit_out trace_text m) (audit_err m)) is audited

pub audit_reported : {plan_text trace_text line : List ℕ} {p : Plan} {audit : Audit} →
    meaning_of_text plan_text ≡ means_plan p → audit ≡ audit_of p trace_text → line ≡ audit_line audit →
    (plan trace : List ℕ) → Answer (Some (AuditJob plan trace)) (trace_text ∷ plan_text ∷ []) Done line []
audit_reported {plan_text = plan_text} {trace_text = trace_text} means is_audit is plan trace =
    rw (is, is_audit) (audited_by plan trace plan_text trace_text _ means)

pub form_of_audit : (plan_text trace_text : List ℕ) (refusal : Refusal) →
    RefusesPlan (meaning_of_text plan_text) refusal → (plan trace : List ℕ) →
    RefusesForm (AuditJob plan trace) (trace_text ∷ plan_text ∷ []) refusal
form_of_audit plan_text trace_text Usage refuses plan trace = absurd refuses
form_of_audit plan_text trace_text (Unread line) refuses plan trace = absurd refuses
form_of_audit plan_text trace_text (Overlong line) refuses plan trace = absurd refuses
form_of_audit plan_text trace_text (Unplanned line) refuses plan trace =
    rw refuses.2 (audited_by plan trace plan_text trace_text _ refuses.1)
form_of_audit plan_text trace_text OutOfMemory refuses plan trace = tt
