-- What the audit of a trace answers, by what the text of the plan means.
use Rattle.std.specs.Prelude.{ℕ, List, [], ◌++◌, codes, decimal}
use Rattle.scj_base.specs.declared.statuses.Status.{Status}
use Rattle.scj_base.specs.declared.statuses.Status.TheVariants as status
use Rattle.run_plan.specs.PlanOf.{Meaning, plan, refused}
use Rattle.trace_audit.specs.Audits.{audit_of}
use Rattle.trace_audit.specs.declared.answers.Audit.{Audit}
use Rattle.trace_audit.specs.declared.answers.Audit.TheVariants.{Yes, No}
use Rattle.scj_cli.specs.Outcomes.{plan_line}

abbrev pub audit_status : Meaning → Status
audit_status (refused why) = status.PlanRefused
audit_status (plan p) = status.Done

-- whether every line passes, or else the number of the first that doesn't
unfoldable pub audit_line : Audit → List ℕ
audit_line Yes = codes "yes\n"
audit_line (No line) = codes "no " ++ (decimal line ++ codes "\n")

-- on `out`, of the audit of this trace
abbrev pub audit_out : List ℕ → Meaning → List ℕ
audit_out trace (refused why) = []
audit_out trace (plan p) = audit_line (audit_of p trace)

-- on `err`
abbrev pub audit_err : Meaning → List ℕ
audit_err (refused why) = plan_line why
audit_err (plan p) = []
