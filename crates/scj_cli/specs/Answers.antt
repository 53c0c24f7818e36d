-- What each job answers: its status, and its texts on the two sinks.
use Rattle.std.specs.Prelude.{◌≡◌, ℕ, ◌+◌, ◌<◌, List, [], ◌∷◌, ◌++◌, length, codes, Option, Some, None}
use Rattle.scj_base.specs.declared.findings.Found.{Found}
use Rattle.scj_base.specs.declared.statuses.Status.{Status}
use Rattle.scj_base.specs.declared.statuses.Status.TheVariants.{Done, Refused, Usage, PlanRefused}
use Rattle.scj_tree.specs.Forest.{Forest}
use Rattle.scj_rules.specs.Syntax.{Reads, BreaksSyntax}
use Rattle.scj_rules.specs.Verdicts.{IsReportOf}
use Rattle.scj_show.specs.Symbols.{text_of_file}
use Rattle.source_gen.specs.Generated.{source_of, plan_of}
use Rattle.command_line.specs.Job.{Job, Check, Run, Areas, Show, Gen, Respond, Confirm, Faults, Audit, Migrate, Bounds}
use Rattle.scj_model.specs.Code.{code_of}
use Rattle.scj_model.specs.Plan.{Plan}
use Rattle.certain_faults.specs.declared.found.CertainFault.{CertainFault}
use Rattle.certain_faults.specs.Report.{IsFaultReport}
use Rattle.response_times.specs.DeclaredOf.{declared_of_text}
use Rattle.run_plan.specs.PlanOf.{Refusal, meaning_of_text, plan as means_plan, refused as means_none}
use Rattle.run_plan.specs.NewTable.{IsTextOf, new_table}
use Rattle.scj_cli.specs.AreaOutcomes.{areas_out}
use Rattle.scj_cli.specs.Audits.{audit_status, audit_out, audit_err}
use Rattle.scj_cli.specs.BoundLists.{IsBoundList}
use Rattle.scj_cli.specs.DeclaredRows.{declared_status, respond_out, confirm_out, declared_err}
use Rattle.scj_cli.specs.FaultLists.{fault_list}
use Rattle.scj_cli.specs.Jobs.{sources_among, plan_among}
use Rattle.scj_cli.specs.Outcomes.{Outcome, ComesTo, run_status, run_out, run_err, gen_out, plan_line}
use Rattle.scj_cli.specs.Reports.{report_text}

abbrev pub usage_line : List ℕ
usage_line = codes "scj: usage\n"

abbrev pub accepted_line : List ℕ
accepted_line = codes "accepted\n"

-- the canonical texts of some files of a program, the first of them with this number, one behind the other
unfoldable pub shown_from : Forest → ℕ → List (List ℕ) → List ℕ
shown_from forest file [] = []
shown_from forest file (classes ∷ more) = text_of_file forest file ++ shown_from forest (file + 1) more

-- the canonical texts of all files
abbrev pub shown_text : Forest → List ℕ
shown_text forest = shown_from forest 0 forest.files

-- the status and the texts on `out` and on `err` that a job has on these contents of its files
pub data Answer : Option Job → List (List ℕ) → Status → List ℕ → List ℕ → Type 0 where
  no_job : {contents : List (List ℕ)} →
      Answer None contents Usage [] usage_line
  refused : {names contents : List (List ℕ)} {found : List Found} →
      0 < length found → IsReportOf contents found →
      Answer (Some (Check names)) contents Refused (report_text names found) []
  accepted : {names contents : List (List ℕ)} →
      IsReportOf contents [] →
      Answer (Some (Check names)) contents Done accepted_line []
  ran : {plan : List ℕ} {names contents : List (List ℕ)} {outcome : Outcome} →
      ComesTo (sources_among names contents) (plan_among names contents) outcome →
      Answer (Some (Run plan names)) contents (run_status outcome) (run_out names outcome) (run_err outcome)
  needed : {plan : List ℕ} {names contents : List (List ℕ)} {outcome : Outcome} →
      ComesTo (sources_among names contents) (plan_among names contents) outcome →
      Answer (Some (Areas plan names)) contents (run_status outcome) (areas_out names outcome) (run_err outcome)
  show_unreadable : {names contents : List (List ℕ)} {found : Found} →
      BreaksSyntax contents found →
      Answer (Some (Show names)) contents Refused (report_text names (found ∷ [])) []
  shown : {names contents : List (List ℕ)} {forest : Forest} →
      Reads contents forest →
      Answer (Some (Show names)) contents Done (shown_text forest) []
  generated : {contents : List (List ℕ)} {size : ℕ} {outcome : Outcome} →
      ComesTo (source_of size ∷ []) (plan_of size) outcome →
      Answer (Some (Gen size)) contents (run_status outcome) (gen_out size outcome) (run_err outcome)
  responded : {plan text : List ℕ} →
      Answer (Some (Respond plan)) (text ∷ []) (declared_status (declared_of_text text))
      (respond_out (declared_of_text text)) (declared_err (declared_of_text text))
  confirmed : {plan text : List ℕ} →
      Answer (Some (Confirm plan)) (text ∷ []) (declared_status (declared_of_text text))
      (confirm_out (declared_of_text text)) (declared_err (declared_of_text text))
  faults_of_none : {names contents : List (List ℕ)} {found : List Found} →
      0 < length found → IsReportOf contents found →
      Answer (Some (Faults names)) contents Refused (report_text names found) []
  faults_listed : {names contents : List (List ℕ)} {forest : Forest} {faults : List CertainFault} →
      IsReportOf contents [] → Reads contents forest → IsFaultReport (code_of forest) faults →
      Answer (Some (Faults names)) contents Done (fault_list names faults) []
  audited : {plan trace plan_text trace_text : List ℕ} →
      Answer (Some (Audit plan trace)) (trace_text ∷ plan_text ∷ []) (audit_status (meaning_of_text plan_text))
      (audit_out trace_text (meaning_of_text plan_text)) (audit_err (meaning_of_text plan_text))
  not_migrated : {plan text : List ℕ} {refusal : Refusal} →
      meaning_of_text text ≡ means_none refusal →
      Answer (Some (Migrate plan)) (text ∷ []) PlanRefused [] (plan_line refusal)
  migrated : {plan text again : List ℕ} {p : Plan} →
      meaning_of_text text ≡ means_plan p → IsTextOf (new_table p) again →
      Answer (Some (Migrate plan)) (text ∷ []) Done again []
  bounds_of_none : {names contents : List (List ℕ)} {found : List Found} →
      0 < length found → IsReportOf contents found →
      Answer (Some (Bounds names)) contents Refused (report_text names found) []
  bounds_listed : {names contents : List (List ℕ)} {forest : Forest} {text : List ℕ} →
      IsReportOf contents [] → Reads contents forest → IsBoundList forest names text →
      Answer (Some (Bounds names)) contents Done text []

-- two texts on `out` of a job are the same; or they are two spellings of one migrated plan
pub data IsSameText : Option Job → List ℕ → List ℕ → Type 0 where
  same : {job : Option Job} {text : List ℕ} → IsSameText job text text
  spellings : {plan text again : List ℕ} (p : Plan) →
      IsTextOf (new_table p) text → IsTextOf (new_table p) again →
      IsSameText (Some (Migrate plan)) text again

-- two answers of a job are the same, but for the spelling of a migrated plan
pub record IsSameAnswer (job : Option Job) (status : Status) (out err : List ℕ) (status_again : Status)
    (out_again err_again : List ℕ) : Type 0 where
  pub same_status : status ≡ status_again
  pub same_out : IsSameText job out out_again
  pub same_err : err ≡ err_again
