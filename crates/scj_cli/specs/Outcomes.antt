-- What a run comes to: a report on the sources, a refusal of the plan's text, or a trace.
use Rattle.std.specs.Prelude.{◌≡◌, ℕ, ◌<◌, List, [], ◌∷◌, ◌++◌, length, codes, Option, Some}
use Rattle.scj_base.specs.declared.findings.Found.{Found}
use Rattle.scj_base.specs.declared.statuses.Status.{Status}
use Rattle.scj_base.specs.declared.statuses.Status.TheVariants as status
use Rattle.scj_tree.specs.Forest.{Forest}
use Rattle.scj_rules.specs.Syntax.{Reads}
use Rattle.scj_rules.specs.Verdicts.{IsReportOf}
use Rattle.scj_model.specs.Plan.{Plan}
use Rattle.run_plan.specs.PlanOf.{Refusal, not_toml, bad_key, bad_value, meaning_of_text, plan, refused}
use Rattle.plain_machine.specs.declared.runs.RunEnd.{RunEnd}
use Rattle.plain_machine.specs.declared.runs.RunEnd.TheVariants.{Halted}
use Rattle.plain_machine.specs.Ends.{end_of}
use Rattle.plain_machine.specs.Runs.{trace_of, trace_text}
use Rattle.scj_cli.specs.Keys.{shown_key}
use Rattle.scj_cli.specs.Reports.{report_text}
use Rattle.scj_cli.specs.Summaries.{summary_text}

-- the findings of a report that isn't empty; why a text is no plan; or the program and the plan that run
pub data Outcome : Type 0 where
  Reported : List Found → Outcome
  Unplanned : Refusal → Outcome
  Ran : Forest → Plan → Outcome

-- what a run of the program of these texts by this text of a plan comes to: the report is asked first, then the plan
pub data ComesTo (texts : List (List ℕ)) (plan_text : List ℕ) : Outcome → Type 0 where
  breaks_rules : {found : List Found} →
      0 < length found → IsReportOf texts found →
      ComesTo texts plan_text (Reported found)
  has_no_plan : {refusal : Refusal} →
      IsReportOf texts [] → meaning_of_text plan_text ≡ refused refusal →
      ComesTo texts plan_text (Unplanned refusal)
  runs : {forest : Forest} {p : Plan} →
      IsReportOf texts [] → Reads texts forest → meaning_of_text plan_text ≡ plan p →
      ComesTo texts plan_text (Ran forest p)

-- ---- the status

-- by the end of the trace
abbrev pub status_of_end : Option RunEnd → Status
status_of_end (Some Halted) = status.Halted
status_of_end _ = status.Done

abbrev pub run_status : Outcome → Status
run_status (Reported found) = status.Refused
run_status (Unplanned refusal) = status.PlanRefused
run_status (Ran forest p) = status_of_end (end_of (trace_of forest p))

-- ---- the texts

-- the line that tells why a text is no plan
unfoldable pub plan_line : Refusal → List ℕ
plan_line not_toml = codes "scj: plan not toml\n"
plan_line (bad_key key) = codes "scj: plan bad key " ++ (shown_key key ++ codes "\n")
plan_line (bad_value key) = codes "scj: plan bad value " ++ (shown_key key ++ codes "\n")

-- on `out`, of a run of the files of these names
abbrev pub run_out : List (List ℕ) → Outcome → List ℕ
run_out names (Reported found) = report_text names found
run_out names (Unplanned refusal) = []
run_out names (Ran forest p) = trace_text forest p names

-- the file of a generated program has this name
abbrev pub generated_names : List (List ℕ)
generated_names = codes "gen" ∷ []

-- on `out`, of a run of the generated program of this size
abbrev pub gen_out : ℕ → Outcome → List ℕ
gen_out size (Reported found) = report_text generated_names found
gen_out size (Unplanned refusal) = []
gen_out size (Ran forest p) = summary_text size (trace_text forest p generated_names)

-- on `err`
abbrev pub run_err : Outcome → List ℕ
run_err (Reported found) = []
run_err (Unplanned refusal) = plan_line refusal
run_err (Ran forest p) = []
