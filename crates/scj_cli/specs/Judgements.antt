-- What is judged before a run, and what the run leaves.
use Rattle.std.specs.Prelude.{◌≡◌, ℕ, List, length, string_bytes}
use Rattle.scj_base.specs.declared.findings.Found.{Found}
use Rattle.scj_base.specs.declared.statuses.Status.{Status}
use Rattle.scj_io.specs.Puts.{SinkRun, PutWhole, PutFront}
use Rattle.scj_tree.specs.Forest.{Forest}
use Rattle.scj_model.specs.Plan.{Plan}
use Rattle.run_plan.specs.PlanOf.{Refusal as PlanRefusal, Meaning, refused}
use Rattle.plain_machine.specs.Runs.{PutPart, trace_text}
use Rattle.response_times.specs.DeclaredOf.{DeclaredMeaning, refused as no_rows}
use Rattle.scj_cli.specs.Outcomes.{ComesTo, Reported, Unplanned, Ran, plan_line, run_status}
use Rattle.scj_cli.specs.Reports.{report_text}
use Rattle.scj_cli.specs.declared.refusals.Refusal.{Refusal}
use Rattle.scj_cli.specs.declared.refusals.Refusal.TheVariants as refusal
use Rattle.scj_cli.specs.declared.refusals.ModeError.{ModeError}
use Rattle.scj_cli.specs.declared.refusals.ModeError.TheVariants.{Told, Broken}
use Rattle.scj_cli.specs.declared.runnables.Judged.{Judged}
use Rattle.scj_cli.specs.declared.runnables.Judged.TheVariants as judged

-- the refusal tells why the text of a plan is none
abbrev pub RefusesPlan : Meaning → Refusal → Type 0
RefusesPlan meaning (refusal.Unplanned line) =
    (why : PlanRefusal) × (meaning ≡ refused why) × (line.items ≡ plan_line why)
RefusesPlan meaning refusal.OutOfMemory = Unit {0}
RefusesPlan meaning _ = ⊥

-- the refusal tells why the text has no declared rows
abbrev pub RefusesDeclared : DeclaredMeaning → Refusal → Type 0
RefusesDeclared meaning (refusal.Unplanned line) =
    (why : PlanRefusal) × (meaning ≡ no_rows why) × (line.items ≡ plan_line why)
RefusesDeclared meaning refusal.OutOfMemory = Unit {0}
RefusesDeclared meaning _ = ⊥

-- the report, or what runs with the names of its files
abbrev pub IsJudged : List (List ℕ) → List (List ℕ) → List ℕ → Judged → Type 0
IsJudged names texts plan_text (judged.Reported text) =
    (found : List Found) × ComesTo texts plan_text (Reported found) × (string_bytes text ≡ report_text names found)
IsJudged names texts plan_text (judged.Ready runnable) =
    ComesTo texts plan_text (Ran runnable.checked.program runnable.plan)
    × (runnable.files ≡ names)
    × (length runnable.checked.program.files ≡ length runnable.files)

-- there is no run: the text is no plan, or memory ran out
abbrev pub RefusesRun : List (List ℕ) → List ℕ → Refusal → Type 0
RefusesRun texts plan_text (refusal.Unplanned line) =
    (why : PlanRefusal) × ComesTo texts plan_text (Unplanned why) × (line.items ≡ plan_line why)
RefusesRun texts plan_text refusal.OutOfMemory = Unit {0}
RefusesRun texts plan_text _ = ⊥

-- what a run of the program leaves: the whole trace and the status of its end
pub record HasRun (forest : Forest) (plan : Plan) (names : List (List ℕ)) (out : SinkRun) (status : Status) : Type 0
  where
    pub put : PutWhole out (trace_text forest plan names)
    pub reported : status ≡ run_status (Ran forest plan)

-- or a front of the trace, where memory ran out or a put failed
abbrev pub StopsRun : Forest → Plan → List (List ℕ) → SinkRun → ModeError → Type 0
StopsRun forest plan names out (Told refusal.OutOfMemory) = PutPart out (trace_text forest plan names)
StopsRun forest plan names out (Told _) = ⊥
StopsRun forest plan names out Broken = PutFront out (trace_text forest plan names)
