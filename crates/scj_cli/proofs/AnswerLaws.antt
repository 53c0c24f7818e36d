-- A job has one answer at most on the contents of its files, but for the spelling of a migrated plan.
use Rattle.std.proofs.Common.{◌≡◌, ◌<◌, ℕ, List, [], ◌∷◌, length, Option, Some, refl, sym, ◌∙◌, ap, subst, arith}
use Rattle.scj_base.specs.declared.statuses.Status.{Status}
use Rattle.scj_base.specs.declared.findings.Found.{Found}
use Rattle.scj_tree.specs.Forest.{Forest, forest_of}
use Rattle.scj_rules.specs.Syntax.{Reads, BreaksSyntax}
use Rattle.scj_check.proofs.SyntaxLaws.{one_program, one_break_reported, program_or_break}
use Rattle.scj_check.proofs.VerdictLaws.{one_report_of_texts}
use Rattle.scj_model.specs.Plan.{Plan}
use Rattle.run_plan.specs.PlanOf.{Meaning, Refusal, plan, refused as no_plan}
use Rattle.run_plan.specs.NewTable.{IsTextOf, new_table}
use Rattle.scj_model.specs.Code.{code_of}
use Rattle.certain_faults.specs.declared.found.CertainFault.{CertainFault}
use Rattle.certain_faults.specs.Report.{IsFaultReport}
use Rattle.certain_faults.proofs.Reports.{one_fault_report}
use Rattle.command_line.specs.Job.{Job, Migrate}
use Rattle.scj_cli.specs.Answers.{Answer, IsSameAnswer, IsSameText, shown_text}
use Rattle.scj_cli.specs.Answers.Answer.{no_job, refused, accepted, ran, show_unreadable, shown, generated, responded, confirmed, faults_of_none, faults_listed, audited, not_migrated, migrated, bounds_of_none, bounds_listed, needed}
use Rattle.scj_cli.specs.AreaOutcomes.{areas_out}
use Rattle.scj_cli.specs.Answers.IsSameText.{same, spellings}
use Rattle.scj_cli.specs.Outcomes.{Outcome, Reported, Unplanned, ComesTo, breaks_rules, has_no_plan, runs, run_status, run_out, run_err, gen_out, plan_line}
use Rattle.scj_cli.specs.FaultLists.{fault_list}
use Rattle.scj_cli.specs.Reports.{report_text}
use Rattle.scj_cli.specs.BoundLists.{IsBoundList}
use Rattle.scj_cli.proofs.BoundLaws.{one_bound_list}

one_forest : (contents : List (List ℕ)) (forest other : Forest) → Reads contents forest → Reads contents other →
    forest ≡ other
one_forest contents = one_program 0 (forest_of [] []) contents

one_found : (contents : List (List ℕ)) (found other : Found) → BreaksSyntax contents found →
    BreaksSyntax contents other → found ≡ other
one_found contents = one_break_reported 0 (forest_of [] []) contents

not_both : {A : Type 0} (contents : List (List ℕ)) (forest : Forest) (found : Found) → Reads contents forest →
    BreaksSyntax contents found → A
not_both contents forest found reads breaks =
    absurd (program_or_break 0 (forest_of [] []) contents forest found reads breaks)

-- a report is empty, or it isn't
some_found : {A : Type 0} (found : List Found) → 0 < length found → found ≡ [] → A
some_found found some e = absurd (omega (arith, some, ap length e))

same_refusal : (meaning : Meaning) (a b : Refusal) → meaning ≡ no_plan a → meaning ≡ no_plan b → a ≡ b
same_refusal meaning a b is is_again = let both : no_plan a ≡ no_plan b = sym is ∙ is_again in cc

same_plan : (meaning : Meaning) (a b : Plan) → meaning ≡ plan a → meaning ≡ plan b → a ≡ b
same_plan meaning a b is is_again = let both : plan a ≡ plan b = sym is ∙ is_again in cc

plan_or_refusal : {A : Type 0} (meaning : Meaning) (refusal : Refusal) (p : Plan) → meaning ≡ no_plan refusal →
    meaning ≡ plan p → A
plan_or_refusal meaning refusal p is is_again = let both : no_plan refusal ≡ plan p = sym is ∙ is_again in absurd (cc)

-- a run comes to one outcome at most
one_outcome : {texts : List (List ℕ)} {plan_text : List ℕ} {a b : Outcome} → ComesTo texts plan_text a →
    ComesTo texts plan_text b → a ≡ b
one_outcome (breaks_rules some report) (breaks_rules some_again report_again) =
    ap Reported (one_report_of_texts report report_again)
one_outcome (breaks_rules some report) (has_no_plan none is) = some_found _ some (one_report_of_texts report none)
one_outcome (breaks_rules some report) (runs none reads is) = some_found _ some (one_report_of_texts report none)
one_outcome (has_no_plan none is) (breaks_rules some report) = some_found _ some (one_report_of_texts report none)
one_outcome (has_no_plan none is) (has_no_plan none_again is_again) = ap Unplanned (same_refusal _ _ _ is is_again)
one_outcome (has_no_plan none is) (runs none_again reads is_again) = plan_or_refusal _ _ _ is is_again
one_outcome (runs none reads is) (breaks_rules some report) = some_found _ some (one_report_of_texts report none)
one_outcome (runs none reads is) (has_no_plan none_again is_again) = plan_or_refusal _ _ _ is_again is
one_outcome (runs none reads is) (runs none_again reads_again is_again) =
    rw (one_forest _ _ _ reads reads_again, same_plan _ _ _ is is_again) refl

is_same : {job : Option Job} {out again : List ℕ} → out ≡ again → IsSameText job out again
is_same e = rw e same

same_outcome : {job : Option Job} {a b : Outcome} → a ≡ b → (out : Outcome → List ℕ) →
    IsSameAnswer job (run_status a) (out a) (run_err a) (run_status b) (out b) (run_err b)
same_outcome e out = record { same_status = ap run_status e; same_out = is_same (ap out e); same_err = ap run_err e }

same_text : {job : Option Job} {status : Status} {out again err : List ℕ} → out ≡ again →
    IsSameAnswer job status out err status again err
same_text e = record { same_status = refl; same_out = is_same e; same_err = refl }

same_reported : {job : Option Job} {status : Status} {out err again : List ℕ} → err ≡ again →
    IsSameAnswer job status out err status out again
same_reported e = record { same_status = refl; same_out = same; same_err = e }

same_plan_text : {name : List ℕ} {status : Status} {out again err : List ℕ} {p q : Plan} → p ≡ q →
    IsTextOf (new_table p) out → IsTextOf (new_table q) again →
    IsSameAnswer (Some (Migrate name)) status out err status again err
same_plan_text {p = p} e text text_again =
    record { same_status = refl; same_out = spellings p text (rw e text_again); same_err = refl }

-- the list of the faults of texts that are read
one_list : (contents : List (List ℕ)) (forest other : Forest) (faults again : List CertainFault) →
    Reads contents forest → Reads contents other → IsFaultReport (code_of forest) faults →
    IsFaultReport (code_of other) again → faults ≡ again
one_list contents forest other faults again reads reads_again report report_again =
    one_fault_report _ _ _ report (subst (λ (read : Forest). IsFaultReport (code_of read) again)
    (one_forest contents other forest reads_again reads) report_again)

-- the bounds of texts that are read
one_reported : (contents names : List (List ℕ)) (forest other : Forest) (text again : List ℕ) → Reads contents forest →
    Reads contents other → IsBoundList forest names text → IsBoundList other names again → text ≡ again
one_reported contents names forest other text again reads reads_again is is_again =
    one_bound_list contents forest names text again reads is
    (subst (λ (read : Forest). IsBoundList read names again)
    (one_forest contents other forest reads_again reads) is_again)

pub one_answer_of : {job : Option Job} {contents : List (List ℕ)} {status status_again : Status}
    {out err out_again err_again : List ℕ} → Answer job contents status out err →
    Answer job contents status_again out_again err_again →
    IsSameAnswer job status out err status_again out_again err_again
one_answer_of no_job no_job = same_text refl
one_answer_of (refused {names = names} some report) (refused some_again report_again) =
    same_text (ap (λ (found : List Found). report_text names found) (one_report_of_texts report report_again))
one_answer_of (refused some report) (accepted none) = some_found _ some (one_report_of_texts report none)
one_answer_of (accepted none) (refused some report) = some_found _ some (one_report_of_texts report none)
one_answer_of (accepted none) (accepted none_again) = same_text refl
one_answer_of (ran {names = names} comes) (ran comes_again) =
    same_outcome (one_outcome comes comes_again) (run_out names)
one_answer_of (needed {names = names} comes) (needed comes_again) =
    same_outcome (one_outcome comes comes_again) (areas_out names)
one_answer_of (show_unreadable {names = names} breaks) (show_unreadable breaks_again) =
    same_text (ap (λ (found : Found). report_text names (found ∷ [])) (one_found _ _ _ breaks breaks_again))
one_answer_of (show_unreadable breaks) (shown reads) = not_both _ _ _ reads breaks
one_answer_of (shown reads) (show_unreadable breaks) = not_both _ _ _ reads breaks
one_answer_of (shown reads) (shown reads_again) = same_text (ap shown_text (one_forest _ _ _ reads reads_again))
one_answer_of (generated {size = size} comes) (generated comes_again) =
    same_outcome (one_outcome comes comes_again) (gen_out size)
one_answer_of responded responded = same_text refl
one_answer_of confirmed confirmed = same_text refl
one_answer_of (faults_of_none {names = names} some report) (faults_of_none some_again report_again) =
    same_text (ap (λ (found : List Found). report_text names found) (one_report_of_texts report report_again))
one_answer_of (faults_of_none some report) (faults_listed none reads faults) =
    some_found _ some (one_report_of_texts report none)
one_answer_of (faults_listed none reads faults) (faults_of_none some report) =
    some_found _ some (one_report_of_texts report none)
one_answer_of (faults_listed {names = names} none reads faults) (faults_listed none_again reads_again again) =
    same_text (ap (fault_list names) (one_list _ _ _ _ _ reads reads_again faults again))
one_answer_of audited audited = same_text refl
one_answer_of (not_migrated is) (not_migrated is_again) = same_reported (ap plan_line (same_refusal _ _ _ is is_again))
one_answer_of (not_migrated is) (migrated is_again text) = plan_or_refusal _ _ _ is is_again
one_answer_of (migrated is text) (not_migrated is_again) = plan_or_refusal _ _ _ is_again is
one_answer_of (migrated is text) (migrated is_again text_again) =
    same_plan_text (same_plan _ _ _ is is_again) text text_again
one_answer_of (bounds_of_none {names = names} some report) (bounds_of_none some_again report_again) =
    same_text (ap (λ (found : List Found). report_text names found) (one_report_of_texts report report_again))
one_answer_of (bounds_of_none some report) (bounds_listed none reads is) =
    some_found _ some (one_report_of_texts report none)
one_answer_of (bounds_listed none reads is) (bounds_of_none some report) =
    some_found _ some (one_report_of_texts report none)
one_answer_of (bounds_listed none reads is) (bounds_listed none_again reads_again is_again) =
    same_text (one_reported _ _ _ _ _ _ reads reads_again is is_again)
