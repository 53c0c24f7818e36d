-- From what is judged of a run, and what it leaves, to the answer of its job.
use Rattle.std.proofs.Common.{◌≡◌, ℕ, suc, ◌+◌, List, [], ◌∷◌, ◌++◌, length, Some, refl, sym, ap, ◌∙◌, subst, map, length-append, arith}
use Rattle.std.proofs.lemmas.List.{take_at, get_or_push, length-map}
use Rattle.scj_base.specs.declared.statuses.Status.{Status}
use Rattle.scj_base.specs.declared.statuses.Status.TheVariants.{Refused}
use Rattle.scj_base.specs.declared.findings.Found.{Found}
use Rattle.scj_io.specs.Loads.{ShelfRun}
use Rattle.scj_io.specs.Puts.{SinkRun, PutWhole, PutFront}
use Rattle.scj_tree.specs.Forest.{Forest}
use Rattle.scj_tree.specs.Lexemes.{Lexeme}
use Rattle.scj_rules.specs.Phases.{IsAccepted, nowhere}
use Rattle.scj_rules.specs.Syntax.{HaveLexemes, no_text, next_text, FilesRead, no_file, next_file, Reads}
use Rattle.scj_rules.specs.Verdicts.{IsReportOf, in_program}
use Rattle.scj_model.specs.Plan.{Plan}
use Rattle.run_plan.specs.PlanOf.{meaning_of_text, plan}
use Rattle.command_line.specs.Job.{Run}
use Rattle.plain_machine.specs.Runs.{PutPart, trace_text}
use Rattle.scj_check.specs.Texts.{texts_of}
use Rattle.scj_cli.specs.Jobs.{one_limit}
use Rattle.scj_cli.specs.Reports.{report_text}
use Rattle.scj_cli.specs.Answers.{Answer}
use Rattle.scj_cli.specs.Answers.Answer.{ran}
use Rattle.scj_cli.specs.Outcomes.{Outcome, Reported, Ran, ComesTo, has_no_plan, runs, run_status, run_out, run_err}
use Rattle.scj_cli.specs.Endings.{MayStand, IsCutShort}
use Rattle.scj_cli.specs.Endings.Comes.{answered}
use Rattle.scj_cli.specs.Endings.IsCutShort.{in_run}
use Rattle.scj_cli.specs.Judgements.{RefusesPlan, RefusesRun, HasRun, StopsRun}
use Rattle.scj_cli.specs.Modes.{IsAnswered, Stops, RefusesForm}
use Rattle.scj_cli.specs.Modes.Stops.{broken, cut_short}
use Rattle.scj_cli.specs.declared.refusals.Refusal.{Refusal}
use Rattle.scj_cli.specs.declared.refusals.Refusal.TheVariants.{Usage, Unread, Overlong, Unplanned, OutOfMemory}
use Rattle.scj_cli.specs.declared.refusals.ModeError.{ModeError}
use Rattle.scj_cli.specs.declared.refusals.ModeError.TheVariants.{Told, Broken}

-- ---- accepted texts

lexeme_count : {file : ℕ} {texts : List (List ℕ)} {lexemes : List (List Lexeme)} → HaveLexemes file texts lexemes →
    length lexemes ≡ length texts
lexeme_count no_text = refl
lexeme_count (next_text l h) = ap suc (lexeme_count h)

files_grow : {before after : Forest} {lexemes : List (List Lexeme)} → FilesRead before lexemes after →
    length after.files ≡ length before.files + length lexemes
files_grow no_file = omega arith
files_grow {before} (next_file r d) =
    omega (arith, files_grow d, ap length r.files, length-append before.files (r.classes ∷ []))

-- a program has a file for each of its texts
pub file_count : {texts : List (List ℕ)} {forest : Forest} → Reads texts forest → length forest.files ≡ length texts
file_count {texts} {forest} reads =
    let grown : length forest.files ≡ 0 + length reads.lexemes = files_grow reads.files_read in
    omega (arith, lexeme_count reads.have_lexemes)

pub report_is_empty : {texts : List (List ℕ)} {forest : Forest} → Reads texts forest → IsAccepted forest →
    IsReportOf texts []
report_is_empty reads accepted = in_program reads (nowhere accepted)

-- ---- the contents of the files of a run

pub ran_of : {plan plan_text : List ℕ} {names texts : List (List ℕ)} {outcome : Outcome} →
    length texts ≡ length names → ComesTo texts plan_text outcome →
    Answer (Some (Run plan names)) (texts ++ plan_text ∷ []) (run_status outcome) (run_out names outcome)
    (run_err outcome)
ran_of {plan_text = plan_text} {texts = texts} count comes =
    ran (rw (take_at texts (plan_text ∷ []) _ count, get_or_push texts plan_text [] _ count) comes)

cut_of : {out : SinkRun} {plan plan_text : List ℕ} {names texts : List (List ℕ)} {forest : Forest} {p : Plan} →
    length texts ≡ length names → ComesTo texts plan_text (Ran forest p) → PutPart out (trace_text forest p names) →
    IsCutShort out (Some (Run plan names)) (texts ++ plan_text ∷ [])
cut_of {plan_text = plan_text} {texts = texts} count comes put =
    in_run (rw (take_at texts (plan_text ∷ []) _ count, get_or_push texts plan_text [] _ count) comes) put

-- ---- from the judgement to the answer

pub form_of_run : (plan plan_text : List ℕ) (names texts : List (List ℕ)) (refusal : Refusal) →
    length texts ≡ length names → RefusesRun texts plan_text refusal →
    RefusesForm (Run plan names) (texts ++ plan_text ∷ []) refusal
form_of_run _ _ _ _ Usage count refuses = absurd refuses
form_of_run _ _ _ _ (Unread line) count refuses = absurd refuses
form_of_run _ _ _ _ (Overlong line) count refuses = absurd refuses
form_of_run _ _ _ _ (Unplanned line) count refuses = rw refuses.2 (ran_of count refuses.1)
form_of_run _ _ _ _ OutOfMemory count refuses = tt

-- ---- from what the run leaves to the answer

pub answered_by_run : {shelf : ShelfRun} {out : SinkRun} {plan plan_text : List ℕ} {names texts : List (List ℕ)}
    {forest : Forest} {p : Plan} {status : Status} →
    MayStand shelf one_limit (names ++ plan ∷ []) (texts ++ plan_text ∷ []) → length texts ≡ length names →
    ComesTo texts plan_text (Ran forest p) → HasRun forest p names out status →
    IsAnswered (Some (Run plan names)) shelf out status
answered_by_run stands count comes has =
    record { text = _; comes = rw has.reported (answered stands (ran_of count comes)); put = has.put }

pub stopped_by_run : {shelf : ShelfRun} {out : SinkRun} {plan plan_text : List ℕ} {names texts : List (List ℕ)}
    {forest : Forest} {p : Plan} (stop : ModeError) → MayStand shelf one_limit (names ++ plan ∷ []) (texts ++ plan_text ∷ []) →
    length texts ≡ length names → ComesTo texts plan_text (Ran forest p) → StopsRun forest p names out stop →
    Stops (Some (Run plan names)) shelf out stop
stopped_by_run (Told Usage) stands count comes stops = absurd stops
stopped_by_run (Told (Unread line)) stands count comes stops = absurd stops
stopped_by_run (Told (Overlong line)) stands count comes stops = absurd stops
stopped_by_run (Told (Unplanned line)) stands count comes stops = absurd stops
stopped_by_run (Told OutOfMemory) stands count comes stops = cut_short stands (cut_of count comes stops)
stopped_by_run Broken stands count comes stops = broken (answered stands (ran_of count comes)) stops

-- ---- the report of a run

pub answered_by_report : {shelf : ShelfRun} {out : SinkRun} {plan plan_text text : List ℕ}
    {names texts : List (List ℕ)} {found : List Found} → MayStand shelf one_limit (names ++ plan ∷ []) (texts ++ plan_text ∷ []) →
    length texts ≡ length names → ComesTo texts plan_text (Reported found) → text ≡ report_text names found →
    PutWhole out text → IsAnswered (Some (Run plan names)) shelf out Refused
answered_by_report {out = out} stands count comes is put =
    record {
      text = _;
      comes = answered stands (ran_of count comes);
      put = subst (λ (bytes : List ℕ). PutWhole out bytes) is put;
    }

pub broken_at_report : {shelf : ShelfRun} {out : SinkRun} {plan plan_text text : List ℕ}
    {names texts : List (List ℕ)} {found : List Found} → MayStand shelf one_limit (names ++ plan ∷ []) (texts ++ plan_text ∷ []) →
    length texts ≡ length names → ComesTo texts plan_text (Reported found) → text ≡ report_text names found →
    PutFront out text → Stops (Some (Run plan names)) shelf out Broken
broken_at_report {out = out} stands count comes is put =
    broken (answered stands (ran_of count comes)) (subst (λ (bytes : List ℕ). PutFront out bytes) is put)

-- as many texts as names
pub texts_count : {X : Type 0} (f : X → List ℕ) (sources : List (List ℕ × List ℕ)) (names : List X) →
    length sources ≡ length names → length (texts_of sources) ≡ length (map f names)
texts_count f sources names same =
    length-map sources (λ s. s.1) ∙ (same ∙ sym (length-map names f))

-- ---- the judgement

pub ready : {texts names files : List (List ℕ)} {plan_text : List ℕ} {forest : Forest} {p : Plan} → Reads texts forest →
    IsAccepted forest → meaning_of_text plan_text ≡ plan p → files ≡ names → length texts ≡ length names →
    ComesTo texts plan_text (Ran forest p) × (files ≡ names) × (length forest.files ≡ length files)
ready reads accepted planned named count =
    (runs (report_is_empty reads accepted) reads planned, named, file_count reads ∙ (count ∙ ap length (sym named)))

pub refused_run : (texts : List (List ℕ)) (plan_text : List ℕ) (refusal : Refusal) → IsReportOf texts [] →
    RefusesPlan (meaning_of_text plan_text) refusal → RefusesRun texts plan_text refusal
refused_run _ _ Usage none refuses = absurd refuses
refused_run _ _ (Unread line) none refuses = absurd refuses
refused_run _ _ (Overlong line) none refuses = absurd refuses
refused_run _ _ (Unplanned line) none refuses = (refuses.0, has_no_plan none refuses.1, refuses.2)
refused_run _ _ OutOfMemory none refuses = tt
