-- From what is judged of a run that tells its memory areas, and what it leaves, to the answer of its job.
use Rattle.std.proofs.Common.{◌≡◌, ℕ, List, [], ◌∷◌, ◌++◌, length, Some}
use Rattle.std.proofs.lemmas.List.{take_at, get_or_push}
use Rattle.scj_base.specs.declared.findings.Found.{Found}
use Rattle.scj_base.specs.declared.statuses.Status.{Status}
use Rattle.scj_base.specs.declared.statuses.Status.TheVariants as status
use Rattle.scj_tree.specs.Forest.{Forest}
use Rattle.scj_model.specs.Plan.{Plan}
use Rattle.command_line.specs.Job.{Areas}
use Rattle.plain_machine.specs.AreaTexts.{areas_text}
use Rattle.scj_cli.specs.Answers.{Answer}
use Rattle.scj_cli.specs.Answers.Answer.{needed}
use Rattle.scj_cli.specs.AreaOutcomes.{areas_out}
use Rattle.scj_cli.specs.Judgements.{RefusesRun}
use Rattle.scj_cli.specs.Modes.{RefusesForm}
use Rattle.scj_cli.specs.Outcomes.{Outcome, Reported, Ran, ComesTo, run_status, run_err}
use Rattle.scj_cli.specs.Reports.{report_text}
use Rattle.scj_cli.specs.declared.refusals.Refusal.{Refusal}
use Rattle.scj_cli.specs.declared.refusals.Refusal.TheVariants.{Usage, Unread, Overlong, Unplanned, OutOfMemory}

needed_of : {plan plan_text : List ℕ} {names texts : List (List ℕ)} {outcome : Outcome} →
    length texts ≡ length names → ComesTo texts plan_text outcome →
    Answer (Some (Areas plan names)) (texts ++ plan_text ∷ []) (run_status outcome) (areas_out names outcome)
    (run_err outcome)
needed_of {plan_text = plan_text} {texts = texts} count comes =
    needed (rw (take_at texts (plan_text ∷ []) _ count, get_or_push texts plan_text [] _ count) comes)

pub form_of_areas : (plan plan_text : List ℕ) (names texts : List (List ℕ)) (refusal : Refusal) →
    length texts ≡ length names → RefusesRun texts plan_text refusal →
    RefusesForm (Areas plan names) (texts ++ plan_text ∷ []) refusal
form_of_areas _ _ _ _ Usage count refuses = absurd refuses
form_of_areas _ _ _ _ (Unread line) count refuses = absurd refuses
form_of_areas _ _ _ _ (Overlong line) count refuses = absurd refuses
form_of_areas _ _ _ _ (Unplanned line) count refuses = rw refuses.2 (needed_of count refuses.1)
form_of_areas _ _ _ _ OutOfMemory count refuses = tt

pub areas_report : {plan plan_text text : List ℕ} {names texts : List (List ℕ)} {found : List Found} →
    length texts ≡ length names → ComesTo texts plan_text (Reported found) → text ≡ report_text names found →
    Answer (Some (Areas plan names)) (texts ++ plan_text ∷ []) status.Refused text []
areas_report count comes is = rw is (needed_of count comes)

pub areas_reported : {plan plan_text text : List ℕ} {names texts : List (List ℕ)} {forest : Forest} {p : Plan}
    {reported : Status} → length texts ≡ length names → ComesTo texts plan_text (Ran forest p) →
    reported ≡ run_status (Ran forest p) → text ≡ areas_text forest p names →
    Answer (Some (Areas plan names)) (texts ++ plan_text ∷ []) reported text []
areas_reported count comes is_reported is = rw (is_reported, is) (needed_of count comes)
