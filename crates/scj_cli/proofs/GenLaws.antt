-- From what is judged of a generated program, and what its run leaves, to the answer.
use Rattle.std.proofs.Common.{◌≡◌, ℕ, List, [], ◌∷◌, Some}
use Rattle.scj_base.specs.declared.findings.Found.{Found}
use Rattle.scj_base.specs.declared.statuses.Status.{Status}
use Rattle.scj_base.specs.declared.statuses.Status.TheVariants as status
use Rattle.scj_tree.specs.Forest.{Forest}
use Rattle.scj_model.specs.Plan.{Plan}
use Rattle.source_gen.specs.Generated.{source_of, plan_of}
use Rattle.command_line.specs.Job.{Gen}
use Rattle.scj_cli.specs.Answers.{Answer}
use Rattle.scj_cli.specs.Answers.Answer.{generated}
use Rattle.scj_cli.specs.Judgements.{RefusesRun}
use Rattle.scj_cli.specs.Modes.{RefusesForm}
use Rattle.scj_cli.specs.Outcomes.{Outcome, Reported, Ran, ComesTo, generated_names, run_status, gen_out, run_err}
use Rattle.scj_cli.specs.Reports.{report_text}
use Rattle.scj_cli.specs.declared.refusals.Refusal.{Refusal}
use Rattle.scj_cli.specs.declared.refusals.Refusal.TheVariants.{Usage, Unread, Overlong, Unplanned, OutOfMemory}

generated_of : {size : ℕ} {contents texts : List (List ℕ)} {plan_text : List ℕ} {outcome : Outcome} →
    texts ≡ source_of size ∷ [] → plan_text ≡ plan_of size → ComesTo texts plan_text outcome →
    Answer (Some (Gen size)) contents (run_status outcome) (gen_out size outcome) (run_err outcome)
generated_of source plan comes = generated (rw (← source, ← plan) comes)

pub form_of_gen : (size : ℕ) (contents texts : List (List ℕ)) (plan_text : List ℕ) (refusal : Refusal) →
    texts ≡ source_of size ∷ [] → plan_text ≡ plan_of size → RefusesRun texts plan_text refusal →
    RefusesForm (Gen size) contents refusal
form_of_gen size contents texts plan_text Usage source plan refuses = absurd refuses
form_of_gen size contents texts plan_text (Unread line) source plan refuses = absurd refuses
form_of_gen size contents texts plan_text (Overlong line) source plan refuses = absurd refuses
form_of_gen size contents texts plan_text (Unplanned line) source plan refuses =
    rw refuses.2 (generated_of source plan refuses.1)
form_of_gen size contents texts plan_text OutOfMemory source plan refuses = tt

pub gen_report : {size : ℕ} {contents texts names : List (List ℕ)} {plan_text text : List ℕ} {found : List Found} →
    texts ≡ source_of size ∷ [] → plan_text ≡ plan_of size → names ≡ generated_names →
    ComesTo texts plan_text (Reported found) → text ≡ report_text names found →
    Answer (Some (Gen size)) contents status.Refused text []
gen_report source plan named comes is = rw (is, named) (generated_of source plan comes)

pub gen_summary : {size : ℕ} {contents texts : List (List ℕ)} {plan_text text : List ℕ} {forest : Forest} {p : Plan}
    {reported : Status} → texts ≡ source_of size ∷ [] → plan_text ≡ plan_of size → ComesTo texts plan_text (Ran forest p) →
    reported ≡ run_status (Ran forest p) → text ≡ gen_out size (Ran forest p) →
    Answer (Some (Gen size)) contents reported text []
gen_summary source plan comes is_reported is = rw (is_reported, is) (generated_of source plan comes)
