-- From what the text of declared rows means to the answers of the modes over them.
use Rattle.std.proofs.Common.{◌≡◌, ℕ, List, [], ◌∷◌, Some, subst}
use Rattle.scj_base.specs.declared.statuses.Status.TheVariants.{Done}
use Rattle.command_line.specs.Job.{Respond, Confirm}
use Rattle.response_bounds.specs.Responses.{responses_of, are_bounds}
use Rattle.response_bounds.specs.declared.rows.Declared.{Declared}
use Rattle.response_bounds.specs.declared.responses.Response.{Response}
use Rattle.response_times.specs.DeclaredOf.{DeclaredMeaning, declared_of_text, declared}
use Rattle.response_times.specs.Lines.{response_lines}
use Rattle.scj_cli.specs.Answers.{Answer}
use Rattle.scj_cli.specs.Answers.Answer.{responded, confirmed}
use Rattle.scj_cli.specs.DeclaredRows.{declared_status, respond_out, confirm_out, declared_err, confirmed_line}
use Rattle.scj_cli.specs.Judgements.{RefusesDeclared}
use Rattle.scj_cli.specs.Modes.{RefusesForm}
use Rattle.scj_cli.specs.declared.refusals.Refusal.{Refusal}
use Rattle.scj_cli.specs.declared.refusals.Refusal.TheVariants.{Usage, Unread, Overlong, Unplanned, OutOfMemory}

-- the answers by what the text means
responded_by : (plan text : List ℕ) (meaning : DeclaredMeaning) → declared_of_text text ≡ meaning →
    Answer (Some (Respond plan)) (text ∷ []) (declared_status meaning) (respond_out meaning) (declared_err meaning)
responded_by plan text meaning is =
    subst (λ (m : DeclaredMeaning). Answer (Some (Respond plan)) (text ∷ []) (declared_status m) (respond_out m)
    (declared_err m)) is responded

confirmed_by : (plan text : List ℕ) (meaning : DeclaredMeaning) → declared_of_text text ≡ meaning →
    Answer (Some (Confirm plan)) (text ∷ []) (declared_status meaning) (confirm_out meaning) (declared_err meaning)
confirmed_by plan text meaning is =
    subst (λ (m : DeclaredMeaning). Answer (Some (Confirm plan)) (text ∷ []) (declared_status m) (confirm_out m)
    (declared_err m)) is confirmed

pub respond_lines : {text lines : List ℕ} {rows : List Declared} {claims answer : List Response} →
    declared_of_text text ≡ declared rows claims → answer ≡ responses_of rows → lines ≡ response_lines rows answer →
    (plan : List ℕ) → Answer (Some (Respond plan)) (text ∷ []) Done lines []
respond_lines {text = text} means is_answer is plan = rw (is, is_answer) (responded_by plan text _ means)

pub confirm_line : {text line : List ℕ} {rows : List Declared} {claims : List Response} →
    declared_of_text text ≡ declared rows claims → line ≡ confirmed_line (are_bounds rows claims) →
    (plan : List ℕ) → Answer (Some (Confirm plan)) (text ∷ []) Done line []
confirm_line {text = text} means is plan = rw is (confirmed_by plan text _ means)

pub form_of_respond : (text : List ℕ) (refusal : Refusal) → RefusesDeclared (declared_of_text text) refusal →
    (plan : List ℕ) → RefusesForm (Respond plan) (text ∷ []) refusal
form_of_respond text Usage refuses plan = absurd refuses
form_of_respond text (Unread line) refuses plan = absurd refuses
form_of_respond text (Overlong line) refuses plan = absurd refuses
form_of_respond text (Unplanned line) refuses plan = rw refuses.2 (responded_by plan text _ refuses.1)
form_of_respond text OutOfMemory refuses plan = tt

pub form_of_confirm : (text : List ℕ) (refusal : Refusal) → RefusesDeclared (declared_of_text text) refusal →
    (plan : List ℕ) → RefusesForm (Confirm plan) (text ∷ []) refusal
form_of_confirm text Usage refuses plan = absurd refuses
form_of_confirm text (Unread line) refuses plan = absurd refuses
form_of_confirm text (Overlong line) refuses plan = absurd refuses
form_of_confirm text (Unplanned line) refuses plan = rw refuses.2 (confirmed_by plan text _ refuses.1)
form_of_confirm text OutOfMemory refuses plan = tt
