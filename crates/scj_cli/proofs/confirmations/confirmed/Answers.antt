use Rattle.std.proofs.Common.{◌≡◌, ◌∙◌, true, false, ap, refl, sym}
use Rattle.std.proofs.lemmas.Result.{err_from_is_err_and}
use Rattle.response_bounds.specs.Responses.{are_bounds}
use Rattle.response_times.specs.declared.files.DeclaredFile.{DeclaredFile}
use Rattle.scj_cli.proofs.DeclaredLaws.{confirm_line, form_of_confirm}
use Rattle.scj_cli.proofs.confirmations.confirmed.Goals as goal

pub returns-in_err-file-clause-refusal : goal.returns-in_err-file-clause-refusal
returns-in_err-file-clause-refusal c =
    let p = err_from_is_err_and c.from_residual.result c.from_residual.ensures.1 in
    rw (p.1, p.2) (form_of_confirm _ _ c.in_err-file.ensures.refusal)

pub returns-then-check_response-clause-ok : goal.returns-then-check_response-clause-ok
returns-then-check_response-clause-ok c =
    let file = c.in_ok-file.file in
    let rows = c.deref.ensures.value ∙ ap (λ (f : DeclaredFile). f.rows) c.file.view_is in
    let claims = c.deref-2.ensures.value ∙ ap (λ (f : DeclaredFile). f.claimed) c.file.view_is in
    let is : are_bounds file.rows file.claimed ≡ true =
    rw (← rows, ← claims) (sym c.check_response.ensures.right ∙ c.if-check_response.true) in
    confirm_line c.in_ok-file.ensures.ok (rw is refl)

pub returns-clause-ok : goal.returns-clause-ok
returns-clause-ok c =
    let file = c.in_ok-file.file in
    let rows = c.deref.ensures.value ∙ ap (λ (f : DeclaredFile). f.rows) c.file.view_is in
    let claims = c.deref-2.ensures.value ∙ ap (λ (f : DeclaredFile). f.claimed) c.file.view_is in
    let is : are_bounds file.rows file.claimed ≡ false =
    rw (← rows, ← claims) (sym c.check_response.ensures.right ∙ c.if-check_response.false) in
    confirm_line c.in_ok-file.ensures.ok (rw is refl)
