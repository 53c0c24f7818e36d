use Rattle.std.proofs.Common.{◌≡◌, ◌∙◌, ap}
use Rattle.std.proofs.lemmas.Result.{err_from_is_err_and}
use Rattle.response_times.specs.declared.files.DeclaredFile.{DeclaredFile}
use Rattle.scj_cli.proofs.DeclaredLaws.{form_of_respond, respond_lines}
use Rattle.scj_cli.proofs.responses.bounded.Goals as goal

pub returns-in_err-file-clause-refusal : goal.returns-in_err-file-clause-refusal
returns-in_err-file-clause-refusal c =
    let p = err_from_is_err_and c.from_residual.result c.from_residual.ensures.1 in
    rw (p.1, p.2) (form_of_respond _ _ c.in_err-file.ensures.refusal)

pub returns-clause-ok : goal.returns-clause-ok
returns-clause-ok c =
    let rows : c.as_slice-rows.result.now ≡ c.in_ok-file.file.rows =
    c.as_slice-rows.ensures.value ∙ ap (λ (f : DeclaredFile). f.rows) c.file.view_is in
    respond_lines {answer = c.deref.result.now} c.in_ok-file.ensures.ok (rw (← rows, c.deref.ensures.value) c.in_ok-answer.ensures.responses)
    (rw (← rows) c.in_ok-lines.ensures)
