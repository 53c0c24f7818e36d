use Rattle.std.proofs.Common.{string_bytes}
use Rattle.std.proofs.lemmas.Result.{err_from_is_err_and}
use Rattle.scj_cli.proofs.AreaRunLaws.{areas_report, areas_reported, form_of_areas}
use Rattle.scj_cli.proofs.RunLaws.{texts_count}
use Rattle.scj_cli.proofs.areas.reported_of.Goals as goal

pub returns-in_err-text-clause-refusal : goal.returns-in_err-text-clause-refusal
returns-in_err-text-clause-refusal c =
    let p = err_from_is_err_and c.from_residual.result c.from_residual.ensures.1 in
    let count = texts_count string_bytes _ _ c.requires.named in
    rw (p.1, p.2) (λ plan. form_of_areas plan _ _ _ _ count c.in_err-text.ensures.refusal)

pub returns-in-Reported-clause-ok : goal.returns-in-Reported-clause-ok
returns-in-Reported-clause-ok c =
    let count = texts_count string_bytes _ _ c.requires.named in
    let judged = rw c.in-Reported.is at c.in_ok-text.ensures.ok in
    λ plan. rw c.into_bytes.ensures.value (areas_report count judged.1 judged.2)

pub returns-in_ok-needed-in-Ready-clause-ok : goal.returns-in_ok-needed-in-Ready-clause-ok
returns-in_ok-needed-in-Ready-clause-ok c =
    let count = texts_count string_bytes _ _ c.requires.named in
    let judged = rw c.in-Ready.is at c.in_ok-text.ensures.ok in
    let reported = c.in_ok-needed-in-Ready.ensures in
    λ plan. areas_reported count judged.0 reported.status (rw judged.1 at reported.text)
