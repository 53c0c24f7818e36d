use Rattle.std.proofs.Common.{[], ◌∙◌, refl}
use Rattle.std.proofs.lemmas.Result.{err_from_is_err_and}
use Rattle.scj_cli.proofs.GenLaws.{form_of_gen, gen_report, gen_summary}
use Rattle.scj_cli.proofs.gens.reported_of.Goals as goal

pub returns-in_err-text-clause-refusal : goal.returns-in_err-text-clause-refusal
returns-in_err-text-clause-refusal c =
    let p = err_from_is_err_and c.from_residual-in_err-text.result c.from_residual-in_err-text.ensures.1 in
    let texts = c.in_ok-source.ensures in
    rw (p.1, p.2)
    (form_of_gen c.args.size [] _ _ _ (rw (c.in_ok-sources.ensures, texts.source) refl)
    (c.deref-2.ensures.value ∙ texts.plan) c.in_err-text.ensures.refusal)

pub returns-in-Reported-clause-ok : goal.returns-in-Reported-clause-ok
returns-in-Reported-clause-ok c =
    let texts = c.in_ok-source.ensures in
    let judged = rw c.in-Reported.is at c.in_ok-text.ensures.ok in
    rw c.into_bytes.ensures.value
    (gen_report (rw (c.in_ok-sources.ensures, texts.source) refl) (c.deref-2.ensures.value ∙ texts.plan)
    (rw c.deref.ensures.value c.in_ok-names.ensures) judged.1 judged.2)

pub returns-clause-ok : goal.returns-clause-ok
returns-clause-ok c =
    let texts = c.in_ok-source.ensures in
    let judged = rw c.in-Ready.is at c.in_ok-text.ensures.ok in
    let reported = c.in_ok-summarized-in-Ready.ensures in
    gen_summary (rw (c.in_ok-sources.ensures, texts.source) refl) (c.deref-2.ensures.value ∙ texts.plan) judged.0
    reported.status reported.text
