use Rattle.std.specs.Prelude.{Option, false, is_some, true}
use Rattle.std.proofs.Common.{◌≡◌, ◌∙◌, ap, sym}
use Rattle.std.proofs.lemmas.Result.{err_from_is_err_and}
use Rattle.plain_machine.specs.declared.runs.RunEnd.{RunEnd}
use Rattle.plain_machine.proofs.AreasPut.{both_put, breaks_behind, breaks_first}
use Rattle.plain_machine.proofs.PartLaws.{PutPart-nothing}
use Rattle.plain_machine.proofs.area_runs.put_watched.Goals as goal

pub unreachable-requires : goal.unreachable-requires
unreachable-requires g c =
    let clash : false ≡ true =
    ap (λ (o : Option RunEnd). is_some o) (sym c.in_default.is ∙ c.end_reported.ensures) ∙ c.requires.ended.ends in
    cc (clash)

pub returns-in_err-text-clause-stop : goal.returns-in_err-text-clause-stop
returns-in_err-text-clause-stop g c =
    let p = err_from_is_err_and c.from_residual.result c.from_residual.ensures.1 in
    rw (p.1, p.2) (PutPart-nothing _ _ _)

pub returns-in_err-events-clause-stop : goal.returns-in_err-events-clause-stop
returns-in_err-events-clause-stop g c =
    let p = err_from_is_err_and c.from_residual-in_err-events.result c.from_residual-in_err-events.ensures.1 in
    rw (p.1, p.2) (PutPart-nothing _ _ _)

pub returns-in_err-put_all-clause-stop : goal.returns-in_err-put_all-clause-stop
returns-in_err-put_all-clause-stop g c =
    let p = err_from_is_err_and c.from_residual-in_err-put_all.result c.from_residual-in_err-put_all.ensures.1 in
    rw (p.1, p.2)
    (breaks_first c.args.setting.code.now.program c.args.setting.plan.now c.args.printer.now.names c.args.run.now c.args.last
    c.requires.ended c.in-Some.end (sym c.end_reported.ensures ∙ c.in-Some.is) c.in_ok-text.text.items
    c.in_ok-events.events.items (c.in_ok-text.ensures c.args.last c.requires.ended) c.in_ok-events.ensures _ _ _ _
    (rw c.deref.ensures.value at c.in_err-put_all.ensures.failed))

pub returns-in_err-put_all-2-clause-stop : goal.returns-in_err-put_all-2-clause-stop
returns-in_err-put_all-2-clause-stop g c =
    let p = err_from_is_err_and c.from_residual-in_err-put_all-2.result c.from_residual-in_err-put_all-2.ensures.1 in
    rw (p.1, p.2)
    (breaks_behind c.args.setting.code.now.program c.args.setting.plan.now c.args.printer.now.names c.args.run.now c.args.last
    c.requires.ended c.in-Some.end (sym c.end_reported.ensures ∙ c.in-Some.is) c.in_ok-text.text.items
    c.in_ok-events.events.items (c.in_ok-text.ensures c.args.last c.requires.ended) c.in_ok-events.ensures _ _ _ _ _ _
    (rw c.deref.ensures.value at c.in_ok-put_all.ensures.ok) _
    (rw (c.requires.printed, c.deref-2.ensures.value) at c.in_err-put_all-2.ensures.stop))

pub returns-clause-ok : goal.returns-clause-ok
returns-clause-ok g c =
    both_put c.args.setting.code.now.program c.args.setting.plan.now c.args.printer.now.names c.args.run.now c.args.last
    c.requires.ended c.in-Some.end (sym c.end_reported.ensures ∙ c.in-Some.is) c.in_ok-text.text.items
    c.in_ok-events.events.items (c.in_ok-text.ensures c.args.last c.requires.ended) c.in_ok-events.ensures _ _ _ _ _ _
    (rw c.deref.ensures.value at c.in_ok-put_all.ensures.ok)
    (rw (c.requires.printed, c.deref-2.ensures.value) at c.in_ok-put_all-2.ensures.ok)
