use Rattle.std.proofs.lemmas.Result.{err_from_is_err_and}
use Rattle.scj_model.specs.TraceText.{line_of, text}
use Rattle.plain_machine.proofs.PrintLaws.{breaks_at}
use Rattle.plain_machine.proofs.printers.Printer.put_all.Goals as goal

pub returns-in_err-put-clause-stop : goal.returns-in_err-put-clause-stop
unfolding text
returns-in_err-put-clause-stop g c =
    let p = err_from_is_err_and c.from_residual.result c.from_residual.ensures.1 in
    rw (p.1, p.2)
    (breaks_at (line_of c.args.self.now.program.nodes c.args.self.now.names) c.args.events.now
    c.loop-event.event-index c.event-item.result _ _ _ _ _ _ c.loop-event-test.true c.loop-event.invariant.put _
    (rw (c.loop-event.invariant.same, c.event-item.is) at c.in_err-put.ensures.stop))
