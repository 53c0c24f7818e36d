use Rattle.std.proofs.Common.{◌∙◌}
use Rattle.class_table.proofs.ClassLemmas.{is_report}
use Rattle.class_table.proofs.checks.build.Goals as goal

pub returns-clause-report : goal.returns-clause-report
returns-clause-report c =
    let reported = c.in_ok-report_ancestries.ensures ∙ c.in_ok-table.ensures in
    is_report c.args.program.now _ c.note_classes.new.found.items c.note_nodes.new.found.items _
    (rw (reported, c.new-found.ensures.items) at c.in_ok-note_c8.ensures) (rw reported at c.in_ok-inherited.ensures.found)
    (rw (c.keep.ensures, reported) at c.in_ok-note_nodes.ensures) c.put_in_order.ensures.in_order
    c.put_in_order.ensures.same
