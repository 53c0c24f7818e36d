use Rattle.std.proofs.Common.{◌∙◌}
use Rattle.scj_tree.specs.Recursion.{bottom_up}
use Rattle.scj_model.specs.Code.{Code, code_of}
use Rattle.certain_faults.specs.Known.{next_left}
use Rattle.certain_faults.proofs.PassLemmas.{one_row_more}
use Rattle.certain_faults.proofs.pass.left_rows.Goals as goal

pub loop-number-init : goal.loop-number-init
unfolding bottom_up
loop-number-init c = c.in_ok-rows.ensures.items

pub loop-number-preserved : goal.loop-number-preserved
loop-number-preserved c =
    let code : Code = code_of c.args.checked.now.program in
    let reported = rw (c.deref.ensures.value, c.at.ensures) at c.next_left-left.ensures in
    c.in_ok-push.ensures.items
    ∙ one_row_more (next_left code) c.loop-number.number c.loop-number.rows.items c.next_left-left.result
    c.loop-number.invariant reported
