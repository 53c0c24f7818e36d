use Rattle.std.proofs.Common.{arith}
use Rattle.scj_model.specs.Code.{code_of}
use Rattle.memory_needs.proofs.RowLists.{rows_all}
use Rattle.memory_needs.proofs.SiteLemmas.{classes_are}
use Rattle.memory_needs.proofs.rows.all_rows.Goals as goal

pub returns : goal.returns
returns c =
    rows_all (code_of c.args.code.now) c.loop-number.number c.loop-number.rows.items
    (let a = c.loop-number.auto.number-end in
    let b = c.loop-number-test.false in
    let d = rw c.classes.ensures at c.class_count-number-end.ensures in
    let e = classes_are c.args.code.now in
    omega (arith, a, b, d, e))
    c.loop-number.invariant
