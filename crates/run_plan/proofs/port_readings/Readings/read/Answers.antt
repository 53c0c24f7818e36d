use Rattle.std.proofs.Common.{◌≡◌, ◌∙◌, Some, None, SFits, rules, sym, to_z-of_z, w32}
use Rattle.scj_model.specs.Reading.{reading, row_at}
use Rattle.run_plan.specs.Index.{AreByPort}
use Rattle.run_plan.proofs.ReadingOrder.{nothing_read, value_read}
use Rattle.run_plan.proofs.ReadingSearch.{sorted_row}
use Rattle.run_plan.proofs.port_readings.Readings.read.Goals as goal

pub returns-in-Some : goal.returns-in-Some
returns-in-Some c =
    let index : AreByPort c.args.self.now c.as_slice.result.now = rw (← c.self.view_is, c.as_slice.ensures.value) c.self.invariant.1 in
    let found : row_at c.args.self.now c.args.port c.args.unit ≡ Some c.in-Some.row = sym (sorted_row _ _ index c.args.port c.args.unit) ∙ sym c.row_at.ensures ∙ c.in-Some.is in
    let reported : c.in-Some.row.value ≡ reading c.args.self.now c.args.port c.args.unit = sym (value_read _ _ _ _ found) in
    let fits : SFits w32 c.in-Some.row.value = search rules in
    to_z-of_z fits ∙ reported

pub returns-in-None : goal.returns-in-None
returns-in-None c =
    let index : AreByPort c.args.self.now c.as_slice.result.now = rw (← c.self.view_is, c.as_slice.ensures.value) c.self.invariant.1 in
    let found : row_at c.args.self.now c.args.port c.args.unit ≡ None = sym (sorted_row _ _ index c.args.port c.args.unit) ∙ sym c.row_at.ensures ∙ c.in-None.is in
    sym (nothing_read _ _ _ found)
