use Rattle.std.proofs.Common.{◌≡◌, ◌∙◌, ◌≤◌, ◌+◌, arith, length}
use Rattle.run_plan.specs.Index.{AreByUnit, from_start}
use Rattle.run_plan.specs.Limits.{most_rows}
use Rattle.run_plan.proofs.FireOrder.{before_fits, due_count, due_stand, of_unit, same_before, start_fits}
use Rattle.run_plan.proofs.fires_by_unit.Fires.past.Goals as goal

pub due_from-requires : goal.due_from-requires
due_from-requires c =
    let index : AreByUnit (from_start c.args.self.now) c.as_slice.result.now = rw (← c.self.view_is, c.as_slice.ensures.value) c.self.invariant.1 in
    omega (arith, c.requires, same_before _ _ index c.args.unit, before_fits c.as_slice.result.now c.args.unit)

pub returns-clause-past : goal.returns-clause-past
returns-clause-past c =
    let index : AreByUnit (from_start c.args.self.now) c.as_slice.result.now = rw (← c.self.view_is, c.as_slice.ensures.value) c.self.invariant.1 in
    let due : c.due_from.result.now ≡ of_unit c.args.unit (from_start c.args.self.now) = c.due_from.ensures ∙ rw c.requires (due_stand _ _ index c.args.unit) in
    rw (due, c.requires) (due_count (from_start c.args.self.now) c.args.unit)

pub returns-clause-limit : goal.returns-clause-limit
returns-clause-limit c =
    let few : length c.args.self.now ≤ most_rows = rw (← c.self.view_is) c.self.invariant.0.few in
    omega (arith, returns-clause-past c, before_fits (from_start c.args.self.now) (c.args.unit + 1), start_fits c.args.self.now)
