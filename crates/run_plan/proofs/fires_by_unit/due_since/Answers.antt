use Rattle.std.proofs.Common.{◌∙◌, arith}
use Rattle.run_plan.proofs.FireOrder.{none_before_the_origin, none_of_no_mission, since_origin}
use Rattle.run_plan.proofs.fires_by_unit.due_since.Goals as goal

pub returns-in_default : goal.returns-in_default
returns-in_default c = rw c.in_default.is (none_of_no_mission c.args.unit c.args.fires.now)

pub returns-then-unit-origin : goal.returns-then-unit-origin
returns-then-unit-origin c = rw c.in-Some.is (none_before_the_origin c.in-Some.origin c.args.unit c.args.fires.now c.if-unit-origin.true)

pub returns : goal.returns
returns c = rw c.in-Some.is (c.due_at.ensures ∙ since_origin c.in-Some.origin c.args.unit c.args.fires.now (omega (arith, c.if-unit-origin.false)))
