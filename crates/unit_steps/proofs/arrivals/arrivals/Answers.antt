use Rattle.unit_steps.proofs.Firing.{both_arrived}
use Rattle.unit_steps.proofs.arrivals.arrivals.Goals as goal

pub returns-clause-arrived : goal.returns-clause-arrived
returns-clause-arrived c = λ code e.
    both_arrived code c.args.plan.now c.args.state.now c.periodic_arrivals.new.state
    c.fires_in_order.new.state c.args.reported.now.items c.periodic_arrivals.new.reported.items
    c.fires_in_order.new.reported.items c.fires_coming-fires.result.now c.executes_since-origin.result
    (c.executes_since-origin.ensures code) c.fires_coming-fires.ensures
    (c.in_ok-periodic_arrivals.ensures code) (c.in_ok-fires_in_order.ensures code e)
