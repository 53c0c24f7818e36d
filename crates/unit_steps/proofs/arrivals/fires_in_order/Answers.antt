use Rattle.std.proofs.Common.{arith}
use Rattle.run_state.specs.Seen.{state_of}
use Rattle.unit_steps.proofs.Firing.{fired_all, last_fired, next_fired}
use Rattle.unit_steps.proofs.UnderWay.{not_begun}
use Rattle.unit_steps.proofs.arrivals.fires_in_order.Goals as goal

pub loop-rest-init : goal.loop-rest-init
loop-rest-init c = λ code e.
    not_begun code
    (fired_all code c.args.origin c.args.unit c.args.fires.now) c.args.state.now
    c.args.reported.now.items

pub loop-rest-preserved : goal.loop-rest-preserved
loop-rest-preserved c = λ code e.
    next_fired code c.args.origin c.args.unit
    (fired_all code c.args.origin c.args.unit c.args.fires.now
    (state_of code c.args.state.now))
    c.fire-item.result c.loop-rest.rest.now c.loop-rest.state c.fired_in.new.state c.args.reported.now.items
    c.loop-rest.reported.items c.fired_in.new.reported.items c.in-len1-up.len_at_least c.fire-item.is (c.loop-rest.invariant code e)
    (c.in_ok-fired_in.ensures code e)

pub returns : goal.returns
returns c = λ code e.
    last_fired code c.args.origin c.args.unit
    (fired_all code c.args.origin c.args.unit c.args.fires.now
    (state_of code c.args.state.now))
    c.loop-rest.rest.now c.loop-rest.state c.args.reported.now.items c.loop-rest.reported.items
    (omega arith) (c.loop-rest.invariant code e)
