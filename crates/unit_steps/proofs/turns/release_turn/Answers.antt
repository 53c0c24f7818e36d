use Rattle.std.proofs.Common.{refl}
use Rattle.job_frames.specs.Frames.{activity_seen}
use Rattle.run_state.specs.Seen.{state_of}
use Rattle.unit_steps.specs.Refused.{went}
use Rattle.unit_steps.proofs.RefusedTurns.{led_by, refuses_as, start_refused, started_refused}
use Rattle.unit_steps.proofs.Joins.{led_itself, none_there}
use Rattle.unit_steps.proofs.Standing.{start_few}
use Rattle.unit_steps.proofs.Turning.{goes_on_with, led_as, nothing_done, starts_by}
use Rattle.unit_steps.proofs.turns.release_turn.Goals as goal

pub returns-in_ok-went-in-Starts-clause-led : goal.returns-in_ok-went-in-Starts-clause-led
returns-in_ok-went-in-Starts-clause-led c =
    let there = starts_by c.args.code.now c.args.plan.now.readings c.args.state.now c.args.index
    c.in-Starts.handler c.in-Starts.ensures in
    led_by c.args.code.now _ c.came_to.result c.in_ok-went-in-Starts.went c.start_op.new.state
    c.args.reported.now.items c.start_op.new.reported.items c.came_to.ensures.went
    (led_as c.args.code.now c.in_ok-went-in-Starts.went c.start_op.new.state c.args.reported.now.items
    c.start_op.new.reported.items _ _ there.2
    (led_itself c.args.code.now c.in_ok-went-in-Starts.went c.start_op.new.state c.args.reported.now.items
    c.start_op.new.reported.items _ (c.in_ok-went-in-Starts.ensures there.0 there.1)))

pub returns-in_ok-went-in-Starts-clause-refused : goal.returns-in_ok-went-in-Starts-clause-refused
returns-in_ok-went-in-Starts-clause-refused c =
    refuses_as c.came_to.result _ _
    (start_refused c.args.code.now c.args.plan.now.readings c.args.state.now c.args.index
    c.in-Starts.handler c.in-Starts.ensures)
    c.came_to.ensures.refused

pub returns-in_ok-acted-in-GoesOn-clause-led : goal.returns-in_ok-acted-in-GoesOn-clause-led
returns-in_ok-acted-in-GoesOn-clause-led c =
    let there = goes_on_with c.args.code.now c.args.plan.now.readings c.args.state.now c.args.index
    c.in-GoesOn.ensures in
    led_as c.args.code.now (went c.in_ok-acted-in-GoesOn.acted) c.frame_op.new.state c.args.reported.now.items
    c.frame_op.new.reported.items _ _ there.2
    (c.in_ok-acted-in-GoesOn.ensures.led (activity_seen c.args.code.now there.0) there.1)

pub returns-in_ok-acted-in-GoesOn-clause-refused : goal.returns-in_ok-acted-in-GoesOn-clause-refused
returns-in_ok-acted-in-GoesOn-clause-refused c =
    let there = goes_on_with c.args.code.now c.args.plan.now.readings c.args.state.now c.args.index
    c.in-GoesOn.ensures in
    refuses_as c.in_ok-acted-in-GoesOn.acted _ _
    (started_refused c.args.code.now c.args.plan.now.readings
    (state_of c.args.code.now c.args.state.now) c.args.index
    (activity_seen c.args.code.now there.0) there.1)
    (c.in_ok-acted-in-GoesOn.ensures.refused (activity_seen c.args.code.now there.0) there.1)

pub returns-in-Nothing-clause-led : goal.returns-in-Nothing-clause-led
returns-in-Nothing-clause-led c =
    none_there c.args.code.now _ c.args.state.now c.args.reported.now.items c.args.reported.now.items
    (nothing_done c.args.code.now c.args.plan.now.readings c.args.state.now c.args.index
    c.in-Nothing.ensures) refl

pub start_op-requires-clause-few : goal.start_op-requires-clause-few
start_op-requires-clause-few c = λ row e.
    start_few c.args.state.now c.args.index c.in-Starts.handler row c.requires.start c.in-Starts.ensures e
