use Rattle.std.proofs.Common.{sym}
use Rattle.run_state.specs.Seen.{state_of}
use Rattle.mission_steps.proofs.Going.{no_step}
use Rattle.mission_steps.proofs.OwnOperations.{called_step, no_area_for}
use Rattle.mission_steps.proofs.operations.call_body.Goals as goal

pub returns-in_default : goal.returns-in_default
unfolding state_of
returns-in_default c = λ reported.
    no_step c.args.code.now c.args.state.now reported reported _
    (no_area_for c.args.code.now (state_of c.args.code.now c.args.state.now) c.args.r c.args.body
    (sym c.in_default.ensures))

pub returns : goal.returns
unfolding state_of
returns c = λ reported.
    called_step c.args.code.now c.args.state.now c.args.r c.args.body c.in-Some.area
    c.in_ok-state.field-0 reported (sym c.in-Some.ensures) c.in_ok-state.ensures.seen
