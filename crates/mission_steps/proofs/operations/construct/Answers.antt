use Rattle.std.proofs.Common.{sym}
use Rattle.run_state.specs.Seen.{state_of}
use Rattle.mission_steps.proofs.Going.{as_try, no_step}
use Rattle.mission_steps.proofs.OwnOperations.{constructed, no_constructed, no_constructor}
use Rattle.mission_steps.proofs.operations.construct.Goals as goal

pub returns-in_default : goal.returns-in_default
unfolding state_of
returns-in_default c = λ reported.
    no_step c.args.code.now c.args.state.now reported reported _
    (no_constructed c.args.code.now (state_of c.args.code.now c.args.state.now) c.args.r
    c.in_default.ensures)

pub returns-in_default-constructor : goal.returns-in_default-constructor
unfolding state_of
returns-in_default-constructor c = λ reported.
    no_step c.args.code.now c.args.state.now reported reported _
    (no_constructor c.args.code.now (state_of c.args.code.now c.args.state.now) c.args.r
    c.in-Some.class c.in-Some.ensures
    (sym c.in_default-constructor.ensures))

pub returns : goal.returns
unfolding state_of
returns c = λ reported.
    as_try c.args.code.now c.in_ok-went.went c.call_body.new.state reported reported _ _
    (constructed c.args.code.now (state_of c.args.code.now c.args.state.now) c.args.r
    c.in-Some.class c.in-Some-constructor.body c.in-Some.ensures (sym c.in-Some-constructor.ensures))
    (c.in_ok-went.ensures reported)
