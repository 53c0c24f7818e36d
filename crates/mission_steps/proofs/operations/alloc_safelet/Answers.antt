use Rattle.std.proofs.Common.{sym}
use Rattle.run_state.specs.Seen.{state_of}
use Rattle.run_state.proofs.StepLemmas.{try_of}
use Rattle.mission_steps.proofs.Going.{no_step}
use Rattle.mission_steps.proofs.OwnOperations.{no_area, no_safelet_made, safelet_allocated}
use Rattle.mission_steps.proofs.Standing.{innermost_among}
use Rattle.mission_steps.proofs.operations.alloc_safelet.Goals as goal

pub returns-in_default : goal.returns-in_default
unfolding state_of
returns-in_default c =
    no_step c.args.code.now c.args.state.now c.args.reported.now.items c.args.reported.now.items _
    (no_safelet_made c.args.code.now (state_of c.args.code.now c.args.state.now)
    (sym c.in_default.ensures))

pub returns-in_default-innermost : goal.returns-in_default-innermost
unfolding state_of
returns-in_default-innermost c =
    no_step c.args.code.now c.args.state.now c.args.reported.now.items c.args.reported.now.items _
    (no_area c.args.code.now (state_of c.args.code.now c.args.state.now) c.in-Some.class
    (sym c.in-Some.ensures)
    (sym c.in_default-innermost.ensures))

pub returns : goal.returns
unfolding state_of
returns c =
    try_of c.args.code.now c.make_safelet.new.state c.args.reported.now.items c.make_safelet.new.reported.items _ _
    (safelet_allocated c.args.code.now (state_of c.args.code.now c.args.state.now) c.in-Some.class
    c.in-Some-innermost.area (sym c.in-Some.ensures) (sym c.in-Some-innermost.ensures))
    (c.in_ok-make_safelet.ensures)

pub make_safelet-requires-clause-open : goal.make_safelet-requires-clause-open
make_safelet-requires-clause-open c =
    c.requires.areas c.in-Some-innermost.area
    (innermost_among c.args.state.now.activity.areas c.in-Some-innermost.area c.in-Some-innermost.ensures)
