use Rattle.std.proofs.Common.{subst, sym}
use Rattle.scj_base.specs.declared.positions.Position.{Position}
use Rattle.scj_model.specs.Sequencer.{area_opened}
use Rattle.run_state.specs.Seen.{state_of}
use Rattle.run_state.specs.Steps.{IsStep}
use Rattle.run_state.proofs.StepLemmas.{try_of}
use Rattle.mission_steps.proofs.Going.{no_step}
use Rattle.mission_steps.proofs.OwnOperations.{mission_opened, no_mission, no_scope, no_size}
use Rattle.mission_steps.proofs.operations.open_mission.Goals as goal

pub returns-in_default : goal.returns-in_default
unfolding state_of
returns-in_default c =
    no_step c.args.code.now c.args.state.now c.args.reported.now.items c.args.reported.now.items _
    (no_mission c.args.code.now (state_of c.args.code.now c.args.state.now) c.args.r
    c.in_default.ensures)

pub returns-in_default-private_scope : goal.returns-in_default-private_scope
unfolding state_of
returns-in_default-private_scope c =
    no_step c.args.code.now c.args.state.now c.args.reported.now.items c.args.reported.now.items _
    (no_scope c.args.code.now (state_of c.args.code.now c.args.state.now) c.args.r c.in-Some.class
    c.in-Some.ensures
    (sym c.in_default-private_scope.ensures))

pub returns-in_default-size_of : goal.returns-in_default-size_of
unfolding state_of
returns-in_default-size_of c =
    no_step c.args.code.now c.args.state.now c.args.reported.now.items c.args.reported.now.items _
    (no_size c.args.code.now (state_of c.args.code.now c.args.state.now) c.args.r c.in-Some.class
    c.in-Some-private_scope.scope c.in-Some.ensures (sym c.in-Some-private_scope.ensures)
    (sym c.in_default-size_of.ensures))

pub returns : goal.returns
unfolding state_of
returns c =
    try_of c.args.code.now c.open_inside.new.state c.args.reported.now.items c.open_inside.new.reported.items _ _
    (mission_opened c.args.code.now (state_of c.args.code.now c.args.state.now) c.args.r
    c.in-Some.class c.in-Some-private_scope.scope c.in-Some-size_of.bytes c.in-Some.ensures
    (sym c.in-Some-private_scope.ensures) (sym c.in-Some-size_of.ensures))
    (subst (λ (position : Position). IsStep c.args.code.now
    (area_opened (state_of c.args.code.now c.args.state.now) position c.in-Some-private_scope.scope
    c.in-Some-size_of.bytes) c.open_inside.new.state c.args.reported.now.items c.open_inside.new.reported.items)
    c.class_position.ensures (c.in_ok-open_inside.ensures c.args.code.now))
