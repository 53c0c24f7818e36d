use Rattle.std.proofs.Common.{subst, sym}
use Rattle.scj_base.specs.declared.positions.Position.{Position}
use Rattle.scj_rules.specs.ScopeRules.{immortal_scope}
use Rattle.scj_model.specs.Sequencer.{area_opened}
use Rattle.run_state.specs.Seen.{state_of}
use Rattle.run_state.specs.Steps.{IsStep}
use Rattle.run_state.proofs.StepLemmas.{try_of}
use Rattle.mission_steps.proofs.Going.{no_step}
use Rattle.mission_steps.proofs.OwnOperations.{immortal_opened, no_immortal, no_safelet}
use Rattle.mission_steps.proofs.operations.open_immortal.Goals as goal

pub returns-in_default : goal.returns-in_default
unfolding state_of
returns-in_default c =
    no_step c.args.code.now c.args.state.now c.args.reported.now.items c.args.reported.now.items _
    (no_safelet c.args.code.now (state_of c.args.code.now c.args.state.now)
    (sym c.in_default.ensures))

pub returns-in_default-size_of : goal.returns-in_default-size_of
unfolding state_of
returns-in_default-size_of c =
    no_step c.args.code.now c.args.state.now c.args.reported.now.items c.args.reported.now.items _
    (no_immortal c.args.code.now (state_of c.args.code.now c.args.state.now) c.in-Some.class
    (sym c.in-Some.ensures)
    (sym c.in_default-size_of.ensures))

pub returns : goal.returns
unfolding state_of
returns c =
    try_of c.args.code.now c.open_inside.new.state c.args.reported.now.items c.open_inside.new.reported.items _ _
    (immortal_opened c.args.code.now (state_of c.args.code.now c.args.state.now) c.in-Some.class
    c.in-Some-size_of.bytes (sym c.in-Some.ensures) (sym c.in-Some-size_of.ensures))
    (subst (λ (position : Position). IsStep c.args.code.now
    (area_opened (state_of c.args.code.now c.args.state.now) position immortal_scope c.in-Some-size_of.bytes)
    c.open_inside.new.state c.args.reported.now.items c.open_inside.new.reported.items) c.class_position.ensures
    (c.in_ok-open_inside.ensures c.args.code.now))
