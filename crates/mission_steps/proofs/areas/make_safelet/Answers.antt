use Rattle.std.proofs.Common.{Some, None, subst, sym}
use Rattle.scj_base.specs.declared.positions.Position.{Position}
use Rattle.scj_base.specs.declared.faults.RunFault.TheVariants.{MemoryFull}
use Rattle.scj_rules.specs.Bodies.{class_position}
use Rattle.scj_model.specs.Code.{code_of}
use Rattle.scj_model.specs.State.{TheSequencer}
use Rattle.scj_model.specs.Steps.{fault_in}
use Rattle.run_state.specs.Seen.{state_of}
use Rattle.run_state.specs.Steps.{IsStep}
use Rattle.mission_steps.proofs.Openings.{is_made, made_there, not_made}
use Rattle.mission_steps.proofs.areas.make_safelet.Goals as goal

pub returns-in-Some : goal.returns-in-Some
returns-in-Some c =
    made_there c.args.code.now c.args.state.now
    (class_position (code_of c.args.code.now.program).program c.args.class) c.args.class c.args.area
    c.in_ok-object.object.slots.items c.make_object.new.state
    c.in-Some.r c.args.reported.now.items (sym c.in_ok-object.ensures.slots)
    (is_made c.args.code.now c.args.state.now (class_position (code_of c.args.code.now.program).program c.args.class)
    c.args.class c.args.area c.in_ok-object.object.slots.items
    c.in_ok-object.object.class c.make_object.result (Some c.in-Some.r)
    (state_of c.args.code.now c.make_object.new.state) c.in_ok-object.ensures.class c.in-Some.is
    (c.make_object.ensures.made c.args.code.now TheSequencer
    (state_of c.args.code.now c.args.state.now).activity
    (class_position (code_of c.args.code.now.program).program c.args.class)))

pub returns : goal.returns
returns c =
    not_made c.args.code.now c.args.state.now
    (class_position (code_of c.args.code.now.program).program c.args.class) c.args.class c.args.area
    c.in_ok-object.object.slots.items c.make_object.new.state
    c.halted.new.state c.args.reported.now.items c.halted.new.reported.items (sym c.in_ok-object.ensures.slots)
    (is_made c.args.code.now c.args.state.now (class_position (code_of c.args.code.now.program).program c.args.class)
    c.args.class c.args.area c.in_ok-object.object.slots.items
    c.in_ok-object.object.class c.make_object.result None
    (state_of c.args.code.now c.make_object.new.state) c.in_ok-object.ensures.class c.in-None.is
    (c.make_object.ensures.made c.args.code.now TheSequencer
    (state_of c.args.code.now c.args.state.now).activity
    (class_position (code_of c.args.code.now.program).program c.args.class)))
    (subst (λ (position : Position). IsStep c.args.code.now
    (fault_in (state_of c.args.code.now c.make_object.new.state) TheSequencer
    (state_of c.args.code.now c.args.state.now).activity position MemoryFull) c.halted.new.state
    c.args.reported.now.items c.halted.new.reported.items) c.class_position.ensures
    (c.in_ok-halted-in-None.ensures c.args.code.now
    (state_of c.args.code.now c.args.state.now).activity))
