use Rattle.std.proofs.Common.{◌∙◌, List, ℕ, ap, sym}
use Rattle.scj_rules.specs.Bodies.{body_named}
use Rattle.scj_model.specs.Code.{code_of}
use Rattle.run_state.specs.Seen.{state_of}
use Rattle.mission_steps.proofs.Going.{as_try, no_step}
use Rattle.mission_steps.proofs.OwnOperations.{method_found, no_method, no_method_called}
use Rattle.mission_steps.proofs.operations.call_method.Goals as goal

pub returns-in_default : goal.returns-in_default
unfolding state_of
returns-in_default c = λ reported.
    no_step c.args.code.now c.args.state.now reported reported _
    (no_method_called c.args.code.now (state_of c.args.code.now c.args.state.now) c.args.r
    c.args.name.now c.in_default.ensures)

pub returns-in_default-body_named : goal.returns-in_default-body_named
unfolding state_of
returns-in_default-body_named c = λ reported.
    no_step c.args.code.now c.args.state.now reported reported _
    (no_method c.args.code.now (state_of c.args.code.now c.args.state.now) c.args.r
    c.in-Some.class c.args.name.now c.in-Some.ensures
    (ap (λ (name : List ℕ). body_named (code_of c.args.code.now.program).program c.in-Some.class name) (sym c.new.ensures)
    ∙ sym c.in_default-body_named.ensures))

pub returns : goal.returns
unfolding state_of
returns c = λ reported.
    as_try c.args.code.now c.in_ok-went.went c.call_body.new.state reported reported _ _
    (method_found c.args.code.now (state_of c.args.code.now c.args.state.now) c.args.r
    c.in-Some.class c.args.name.now c.in-Some-body_named.body c.in-Some.ensures
    (ap (λ (name : List ℕ). body_named (code_of c.args.code.now.program).program c.in-Some.class name) (sym c.new.ensures)
    ∙ sym c.in-Some-body_named.ensures))
    (c.in_ok-went.ensures reported)
