use Rattle.std.proofs.Common.{◌∙◌, ℕ, List, ap, sym}
use Rattle.scj_rules.specs.Bodies.{body_named}
use Rattle.scj_model.specs.declared.handlers.HandlerRow.{HandlerRow}
use Rattle.scj_model.specs.Code.{code_of}
use Rattle.scj_model.specs.Registry.{handler_row}
use Rattle.run_state.specs.Seen.{state_of}
use Rattle.run_state.proofs.StepLemmas.{try_of}
use Rattle.mission_steps.proofs.Going.{no_step}
use Rattle.mission_steps.proofs.Starting.{begins_with, no_body, no_private_scope, no_row}
use Rattle.mission_steps.proofs.starts.start_op.Goals as goal

pub returns-in_default : goal.returns-in_default
unfolding state_of
returns-in_default c = λ r e.
    no_step c.args.code.now c.args.state.now c.args.reported.now.items c.args.reported.now.items _
    (no_row (code_of c.args.code.now.program) (state_of c.args.code.now c.args.state.now) c.args.index r
    (c.in_default.ensures ∙ ap (λ (rows : List HandlerRow). handler_row rows c.args.handler) c.as_slice.ensures.value
    ∙ ap (handler_row c.args.state.now.registry.items) (sym e)))

pub returns-in_default-private_scope : goal.returns-in_default-private_scope
unfolding state_of
returns-in_default-private_scope c = λ r e.
    no_step c.args.code.now c.args.state.now c.args.reported.now.items c.args.reported.now.items _
    (no_private_scope (code_of c.args.code.now.program) (state_of c.args.code.now c.args.state.now) c.args.index r
    c.in-Some.row
    (c.in-Some.ensures ∙ ap (λ (rows : List HandlerRow). handler_row rows c.args.handler) c.as_slice.ensures.value
    ∙ ap (handler_row c.args.state.now.registry.items) (sym e)) (sym c.in_default-private_scope.ensures))

pub returns-in_default-body_named : goal.returns-in_default-body_named
unfolding state_of
returns-in_default-body_named c = λ r e.
    no_step c.args.code.now c.args.state.now c.args.reported.now.items c.args.reported.now.items _
    (no_body (code_of c.args.code.now.program) (state_of c.args.code.now c.args.state.now) c.args.index r
    c.in-Some.row
    (c.in-Some.ensures ∙ ap (λ (rows : List HandlerRow). handler_row rows c.args.handler) c.as_slice.ensures.value
    ∙ ap (handler_row c.args.state.now.registry.items) (sym e)) c.in-Some-private_scope.scope
    (sym c.in-Some-private_scope.ensures)
    (ap (λ (name : List ℕ). body_named (code_of c.args.code.now.program).program c.in-Some.row.class name) (sym c.new.ensures)
    ∙ sym c.in_default-body_named.ensures))

pub returns : goal.returns
unfolding state_of
returns c = λ r e.
    try_of c.args.code.now c.started_with.new.state c.args.reported.now.items c.started_with.new.reported.items _ _
    (begins_with (code_of c.args.code.now.program) (state_of c.args.code.now c.args.state.now) c.args.index r
    c.in-Some.row
    (c.in-Some.ensures ∙ ap (λ (rows : List HandlerRow). handler_row rows c.args.handler) c.as_slice.ensures.value
    ∙ ap (handler_row c.args.state.now.registry.items) (sym e)) c.in-Some-private_scope.scope
    c.in-Some-body_named.body (sym c.in-Some-private_scope.ensures)
    (ap (λ (name : List ℕ). body_named (code_of c.args.code.now.program).program c.in-Some.row.class name) (sym c.new.ensures)
    ∙ sym c.in-Some-body_named.ensures))
    (c.in_ok-started_with.ensures)

pub started_with-requires-clause-few : goal.started_with-requires-clause-few
started_with-requires-clause-few c =
    c.requires.few c.in-Some.row
    (sym (c.in-Some.ensures ∙ ap (λ (rows : List HandlerRow). handler_row rows c.args.handler) c.as_slice.ensures.value))
