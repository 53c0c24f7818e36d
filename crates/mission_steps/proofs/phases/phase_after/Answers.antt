use Rattle.std.proofs.Common.{◌∙◌, sym}
use Rattle.run_state.specs.Seen.{state_of}
use Rattle.run_state.proofs.StepLemmas.{try_of}
use Rattle.mission_steps.proofs.Done.{after_done, after_in_execution, after_under_way}
use Rattle.mission_steps.proofs.Going.{as_try, still}
use Rattle.mission_steps.proofs.phases.phase_after.Goals as goal

pub returns-then-is_exec : goal.returns-then-is_exec
unfolding state_of
returns-then-is_exec c =
    as_try c.args.code.now c.in_ok-went.went c.after_execution.new.state c.args.reported.now.items
    c.after_execution.new.reported.items _ _
    (after_in_execution c.args.code.now (state_of c.args.code.now c.args.state.now)
    (sym c.is_exec.ensures ∙ c.if-is_exec.true))
    (c.in_ok-went.ensures)

pub returns-in_default : goal.returns-in_default
unfolding state_of
returns-in_default c =
    try_of c.args.code.now c.args.state.now c.args.reported.now.items c.args.reported.now.items _ _
    (after_under_way c.args.code.now (state_of c.args.code.now c.args.state.now)
    (sym c.is_exec.ensures ∙ c.if-is_exec.false) c.in_default.is)
    (still c.args.code.now c.args.state.now c.args.reported.now.items)

pub returns : goal.returns
unfolding state_of
returns c =
    as_try c.args.code.now c.in_ok-went-2.went c.after_operation.new.state c.args.reported.now.items
    c.after_operation.new.reported.items _ _
    (after_done c.args.code.now (state_of c.args.code.now c.args.state.now) c.in-Some.value
    (sym c.is_exec.ensures ∙ c.if-is_exec.false) c.in-Some.is)
    (c.in_ok-went-2.ensures)

pub after_operation-requires-clause-closes : goal.after_operation-requires-clause-closes
after_operation-requires-clause-closes c = c.requires.closes c.in-Some.value (sym c.is_exec.ensures ∙ c.if-is_exec.false) c.in-Some.is
