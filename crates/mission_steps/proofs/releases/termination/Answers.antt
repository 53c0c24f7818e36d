use Rattle.std.proofs.Common.{◌∙◌, refl, sym, true}
use Rattle.run_state.specs.declared.states.RunState.{RunState}
use Rattle.run_state.specs.Seen.{state_of}
use Rattle.run_state.proofs.StepLemmas.{same_step}
use Rattle.mission_steps.proofs.Going.{quietly}
use Rattle.mission_steps.proofs.Releasing.{ends_in_execution, kept_until_execution}
use Rattle.mission_steps.proofs.releases.termination.Goals as goal

pub returns-in_ok-end_execution : goal.returns-in_ok-end_execution
unfolding state_of
returns-in_ok-end_execution c = λ code.
    same_step code c.end_execution.new.state c.args.reported.now.items c.end_execution.new.reported.items _ _
    (ends_in_execution (state_of code c.args.state.now) (sym c.is_exec.ensures ∙ c.if-is_exec.true))
    (c.in_ok-end_execution.ensures code)

pub returns-else-is_exec : goal.returns-else-is_exec
unfolding state_of
returns-else-is_exec c = λ code.
    let st : RunState = record c.args.state.now { is_end_asked = true } in
    same_step code st c.args.reported.now.items c.args.reported.now.items _ _
    (kept_until_execution (state_of code c.args.state.now) (sym c.is_exec.ensures ∙ c.if-is_exec.false))
    (quietly code st c.args.reported.now.items (state_of code st) refl)
