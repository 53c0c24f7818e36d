use Rattle.std.specs.Prelude.{Some, None}
use Rattle.std.proofs.Common.{◌∙◌, ap}
use Rattle.scj_model.specs.State.{State}
use Rattle.scj_model.specs.Choice.{chosen}
use Rattle.run_state.specs.Seen.{state_of}
use Rattle.unit_steps.proofs.Turning.{seen_by_choice, turn_is}
use Rattle.unit_steps.proofs.turns.turn_of.Goals as goal

pub returns-in-Some : goal.returns-in-Some
returns-in-Some c = λ code.
    turn_is (state_of code c.args.state.now) (Some c.in-Some.index)
    (c.in-Some.ensures code (state_of code c.args.state.now)
    ∙ ap (λ (s : State). chosen s)
    (seen_by_choice code c.args.state.now c.as_slice.result.now c.as_slice.ensures.value))

pub returns-in-None : goal.returns-in-None
returns-in-None c = λ code.
    turn_is (state_of code c.args.state.now) None
    (c.in-None.ensures code (state_of code c.args.state.now)
    ∙ ap (λ (s : State). chosen s)
    (seen_by_choice code c.args.state.now c.as_slice.result.now c.as_slice.ensures.value))
