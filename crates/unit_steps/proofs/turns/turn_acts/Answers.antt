use Rattle.std.specs.Prelude.{Some, true}
use Rattle.std.proofs.Common.{ap, refl}
use Rattle.area_needs.specs.Refusals.{refused_to_turn}
use Rattle.scj_model.specs.Steps.{silently}
use Rattle.scj_model.specs.Run.{turn_acts}
use Rattle.run_state.specs.Seen.{state_of, turn_seen}
use Rattle.run_state.proofs.StepLemmas.{try_of}
use Rattle.mission_steps.proofs.Going.{still}
use Rattle.unit_steps.proofs.Joins.{led_itself}
use Rattle.unit_steps.proofs.turns.turn_acts.Goals as goal

pub returns-in-Idle-clause-led : goal.returns-in-Idle-clause-led
unfolding turn_acts
returns-in-Idle-clause-led c =
    rw c.in-Idle.is (led_itself c.args.code.now true c.args.state.now c.args.reported.now.items
    c.args.reported.now.items (Some (silently (state_of c.args.code.now c.args.state.now)))
    (try_of c.args.code.now c.args.state.now c.args.reported.now.items c.args.reported.now.items
    (Some (silently (state_of c.args.code.now c.args.state.now)))
    (silently (state_of c.args.code.now c.args.state.now)) refl
    (still c.args.code.now c.args.state.now c.args.reported.now.items)))

pub returns-in-Idle-clause-refused : goal.returns-in-Idle-clause-refused
unfolding refused_to_turn
returns-in-Idle-clause-refused c = rw c.in-Idle.is refl

pub returns-in_ok-acted-in-Of-clause-led : goal.returns-in_ok-acted-in-Of-clause-led
unfolding turn_acts
returns-in_ok-acted-in-Of-clause-led c = rw c.in-Of.is (c.in_ok-acted-in-Of.ensures.led)

pub returns-in_ok-acted-in-Of-clause-refused : goal.returns-in_ok-acted-in-Of-clause-refused
returns-in_ok-acted-in-Of-clause-refused c = rw c.in-Of.is (c.in_ok-acted-in-Of.ensures.refused)

pub release_turn-requires-clause-job : goal.release_turn-requires-clause-job
release_turn-requires-clause-job c = c.requires.job c.in-Of.index (ap turn_seen c.in-Of.is)

pub release_turn-requires-clause-start : goal.release_turn-requires-clause-start
release_turn-requires-clause-start c = c.requires.start c.in-Of.index (ap turn_seen c.in-Of.is)
