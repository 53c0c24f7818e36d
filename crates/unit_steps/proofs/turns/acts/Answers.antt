use Rattle.std.specs.Prelude.{Some}
use Rattle.std.proofs.Common.{◌∙◌, ap, subst, sym}
use Rattle.scj_model.specs.Code.{code_of}
use Rattle.area_needs.specs.Refusals.{refused_to_turn}
use Rattle.scj_model.specs.Choice.{by_priority}
use Rattle.scj_model.specs.Run.{turn_acts, turn_taken}
use Rattle.scj_model.specs.State.{ReleaseAt, Turn as TurnSeen}
use Rattle.run_state.specs.declared.states.RunState.{RunState}
use Rattle.run_state.specs.Seen.{state_of, turn_seen}
use Rattle.run_state.specs.Standing.{HasNumbers}
use Rattle.unit_steps.specs.Standing.{JobStands, StartStands}
use Rattle.unit_steps.specs.Refused.{went}
use Rattle.unit_steps.proofs.Composed.{then_led}
use Rattle.unit_steps.proofs.RefusedTurns.{chosen_refused, refuses_as, sequencer_refused, turn_refused}
use Rattle.unit_steps.proofs.Standing.{job_with_turn, start_with_turn}
use Rattle.unit_steps.proofs.Turning.{chosen_acts, led_as, sequencer_acts}
use Rattle.unit_steps.proofs.turns.acts.Goals as goal

pub returns-then-not-is_exec-clause-led : goal.returns-then-not-is_exec-clause-led
unfolding state_of
returns-then-not-is_exec-clause-led c =
    led_as c.args.code.now (went c.in_ok-acted.acted) c.sequencer_turn.new.state c.args.reported.now.items
    c.sequencer_turn.new.reported.items _ _
    (sequencer_acts c.args.code.now c.args.plan.now.readings
    (state_of c.args.code.now c.args.state.now) (sym c.is_exec.ensures ∙ c.if-not-is_exec.true))
    c.in_ok-acted.ensures.led

pub sequencer_turn-requires : goal.sequencer_turn-requires
sequencer_turn-requires c = record {
  numbers = c.requires.stands.numbers;
  few = c.requires.stands.few (sym c.is_exec.ensures ∙ c.if-not-is_exec.true);
  live = c.requires.stands.live;
  areas = c.requires.stands.areas;
  job = c.requires.stands.sequencer (sym c.is_exec.ensures ∙ c.if-not-is_exec.true);
}

pub turn_acts-requires : goal.turn_acts-requires
turn_acts-requires c =
    let code = c.args.code.now in
    let same = sym c.in_ok-turn_taken.ensures.same in
    record {
      numbers = subst (λ (st : RunState). HasNumbers st.memory) same c.requires.stands.numbers;
      start = λ index e. subst (λ (st : RunState). StartStands st index) same
          (start_with_turn c.args.state.now index (Some c.turn_of-turn.result)
          (c.requires.stands.start index (sym (c.turn_of-turn.ensures code) ∙ ap (λ (turn : TurnSeen). Some turn) e)));
      job = λ index e. subst (λ (st : RunState). JobStands code c.args.plan.now.readings st (ReleaseAt index)) same
          (job_with_turn code c.args.plan.now.readings c.args.state.now (ReleaseAt index) (Some c.turn_of-turn.result)
          (c.requires.stands.release index (sym (c.turn_of-turn.ensures code) ∙ ap (λ (turn : TurnSeen). Some turn) e)));
    }

pub returns-clause-led : goal.returns-clause-led
unfolding state_of
returns-clause-led c =
    led_as c.args.code.now (went c.in_ok-acted-2.acted) c.turn_acts.new.state c.args.reported.now.items
    c.turn_acts.new.reported.items _ _
    (chosen_acts c.args.code.now c.args.plan.now.readings
    (state_of c.args.code.now c.args.state.now) (turn_seen c.turn_of-turn.result)
    (sym c.is_exec.ensures ∙ c.if-not-is_exec.false) (c.turn_of-turn.ensures c.args.code.now))
    (then_led c.args.code.now (went c.in_ok-acted-2.acted) c.turn_acts.new.state c.args.reported.now.items
    c.turn_taken.new.reported.items c.turn_acts.new.reported.items
    (turn_taken (state_of c.args.code.now c.args.state.now) (turn_seen c.turn_of-turn.result))
    (turn_acts (code_of c.args.code.now.program) c.args.plan.now.readings (turn_seen c.turn_of-turn.result))
    c.turn_taken.new.state
    (c.in_ok-turn_taken.ensures.step c.args.code.now)
    c.in_ok-acted-2.ensures.led)

pub returns-then-not-is_exec-clause-refused : goal.returns-then-not-is_exec-clause-refused
unfolding state_of
returns-then-not-is_exec-clause-refused c =
    refuses_as c.in_ok-acted.acted _ _
    (sequencer_refused c.args.code.now c.args.plan.now.readings by_priority
    (state_of c.args.code.now c.args.state.now) (sym c.is_exec.ensures ∙ c.if-not-is_exec.true))
    c.in_ok-acted.ensures.refused

pub returns-clause-refused : goal.returns-clause-refused
unfolding state_of
returns-clause-refused c =
    let code = c.args.code.now in
    refuses_as c.in_ok-acted-2.acted _ _
    (ap (λ (st : RunState). refused_to_turn (code_of code.program) c.args.plan.now.readings (state_of code st)
    (turn_seen c.turn_of-turn.result)) c.in_ok-turn_taken.ensures.same
    ∙ (turn_refused code c.args.plan.now.readings c.args.state.now (Some c.turn_of-turn.result)
    (turn_seen c.turn_of-turn.result)
    ∙ chosen_refused code c.args.plan.now.readings by_priority (state_of code c.args.state.now)
    (turn_seen c.turn_of-turn.result) (sym c.is_exec.ensures ∙ c.if-not-is_exec.false) (c.turn_of-turn.ensures code)))
    c.in_ok-acted-2.ensures.refused
