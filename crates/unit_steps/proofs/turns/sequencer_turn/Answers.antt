use Rattle.std.specs.Prelude.{true}
use Rattle.std.proofs.Common.{◌≡◌, ◌∙◌, ◌<◌, ℕ, ap, subst, sym}
use Rattle.scj_rules.specs.Words.{is_among}
use Rattle.scj_model.specs.Sequencer.{sequencer_op}
use Rattle.region_heap.specs.Contents.{is_open_area, open_count}
use Rattle.scj_model.specs.Code.{code_of}
use Rattle.mission_steps.specs.Standing.{IsOnLive}
use Rattle.run_state.specs.declared.states.RunState.{RunState}
use Rattle.run_state.specs.Seen.{state_of}
use Rattle.run_state.specs.Standing.{HasNumbers}
use Rattle.unit_steps.specs.Refused.{went}
use Rattle.unit_steps.proofs.Joins.{led_itself}
use Rattle.unit_steps.proofs.RefusedTurns.{body_refused, led_by, own_refused, refuses_as}
use Rattle.unit_steps.proofs.Turning.{led_as, sequencer_activity, with_frames, without_frames}
use Rattle.unit_steps.proofs.turns.sequencer_turn.Goals as goal

pub sequencer_op-requires : goal.sequencer_op-requires
sequencer_op-requires c =
    let same = sym c.in_ok-refusal.ensures.same in
    record {
      live = subst (λ (st : RunState). IsOnLive st.memory st.operation) same c.requires.live;
      areas = subst (λ (st : RunState). (a : ℕ) → is_among a st.activity.areas ≡ true →
          is_open_area st.memory a ≡ true) same c.requires.areas;
      numbers = subst (λ (st : RunState). HasNumbers st.memory) same c.requires.numbers;
      few = subst (λ (st : RunState). open_count st.memory < 1794) same c.requires.few;
    }

pub returns-then-depth-eq0-clause-led : goal.returns-then-depth-eq0-clause-led
returns-then-depth-eq0-clause-led c =
    let code = c.args.code.now in
    led_by code _ c.came_to.result c.in_ok-went.went c.sequencer_op.new.state c.args.reported.now.items
    c.sequencer_op.new.reported.items c.came_to.ensures.went
    (led_as code c.in_ok-went.went c.sequencer_op.new.state c.args.reported.now.items c.sequencer_op.new.reported.items _ _
    (without_frames code c.args.plan.now.readings c.args.state.now (sym c.depth.ensures ∙ c.if-depth-eq0.true)
    ∙ ap (λ (st : RunState). sequencer_op (code_of code.program) (state_of code st) st.operation) (sym c.in_ok-refusal.ensures.same))
    (led_itself code c.in_ok-went.went c.sequencer_op.new.state c.args.reported.now.items c.sequencer_op.new.reported.items _
    c.in_ok-went.ensures))

pub returns-then-depth-eq0-clause-refused : goal.returns-then-depth-eq0-clause-refused
returns-then-depth-eq0-clause-refused c =
    refuses_as c.came_to.result _ _
    (c.in_ok-refusal.ensures.refused
    ∙ sym (own_refused c.args.code.now c.args.plan.now.readings c.args.state.now
    (sym c.depth.ensures ∙ c.if-depth-eq0.true)))
    c.came_to.ensures.refused

pub returns-clause-led : goal.returns-clause-led
returns-clause-led c =
    led_as c.args.code.now (went c.in_ok-acted.acted) c.frame_op.new.state c.args.reported.now.items
    c.frame_op.new.reported.items _ _
    (with_frames c.args.code.now c.args.plan.now.readings c.args.state.now
    (λ e. c.if-depth-eq0.false (c.depth.ensures ∙ e)))
    (c.in_ok-acted.ensures.led (state_of c.args.code.now c.args.state.now).activity
    (sequencer_activity (state_of c.args.code.now c.args.state.now)))

pub returns-clause-refused : goal.returns-clause-refused
returns-clause-refused c =
    refuses_as c.in_ok-acted.acted _ _
    (sym (body_refused c.args.code.now c.args.plan.now.readings c.args.state.now
    (λ e. c.if-depth-eq0.false (c.depth.ensures ∙ e))))
    (c.in_ok-acted.ensures.refused (state_of c.args.code.now c.args.state.now).activity
    (sequencer_activity (state_of c.args.code.now c.args.state.now)))
