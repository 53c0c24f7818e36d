use Rattle.std.proofs.Common.{◌∙◌, sym}
use Rattle.run_state.specs.Seen.{state_of}
use Rattle.run_state.proofs.StepLemmas.{try_of}
use Rattle.mission_steps.proofs.Done.{over_not_asked, over_now, over_still_started, over_without_mission}
use Rattle.mission_steps.proofs.Going.{no_step, still}
use Rattle.mission_steps.proofs.phases.after_execution.Goals as goal

pub returns-then-not-state : goal.returns-then-not-state
unfolding state_of
returns-then-not-state c =
    try_of c.args.code.now c.args.state.now c.args.reported.now.items c.args.reported.now.items _ _
    (over_not_asked c.args.code.now (state_of c.args.code.now c.args.state.now) c.if-not-state.true)
    (still c.args.code.now c.args.state.now c.args.reported.now.items)

pub returns-then-has_started : goal.returns-then-has_started
unfolding state_of
returns-then-has_started c =
    try_of c.args.code.now c.args.state.now c.args.reported.now.items c.args.reported.now.items _ _
    (over_still_started c.args.code.now (state_of c.args.code.now c.args.state.now)
    (sym (c.has_started.ensures c.args.code.now (state_of c.args.code.now c.args.state.now))
    ∙ c.if-has_started.true))
    (still c.args.code.now c.args.state.now c.args.reported.now.items)

pub returns-in_default : goal.returns-in_default
unfolding state_of
returns-in_default c =
    no_step c.args.code.now c.args.state.now c.args.reported.now.items c.args.reported.now.items _
    (over_without_mission c.args.code.now (state_of c.args.code.now c.args.state.now)
    c.if-not-state.false
    (sym (c.has_started.ensures c.args.code.now (state_of c.args.code.now c.args.state.now))
    ∙ c.if-has_started.false) c.in_default.is)

pub returns : goal.returns
unfolding state_of
returns c =
    try_of c.args.code.now c.transition_done.new.state c.args.reported.now.items c.transition_done.new.reported.items
    _ _
    (over_now c.args.code.now (state_of c.args.code.now c.args.state.now) c.in-Some.mission
    c.if-not-state.false
    (sym (c.has_started.ensures c.args.code.now (state_of c.args.code.now c.args.state.now))
    ∙ c.if-has_started.false) c.in-Some.is)
    (c.in_ok-transition_done.ensures)
