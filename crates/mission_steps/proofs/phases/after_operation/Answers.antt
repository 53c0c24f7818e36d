use Rattle.std.proofs.Common.{◌∙◌, ap, option_map, Option, sym}
use Rattle.scj_model.specs.Code.{code_of}
use Rattle.scj_model.specs.Sequencer.{transition_done}
use Rattle.run_state.specs.Seen.{state_of}
use Rattle.run_state.proofs.StepLemmas.{try_of}
use Rattle.mission_steps.specs.declared.transitions.Transition.{Transition}
use Rattle.mission_steps.specs.Transitions.{transition_seen}
use Rattle.mission_steps.proofs.Done.{follows}
use Rattle.mission_steps.proofs.Going.{no_step}
use Rattle.mission_steps.proofs.Standing.{can_follow}
use Rattle.mission_steps.proofs.phases.after_operation.Goals as goal

pub returns-in_ok-transition_done-in-Some : goal.returns-in_ok-transition_done-in-Some
unfolding state_of
returns-in_ok-transition_done-in-Some c =
    try_of c.args.code.now c.transition_done.new.state c.args.reported.now.items c.transition_done.new.reported.items
    _ _
    (follows c.args.code.now (state_of c.args.code.now c.args.state.now) c.args.value
    c.skips_execution-skips.result c.what_follows.result c.skips_execution-skips.ensures c.what_follows.ensures
    ∙ ap (λ (found : Option Transition). option_map
    (transition_done (code_of c.args.code.now.program) (state_of c.args.code.now c.args.state.now))
    (option_map transition_seen found)) c.in-Some.is)
    (c.in_ok-transition_done-in-Some.ensures)

pub returns-in-None : goal.returns-in-None
unfolding state_of
returns-in-None c =
    no_step c.args.code.now c.args.state.now c.args.reported.now.items c.args.reported.now.items _
    (follows c.args.code.now (state_of c.args.code.now c.args.state.now) c.args.value
    c.skips_execution-skips.result c.what_follows.result c.skips_execution-skips.ensures c.what_follows.ensures
    ∙ ap (λ (found : Option Transition). option_map
    (transition_done (code_of c.args.code.now.program) (state_of c.args.code.now c.args.state.now))
    (option_map transition_seen found)) c.in-None.is)

pub transition_done-requires : goal.transition_done-requires
transition_done-requires c =
    can_follow c.args.state.now.memory c.args.state.now.activity.areas (transition_seen c.in-Some.next)
    c.args.state.now.mission_sequencer c.skips_execution-skips.result c.args.state.now.operation c.args.value
    c.requires.live c.requires.closes
    (sym c.what_follows.ensures ∙ ap (λ (found : Option Transition). option_map transition_seen found) c.in-Some.is)
