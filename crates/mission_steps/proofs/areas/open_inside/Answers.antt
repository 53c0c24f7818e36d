use Rattle.std.proofs.Common.{Some, None}
use Rattle.scj_model.specs.State.{TheSequencer}
use Rattle.run_state.specs.Seen.{state_of}
use Rattle.mission_steps.proofs.Openings.{is_opened, not_opened, opened_inside}
use Rattle.mission_steps.proofs.areas.open_inside.Goals as goal

pub returns-in_ok-push-in-Some : goal.returns-in_ok-push-in-Some
returns-in_ok-push-in-Some c = λ code.
    opened_inside code c.args.state.now c.args.position c.args.scope c.args.bytes c.open_area.new.state c.push.new.self
    c.in-Some.area c.args.reported.now.items
    (is_opened code c.args.state.now c.args.position c.args.scope c.args.bytes c.innermost-parent.result
    c.open_area.result (Some c.in-Some.area) (state_of code c.open_area.new.state) c.innermost-parent.ensures
    c.in-Some.is
    (c.open_area.ensures.opened code TheSequencer (state_of code c.args.state.now).activity c.args.position))
    c.in_ok-push-in-Some.ensures.pushed

pub returns-in_ok-halted-in-None : goal.returns-in_ok-halted-in-None
returns-in_ok-halted-in-None c = λ code.
    not_opened code c.args.state.now c.args.position c.args.scope c.args.bytes c.open_area.new.state c.halted.new.state
    c.args.reported.now.items c.halted.new.reported.items
    (is_opened code c.args.state.now c.args.position c.args.scope c.args.bytes c.innermost-parent.result
    c.open_area.result None (state_of code c.open_area.new.state) c.innermost-parent.ensures c.in-None.is
    (c.open_area.ensures.opened code TheSequencer (state_of code c.args.state.now).activity c.args.position))
    (c.in_ok-halted-in-None.ensures code (state_of code c.args.state.now).activity)
