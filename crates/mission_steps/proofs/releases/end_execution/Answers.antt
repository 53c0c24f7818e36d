use Rattle.mission_steps.proofs.Releasing.{ended_step}
use Rattle.mission_steps.proofs.releases.end_execution.Goals as goal

pub returns : goal.returns
returns c = λ code.
    ended_step code c.args.state.now c.drop_waiting.new.self c.args.reported.now.items c.report.new.reported.items
    c.drop_waiting.new.reported.items c.in_ok-drop_waiting.ensures.dropped (c.in_ok-drop_waiting.ensures.seen code)
    (c.in_ok-drop_waiting.ensures.reported code) c.in_ok-report.ensures
