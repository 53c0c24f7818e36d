use Rattle.mission_steps.proofs.Releasing.{taken_step}
use Rattle.mission_steps.proofs.releases.release_taken.Goals as goal

pub returns : goal.returns
returns c = λ code.
    taken_step code c.args.state.now c.take_in.new.self c.args.handler c.in_ok-number.number c.event_of.result
    c.args.reported.now.items c.report.new.reported.items c.in_ok-number.ensures.taken (c.in_ok-number.ensures.seen code)
    c.event_of.ensures c.in_ok-report.ensures
