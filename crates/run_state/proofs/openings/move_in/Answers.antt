use Rattle.run_state.proofs.CallLemmas.{moved_seen}
use Rattle.run_state.proofs.openings.move_in.Goals as goal

pub returns : goal.returns
returns c = record {
  moved = λ code g before h.
      moved_seen code g before c.args.activity.now c.move_into.new.frames c.push.new.self c.args.area h
      c.move_into.ensures.moved c.in_ok-push.ensures.pushed;
}
