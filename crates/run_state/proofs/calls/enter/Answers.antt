use Rattle.run_state.proofs.CallLemmas.{entered_seen}
use Rattle.run_state.proofs.calls.enter.Goals as goal

pub returns : goal.returns
returns c = record {
  entered = λ code g before h.
      entered_seen code g before c.args.activity.now c.save_priority.new.frames c.args.ceiling h
      c.save_priority.ensures.saved;
}
