use Rattle.job_frames.specs.Frames.{activity_seen}
use Rattle.run_state.proofs.LeavingLemmas.{stepped}
use Rattle.run_state.proofs.leaving.step_down.Goals as goal

pub returns : goal.returns
returns c = record {
  after = λ code f rest e.
      stepped code c.args.activity.now c.drop_top.new.self c.remove.new.self c.unwrap_or-activity.result f rest
      c.args.value c.args.left.opened c.args.left.saved (activity_seen code c.give_back.new.activity) e
      c.drop_top.ensures c.remove.ensures c.unwrap_or-activity.ensures (c.in_ok-give_back.ensures.given code);
}
