use Rattle.std.proofs.Common.{List, ap}
use Rattle.job_frames.specs.declared.frames.Frame.{Frame as StoredFrame}
use Rattle.run_state.proofs.calls.put_on_top.Goals as goal

pub returns : goal.returns
returns c = record {
  put = record {
    frame = c.in_ok-frame.frame;
    seen = c.in_ok-frame.ensures;
    whole = ap (λ (fs : List StoredFrame). record c.args.activity.now { frames = fs }) c.in_ok-push.ensures.pushed;
  };
}
