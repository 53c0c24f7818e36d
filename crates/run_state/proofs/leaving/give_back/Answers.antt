use Rattle.std.proofs.Common.{◌∙◌, List, ap, sym}
use Rattle.scj_model.specs.State.{Activity, Frame}
use Rattle.job_frames.specs.Frames.{activity_seen, frames_of}
use Rattle.run_state.proofs.LeavingLemmas.{returned_none, returned_seen}
use Rattle.run_state.proofs.leaving.give_back.Goals as goal

pub returns-in_ok-push_on_top-in-Some : goal.returns-in_ok-push_on_top-in-Some
returns-in_ok-push_on_top-in-Some c = record {
  given = λ code.
      rw c.in-Some.is
      (ap
      (λ (fs : List Frame). (let a : Activity = record (activity_seen code c.args.activity.now) { frames = fs } in a))
      (ap (frames_of code) c.in_ok-push_on_top-in-Some.ensures.pushed
      ∙ returned_seen code c.in-Some.value c.args.activity.now.frames));
}

pub returns-in-None : goal.returns-in-None
returns-in-None c = record {
  given = λ code.
      rw c.in-None.is
      (ap
      (λ (fs : List Frame). (let a : Activity = record (activity_seen code c.args.activity.now) { frames = fs } in a))
      (sym (returned_none (frames_of code c.args.activity.now.frames))));
}
