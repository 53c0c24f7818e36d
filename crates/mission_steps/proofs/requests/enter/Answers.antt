use Rattle.std.proofs.Common.{refl}
use Rattle.scj_model.specs.State.{with_activity}
use Rattle.job_frames.specs.Frames.{activity_seen}
use Rattle.run_state.specs.Seen.{job_seen, state_of}
use Rattle.mission_steps.proofs.Registering.{entered}
use Rattle.mission_steps.proofs.requests.enter.Goals as goal

pub returns : goal.returns
unfolding state_of
returns c =
    entered c.args.code.now c.args.state.now c.put_back.new.state
    (with_activity (state_of c.args.code.now c.args.state.now) (job_seen c.args.job)
    (activity_seen c.args.code.now c.args.activity)) c.args.row c.push.new.self.items c.args.reported.now.items
    c.report_registered.new.reported.items (c.in_ok-put_back.ensures.put c.args.code.now)
    c.in_ok-push.ensures.items c.in_ok-report_registered.ensures _ refl
