use Rattle.job_frames.specs.Frames.{activity_seen}
use Rattle.run_state.proofs.ends.fault_in.Goals as goal

pub returns-in_ok-halted-in-Sequencer : goal.returns-in_ok-halted-in-Sequencer
returns-in_ok-halted-in-Sequencer c = λ code.
    rw c.in-Sequencer.is (c.in_ok-halted-in-Sequencer.ensures code (activity_seen code c.args.activity.now))
