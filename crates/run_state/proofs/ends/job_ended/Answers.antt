use Rattle.scj_model.specs.Steps.{job_ended}
use Rattle.scj_model.specs.State.{TheSequencer}
use Rattle.job_frames.specs.Frames.{activity_seen}
use Rattle.run_state.specs.Seen.{state_of}
use Rattle.run_state.proofs.EndLemmas.{quiet}
use Rattle.run_state.proofs.ends.job_ended.Goals as goal

pub returns-in-Sequencer : goal.returns-in-Sequencer
returns-in-Sequencer c = λ code.
    rw c.in-Sequencer.is (quiet code
    (job_ended (state_of code c.args.state.now) TheSequencer (activity_seen code c.args.activity) c.args.value)
    c.sequencer_ended.new.state c.args.reported.now.items (c.sequencer_ended.ensures code))

pub returns-in_ok-release_ended-in-Release : goal.returns-in_ok-release_ended-in-Release
unfolding job_ended
returns-in_ok-release_ended-in-Release c = λ code.
    rw c.in-Release.is (c.in_ok-release_ended-in-Release.ensures code (activity_seen code c.args.activity))
