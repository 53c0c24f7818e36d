use Rattle.run_state.specs.Seen.{state_of}
use Rattle.mission_steps.proofs.applied.transition_done.Goals as goal

pub returns : goal.returns
unfolding state_of
returns c =
    c.in_ok-seq_applied.ensures
