use Rattle.job_frames.specs.EffectsSeen.{effect_seen}
use Rattle.call_operations.specs.Continued.{passing}
use Rattle.call_operations.proofs.params.sequencer.Goals as goal

pub returns-in_default-clause-does : goal.returns-in_default-clause-does
unfolding effect_seen
returns-in_default-clause-does c code = record {
  is = rw c.in_default.is at (c.in_ok-values.ensures.taken code passing);
}

pub returns-clause-does : goal.returns-clause-does
returns-clause-does c code =
    rw (rw c.in-Some.is at (c.in_ok-values.ensures.taken code passing))
    (rw c.deref.ensures.value at (c.sequencer_parameters.ensures code c.pop_all.new.self))
