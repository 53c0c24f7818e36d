use Rattle.job_frames.specs.EffectsSeen.{effect_seen}
use Rattle.call_operations.specs.Continued.{keeping}
use Rattle.call_operations.proofs.params.aperiodic.Goals as goal

pub returns-in_default-clause-does : goal.returns-in_default-clause-does
unfolding effect_seen
returns-in_default-clause-does c code = record {
  is = rw c.in_default.is at (c.in_ok-values.ensures.taken code (keeping c.args.r));
}

pub returns-clause-does : goal.returns-clause-does
returns-clause-does c code =
    rw (rw c.in-Some.is at (c.in_ok-values.ensures.taken code (keeping c.args.r)))
    (rw c.deref.ensures.value at (c.aperiodic_parameters.ensures code c.pop_all.new.self))
