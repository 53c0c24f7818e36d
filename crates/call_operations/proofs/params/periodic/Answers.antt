use Rattle.job_frames.specs.EffectsSeen.{effect_seen}
use Rattle.scj_model.specs.Operations.{periodic_parameters}
use Rattle.call_operations.proofs.params.periodic.Goals as goal

pub returns-in_default-clause-does : goal.returns-in_default-clause-does
unfolding effect_seen
returns-in_default-clause-does c code = record {
  is = rw c.in_default.is at (c.in_ok-values.ensures.taken code (λ values f. periodic_parameters f c.args.r values));
}

pub returns-clause-does : goal.returns-clause-does
returns-clause-does c code =
    rw (rw c.in-Some.is at (c.in_ok-values.ensures.taken code (λ values f. periodic_parameters f c.args.r values)))
    (rw c.deref.ensures.value at (c.periodic_parameters.ensures code c.pop_all.new.self))
