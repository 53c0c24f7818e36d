use Rattle.scj_model.specs.Code.{code_of}
use Rattle.job_frames.specs.EffectsSeen.{effect_seen}
use Rattle.call_operations.specs.Continued.{constructing}
use Rattle.call_operations.proofs.constructors.construct.Goals as goal

pub returns-in_default-clause-does : goal.returns-in_default-clause-does
unfolding effect_seen
returns-in_default-clause-does c code = record {
  is = rw c.in_default.is at (c.in_ok-arguments.ensures.taken code
      (constructing (code_of code.program) c.args.id c.args.body c.args.stays));
}

pub returns-clause-does : goal.returns-clause-does
returns-clause-does c code =
    rw (rw c.in-Some.is at (c.in_ok-arguments.ensures.taken code
    (constructing (code_of code.program) c.args.id c.args.body c.args.stays)))
    (c.construct_on.ensures.does code)
