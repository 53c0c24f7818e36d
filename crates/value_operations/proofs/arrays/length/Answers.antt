use Rattle.scj_base.specs.declared.values.Value.TheVariants.{At}
use Rattle.scj_model.specs.Operations.{length_op}
use Rattle.job_frames.specs.EffectsSeen.{world}
use Rattle.value_operations.proofs.Pops.{does_as, one_popped}
use Rattle.value_operations.proofs.arrays.length.Goals as goal

pub returns-in-At-clause-does : goal.returns-in-At-clause-does
returns-in-At-clause-does c = λ code rows unit.
    does_as code _ _ c.length_of.result c.length_of.new.frame
    (one_popped code c.args.frame.now c.pop.new.self c.in-Some.array (At c.in-At.r)
    (length_op (world c.args.memory.now rows unit)) c.in-Some.ensures.some c.in-At.is)
    (c.length_of.ensures.does code)
