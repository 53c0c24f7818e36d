use Rattle.scj_base.specs.declared.values.Value.TheVariants.{At}
use Rattle.scj_model.specs.Code.{code_of}
use Rattle.scj_model.specs.State.{Frame}
use Rattle.op_list.specs.Meanings.{get}
use Rattle.job_frames.specs.EffectsSeen.{world}
use Rattle.value_operations.proofs.Pops.{does_as, one_popped}
use Rattle.value_operations.proofs.names.get.Goals as goal

pub returns-in-At-clause-does : goal.returns-in-At-clause-does
returns-in-At-clause-does c = λ rows unit.
    does_as c.args.code.now _ _ c.get_from.result c.get_from.new.frame
    (one_popped c.args.code.now c.args.frame.now c.pop.new.self c.in-Some.object (At c.in-At.r)
    (λ (f : Frame). get (code_of c.args.code.now.program) (world c.args.memory.now rows unit) f c.args.field)
    c.in-Some.ensures.some c.in-At.is)
    c.get_from.ensures.does
