use Rattle.std.proofs.Common.{◌∙◌}
use Rattle.scj_model.specs.Code.{code_of}
use Rattle.job_frames.specs.EffectsSeen.{effect_seen}
use Rattle.call_operations.specs.Continued.{calling, objects_of}
use Rattle.call_operations.proofs.calls.call.Goals as goal

pub returns-in_default-clause-does : goal.returns-in_default-clause-does
unfolding effect_seen
returns-in_default-clause-does c rows unit = record {
  is = rw c.in_default.is at (c.in_ok-arguments.ensures.taken c.args.code.now
      (calling (code_of c.args.code.now.program) (objects_of c.args.memory.now) c.args.id c.args.selector.now.method));
}

pub returns-clause-does : goal.returns-clause-does
returns-clause-does c rows unit = record {
  is = (rw c.in-Some.is at (c.in_ok-arguments.ensures.taken c.args.code.now
      (calling (code_of c.args.code.now.program) (objects_of c.args.memory.now) c.args.id c.args.selector.now.method)))
      ∙ c.call_on.ensures.does.is;
}
