use Rattle.std.proofs.Common.{ap}
use Rattle.job_frames.specs.EffectsSeen.{world}
use Rattle.unit_steps.specs.Next.{top_rest}
use Rattle.unit_steps.proofs.NextOperation.{next_on_top, none_on_top}
use Rattle.unit_steps.proofs.frame_ops.next_on_top.Goals as goal

pub returns-in-Some-clause-some : goal.returns-in-Some-clause-some
returns-in-Some-clause-some c =
    next_on_top c.args.code.now
    (world c.args.world.memory.now c.args.world.plan.now.readings c.args.world.unit)
    c.args.frames.now c.in-Some.frame.now c.next_in.new.frame c.in-Some.ensures.some c.next_in.result c.next_in.ensures.some

pub returns-in-Some-clause-none : goal.returns-in-Some-clause-none
returns-in-Some-clause-none c =
    none_on_top c.args.code.now
    (world c.args.world.memory.now c.args.world.plan.now.readings c.args.world.unit)
    c.args.frames.now c.in-Some.frame.now c.next_in.new.frame c.in-Some.ensures.some c.next_in.result c.next_in.ensures.none

pub returns-in-None-clause-none : goal.returns-in-None-clause-none
returns-in-None-clause-none c = ap (top_rest c.args.code.now) c.in-None.ensures.none
