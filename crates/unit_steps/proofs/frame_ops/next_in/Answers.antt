use Rattle.job_frames.specs.EffectsSeen.{world}
use Rattle.unit_steps.proofs.NextOperation.{next_done}
use Rattle.unit_steps.proofs.frame_ops.next_in.Goals as goal

pub operate-requires : goal.operate-requires
operate-requires c = record { asks = c.in-Some.ensures.asks; goes = c.in-Some.ensures.goes }

pub returns-in_ok-effect-in-Some : goal.returns-in_ok-effect-in-Some
returns-in_ok-effect-in-Some c = record {
  some =
      next_done c.args.code.now
      (world c.args.world.memory.now c.args.world.plan.now.readings c.args.world.unit)
      c.in-Some.row.op c.in_ok-effect-in-Some.effect c.args.frame.now c.next.new.self c.operate.new.frame
      c.in-Some.ensures.some c.next.ensures.same c.in_ok-effect-in-Some.ensures.does c.operate.ensures.opened
      c.next.ensures.opened;
  none = tt;
}
