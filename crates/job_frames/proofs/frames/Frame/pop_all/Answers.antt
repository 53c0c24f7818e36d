use Rattle.job_frames.proofs.Popping.{popped}
use Rattle.job_frames.proofs.frames.Frame.pop_all.Goals as goal

pub returns-clause-taken : goal.returns-clause-taken
returns-clause-taken c =
    λ code next. popped (λ v. v.items) code c.args.self.now c.args.count c.pop_all.new.self next c.pop_all.result
    c.pop_all.ensures.some c.pop_all.ensures.count c.pop_all.ensures.none
