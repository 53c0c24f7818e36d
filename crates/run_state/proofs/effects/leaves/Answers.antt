use Rattle.std.proofs.Common.{refl}
use Rattle.run_state.proofs.StepLemmas.{try_of}
use Rattle.scj_model.specs.Apply.{applied}
use Rattle.run_state.proofs.effects.leaves.Goals as goal

pub returns : goal.returns
unfolding applied
returns c = λ code. record {
  tried = λ f below e. try_of code c.frame_left.new.state c.args.reported.now.items c.frame_left.new.reported.items _ _ refl
      (c.in_ok-frame_left.ensures code f below e);
}
