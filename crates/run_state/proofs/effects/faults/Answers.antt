use Rattle.std.proofs.Common.{refl}
use Rattle.scj_model.specs.Apply.{applied}
use Rattle.run_state.proofs.StepLemmas.{applied_as}
use Rattle.scj_model.specs.Effects.{Faults}
use Rattle.run_state.proofs.effects.faults.Goals as goal

pub returns : goal.returns
unfolding applied
returns c = λ code.
    applied_as code c.args.state.now c.args.acting c.args.activity (λ f. Faults c.args.fault)
    c.fault_in.new.state c.args.reported.now.items c.fault_in.new.reported.items _ (λ f below e. refl)
    (c.in_ok-fault_in.ensures code)
