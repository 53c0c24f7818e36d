use Rattle.std.proofs.Common.{refl}
use Rattle.scj_model.specs.Apply.{applied}
use Rattle.run_state.proofs.effects.is_stuck.Goals as goal

pub returns-clause-applied : goal.returns-clause-applied
unfolding applied
returns-clause-applied c = λ code was st acting activity before after.
    record { tried = λ f below e. record { went = refl; leads = λ done d. absurd (cc) } }
