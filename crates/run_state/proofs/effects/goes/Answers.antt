use Rattle.std.proofs.Common.{[], refl, sym}
use Rattle.std.proofs.lemmas.List.{append-nil}
use Rattle.scj_model.specs.Apply.{applied}
use Rattle.run_state.specs.Seen.{state_of}
use Rattle.run_state.proofs.StepLemmas.{applied_reporting}
use Rattle.scj_model.specs.Effects.{Goes}
use Rattle.run_state.proofs.effects.goes.Goals as goal

pub returns : goal.returns
unfolding applied
returns c = λ code reported.
    applied_reporting code c.args.state.now c.args.acting c.args.activity Goes c.put_back.new.state reported reported
    (state_of code c.args.state.now) [] (λ f below. refl) (c.in_ok-put_back.ensures.put code) (sym (append-nil reported))
