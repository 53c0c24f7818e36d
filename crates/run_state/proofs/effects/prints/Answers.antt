use Rattle.std.proofs.Common.{◌∙◌, [], ap, refl}
use Rattle.scj_model.specs.Apply.{applied}
use Rattle.run_state.specs.Seen.{state_of}
use Rattle.run_state.proofs.StepLemmas.{applied_reporting}
use Rattle.std.proofs.Common.{◌∷◌, ◌++◌, ℤ, rules}
use Rattle.scj_model.specs.declared.events.Event.TheVariants.{Print}
use Rattle.scj_model.specs.Effects.{Prints}
use Rattle.run_state.proofs.effects.prints.Goals as goal

pub returns : goal.returns
unfolding applied state_of
returns c = λ code.
    applied_reporting code c.args.state.now c.args.acting c.args.activity (λ f. Prints f c.args.label c.args.value)
    c.put_back.new.state c.args.reported.now.items c.report.new.reported.items
    (state_of code c.args.state.now) (Print c.args.state.now.unit c.args.label c.args.value ∷ []) (λ f below. refl)
    (c.in_ok-put_back.ensures.put code)
    (c.in_ok-report.ensures
    ∙ ap (λ (v : ℤ). c.args.reported.now.items ++ (Print c.args.state.now.unit c.args.label v ∷ [])) (search rules))
