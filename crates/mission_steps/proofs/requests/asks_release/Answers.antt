use Rattle.std.proofs.Common.{refl, subst}
use Rattle.scj_model.specs.State.{State}
use Rattle.scj_model.specs.Effects.{AsksRelease}
use Rattle.scj_model.specs.Apply.{applied, released}
use Rattle.run_state.specs.Steps.{IsStep}
use Rattle.mission_steps.proofs.Going.{effect_after}
use Rattle.mission_steps.proofs.requests.asks_release.Goals as goal

pub returns : goal.returns
unfolding applied
returns c =
    effect_after c.args.code.now c.args.state.now c.args.acting c.args.activity (λ f. AsksRelease f c.args.r)
    c.released.new.state c.args.reported.now.items c.released.new.reported.items (λ s. released s c.args.r) (λ f below. refl)
    (subst
    (λ (s : State). IsStep c.args.code.now (released s c.args.r) c.released.new.state
    c.args.reported.now.items
    c.released.new.reported.items) (c.in_ok-put_back.ensures.put c.args.code.now)
    (c.in_ok-released.ensures c.args.code.now))
