use Rattle.std.proofs.Common.{refl, subst}
use Rattle.scj_model.specs.State.{State}
use Rattle.scj_model.specs.Effects.{AsksTermination}
use Rattle.scj_model.specs.Apply.{applied, termination_asked}
use Rattle.run_state.specs.Steps.{IsStep}
use Rattle.mission_steps.proofs.Going.{effect_after}
use Rattle.mission_steps.proofs.requests.asks_termination.Goals as goal

pub returns : goal.returns
unfolding applied
returns c =
    effect_after c.args.code.now c.args.state.now c.args.acting c.args.activity
    (λ f. AsksTermination f c.args.r)
    c.termination_asked.new.state c.args.reported.now.items c.termination_asked.new.reported.items
    (λ s. termination_asked s c.args.r) (λ f below. refl)
    (subst
    (λ (s : State). IsStep c.args.code.now (termination_asked s c.args.r) c.termination_asked.new.state
    c.args.reported.now.items
    c.termination_asked.new.reported.items) (c.in_ok-put_back.ensures.put c.args.code.now)
    (c.in_ok-termination_asked.ensures c.args.code.now))
