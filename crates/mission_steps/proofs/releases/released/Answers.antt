use Rattle.std.proofs.Common.{◌∙◌, List, ap, sym}
use Rattle.scj_model.specs.declared.handlers.HandlerRow.{HandlerRow}
use Rattle.scj_model.specs.Registry.{handler_number}
use Rattle.run_state.specs.Seen.{state_of}
use Rattle.run_state.proofs.StepLemmas.{same_step}
use Rattle.mission_steps.proofs.Going.{still}
use Rattle.mission_steps.proofs.Releasing.{released_handler, released_nobody, released_nothing}
use Rattle.mission_steps.proofs.releases.released.Goals as goal

pub returns-then-not-takes_releases : goal.returns-then-not-takes_releases
unfolding state_of
returns-then-not-takes_releases c = λ code.
    same_step code c.args.state.now c.args.reported.now.items c.args.reported.now.items _ _
    (released_nothing (state_of code c.args.state.now) c.args.r
    (sym (c.takes_releases.ensures code) ∙ c.if-not-takes_releases.true))
    (still code c.args.state.now c.args.reported.now.items)

pub returns-in_ok-release_taken-in-Some : goal.returns-in_ok-release_taken-in-Some
unfolding state_of
returns-in_ok-release_taken-in-Some c = λ code.
    same_step code c.release_taken.new.state c.args.reported.now.items c.release_taken.new.reported.items _ _
    (released_handler (state_of code c.args.state.now) c.args.r c.in-Some.handler
    (sym (c.takes_releases.ensures code) ∙ c.if-not-takes_releases.false)
    (ap (λ (rows : List HandlerRow). handler_number rows c.args.r) (sym c.as_slice.ensures.value)
    ∙ (sym c.in_ok-handler.ensures ∙ c.in-Some.is)))
    (c.in_ok-release_taken-in-Some.ensures code)

pub returns-in-None : goal.returns-in-None
unfolding state_of
returns-in-None c = λ code.
    same_step code c.args.state.now c.args.reported.now.items c.args.reported.now.items _ _
    (released_nobody (state_of code c.args.state.now) c.args.r
    (sym (c.takes_releases.ensures code) ∙ c.if-not-takes_releases.false)
    (ap (λ (rows : List HandlerRow). handler_number rows c.args.r) (sym c.as_slice.ensures.value)
    ∙ (sym c.in_ok-handler.ensures ∙ c.in-None.is)))
    (still code c.args.state.now c.args.reported.now.items)
