use Rattle.std.proofs.Common.{◌∙◌, List, ap, sym}
use Rattle.scj_model.specs.declared.handlers.HandlerRow.{HandlerRow}
use Rattle.scj_model.specs.Registry.{aperiodic_of}
use Rattle.run_state.specs.Seen.{state_of}
use Rattle.unit_steps.proofs.Firing.{no_class, no_release_taken, of_class}
use Rattle.unit_steps.proofs.arrivals.fired_handler.Goals as goal

pub returns-then-not-takes_releases : goal.returns-then-not-takes_releases
unfolding state_of
returns-then-not-takes_releases c = λ code e.
    rw e (sym (no_release_taken c.args.classes.now (state_of code c.args.state.now) c.args.name.now
    (sym (c.takes_releases.ensures code) ∙ c.if-not-takes_releases.true)))

pub returns-in_default : goal.returns-in_default
unfolding state_of
returns-in_default c = λ code e.
    rw e (sym (no_class c.args.classes.now (state_of code c.args.state.now) c.args.name.now
    (sym (c.takes_releases.ensures code) ∙ c.if-not-takes_releases.false) c.in_default.ensures))

pub returns : goal.returns
unfolding state_of
returns c = λ code e.
    rw e (c.in_ok-handler.ensures
    ∙ ap (λ (rows : List HandlerRow). aperiodic_of rows c.in-Some.class) c.as_slice.ensures.value
    ∙ sym (of_class c.args.classes.now (state_of code c.args.state.now) c.args.name.now
    c.in-Some.class (sym (c.takes_releases.ensures code) ∙ c.if-not-takes_releases.false)
    c.in-Some.ensures))
