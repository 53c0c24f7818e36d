use Rattle.std.proofs.Common.{◌∙◌, sym}
use Rattle.run_state.specs.Seen.{state_of}
use Rattle.run_state.proofs.StepLemmas.{same_step}
use Rattle.mission_steps.proofs.Going.{still}
use Rattle.unit_steps.proofs.Firing.{comes, comes_not}
use Rattle.unit_steps.proofs.arrivals.fired_in.Goals as goal

pub returns-then-not-comes_in : goal.returns-then-not-comes_in
returns-then-not-comes_in c = λ code e.
    same_step code c.args.state.now c.args.reported.now.items c.args.reported.now.items _ _
    (comes_not code c.args.origin c.args.unit
    (state_of code c.args.state.now) c.args.fire.now
    (sym c.comes_in.ensures ∙ c.if-not-comes_in.true))
    (still code c.args.state.now c.args.reported.now.items)

pub returns : goal.returns
returns c = λ code e.
    same_step code c.fired.new.state c.args.reported.now.items c.fired.new.reported.items _ _
    (comes code c.args.origin c.args.unit
    (state_of code c.args.state.now) c.args.fire.now
    (sym c.comes_in.ensures ∙ c.if-not-comes_in.false))
    (c.in_ok-fired.ensures code e)
