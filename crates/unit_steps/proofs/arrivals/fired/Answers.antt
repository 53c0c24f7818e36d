use Rattle.std.proofs.Common.{◌∙◌, sym}
use Rattle.run_state.specs.Seen.{state_of}
use Rattle.run_state.proofs.StepLemmas.{same_step}
use Rattle.unit_steps.proofs.Firing.{miss_reported, releases}
use Rattle.unit_steps.proofs.arrivals.fired.Goals as goal

pub returns-in_ok-release_taken-in-Some : goal.returns-in_ok-release_taken-in-Some
returns-in_ok-release_taken-in-Some c = λ code e.
    same_step code c.release_taken.new.state c.args.reported.now.items
    c.release_taken.new.reported.items _ _
    (releases code (state_of code c.args.state.now) c.args.fire.now
    c.in-Some.handler (sym c.in-Some.is ∙ c.in_ok-handler.ensures code e))
    (c.in_ok-release_taken-in-Some.ensures code)

pub returns-in_ok-report-in-None : goal.returns-in_ok-report-in-None
returns-in_ok-report-in-None c = λ code e.
    miss_reported code c.args.state.now c.args.fire.now c.args.reported.now.items
    c.report.new.reported.items (sym c.in-None.is ∙ c.in_ok-handler.ensures code e) c.in_ok-report-in-None.ensures
