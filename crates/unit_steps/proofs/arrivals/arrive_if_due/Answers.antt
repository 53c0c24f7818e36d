use Rattle.std.proofs.Common.{◌∙◌, sym}
use Rattle.run_state.specs.Seen.{state_of}
use Rattle.run_state.proofs.StepLemmas.{same_step}
use Rattle.mission_steps.proofs.Going.{still}
use Rattle.unit_steps.proofs.Arriving.{arrives, stays_away}
use Rattle.unit_steps.proofs.arrivals.arrive_if_due.Goals as goal

pub returns-then-not-is_due_at : goal.returns-then-not-is_due_at
unfolding state_of
returns-then-not-is_due_at c = λ code.
    same_step code c.args.state.now c.args.reported.now.items c.args.reported.now.items _ _
    (stays_away (state_of code c.args.state.now) c.args.index (sym c.is_due_at.ensures ∙ c.if-not-is_due_at.true))
    (still code c.args.state.now c.args.reported.now.items)

pub returns : goal.returns
unfolding state_of
returns c = λ code.
    same_step code c.release_taken.new.state c.args.reported.now.items c.release_taken.new.reported.items _ _
    (arrives (state_of code c.args.state.now) c.args.index c.in_ok-number.number
    (sym c.is_due_at.ensures ∙ c.if-not-is_due_at.false) c.in_ok-number.ensures)
    (c.in_ok-release_taken.ensures code)
