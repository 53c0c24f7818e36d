use Rattle.std.proofs.Common.{◌∙◌, sym}
use Rattle.run_state.specs.Seen.{state_of}
use Rattle.run_state.proofs.StepLemmas.{same_step}
use Rattle.mission_steps.proofs.Going.{still}
use Rattle.mission_steps.proofs.Releasing.{asked_in_vain, asked_to_end}
use Rattle.mission_steps.proofs.releases.termination_asked.Goals as goal

pub returns-in_ok-termination : goal.returns-in_ok-termination
unfolding state_of
returns-in_ok-termination c = λ code.
    same_step code c.termination.new.state c.args.reported.now.items c.termination.new.reported.items _ _
    (asked_to_end (state_of code c.args.state.now) c.args.r
    (sym c.asks_for_end.ensures ∙ c.if-asks_for_end.true)) (c.in_ok-termination.ensures code)

pub returns-else-asks_for_end : goal.returns-else-asks_for_end
unfolding state_of
returns-else-asks_for_end c = λ code.
    same_step code c.args.state.now c.args.reported.now.items c.args.reported.now.items _ _
    (asked_in_vain (state_of code c.args.state.now) c.args.r
    (sym c.asks_for_end.ensures ∙ c.if-asks_for_end.false))
    (still code c.args.state.now c.args.reported.now.items)
