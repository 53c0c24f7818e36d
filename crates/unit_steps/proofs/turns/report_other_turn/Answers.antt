use Rattle.std.proofs.Common.{List, ◌++◌, ap, sym, ◌∙◌}
use Rattle.std.proofs.lemmas.List.{append-nil}
use Rattle.scj_model.specs.declared.events.Event.{Event}
use Rattle.run_state.specs.Seen.{state_of, turn_seen}
use Rattle.unit_steps.proofs.Turning.{other_turn, same_turn}
use Rattle.unit_steps.proofs.turns.report_other_turn.Goals as goal

pub returns-then-is_last : goal.returns-then-is_last
unfolding state_of
returns-then-is_last c = λ code.
    sym (append-nil c.args.reported.now.items) ∙ ap (λ (es : List Event). c.args.reported.now.items ++ es)
    (sym (same_turn (state_of code c.args.state.now) (turn_seen c.args.turn)
    (sym c.is_last.ensures ∙ c.if-is_last.true)))

pub returns : goal.returns
unfolding state_of
returns c = λ code.
    c.in_ok-report_turn.ensures code ∙ ap (λ (es : List Event). c.args.reported.now.items ++ es)
    (sym (other_turn (state_of code c.args.state.now) (turn_seen c.args.turn)
    (sym c.is_last.ensures ∙ c.if-is_last.false)))
