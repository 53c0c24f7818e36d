use Rattle.std.specs.Prelude.{is_some, true}
use Rattle.std.proofs.Common.{◌≡◌, ◌∙◌, ℕ, List, Option, ap, subst}
use Rattle.scj_rules.specs.Words.{is_among}
use Rattle.scj_model.specs.Memory.{area_with_scope}
use Rattle.run_state.specs.Seen.{state_of}
use Rattle.run_state.proofs.Standing.{among_reversed}
use Rattle.run_state.proofs.openings.is_cycle.Goals as goal

pub area_with_scope-requires : goal.area_with_scope-requires
area_with_scope-requires c = λ i a e.
    c.requires a
    (subst (λ (xs : List ℕ). is_among a xs ≡ true) c.in_order.ensures (among_reversed c.in_order.result.now i a e))

pub returns : goal.returns
unfolding state_of
returns c = λ code.
    c.is_some.ensures ∙ ap (λ (o : Option ℕ). is_some o) (c.area_with_scope.ensures (state_of code c.args.state.now)
    ∙ ap (λ (areas : List ℕ). area_with_scope (state_of code c.args.state.now) c.args.scope areas) c.in_order.ensures)
