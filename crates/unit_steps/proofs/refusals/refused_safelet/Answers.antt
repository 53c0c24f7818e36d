use Rattle.std.specs.Prelude.{List, length}
use Rattle.std.proofs.Common.{◌∙◌, ℕ, ap}
use Rattle.scj_base.specs.declared.values.Value.{Value}
use Rattle.scj_rules.specs.Bodies.{safelet_class}
use Rattle.scj_rules.specs.Contexts.{declarations_of}
use Rattle.scj_tree.specs.Forest.{Forest}
use Rattle.scj_model.specs.Code.{code_of}
use Rattle.scj_model.specs.Memory.{new_slots}
use Rattle.area_needs.specs.Refusals.{refused_in}
use Rattle.mission_steps.proofs.Standing.{innermost_among}
use Rattle.run_state.specs.Seen.{state_of}
use Rattle.unit_steps.proofs.OpenScopes.{none_made, none_there, safelet_refused}
use Rattle.unit_steps.proofs.refusals.refused_safelet.Goals as goal

pub returns-in_default-clause-refused : goal.returns-in_default-clause-refused
unfolding code_of
returns-in_default-clause-refused c =
    none_made (code_of c.args.code.now.program) (state_of c.args.code.now c.args.state.now)
    (c.in_default.ensures ∙ ap (λ (f : Forest). safelet_class (declarations_of f)) (c.layout.ensures ∙ c.code.ensures))

pub returns-in_default-innermost-clause-refused : goal.returns-in_default-innermost-clause-refused
unfolding code_of state_of
returns-in_default-innermost-clause-refused c =
    none_there (code_of c.args.code.now.program) (state_of c.args.code.now c.args.state.now) c.in-Some.class
    (c.in-Some.ensures ∙ ap (λ (f : Forest). safelet_class (declarations_of f)) (c.layout.ensures ∙ c.code.ensures))
    c.in_default-innermost.ensures

pub refused_in-requires-clause-open : goal.refused_in-requires-clause-open
refused_in-requires-clause-open c =
    c.requires.areas c.in-Some-innermost.area
    (innermost_among c.args.state.now.activity.areas c.in-Some-innermost.area c.in-Some-innermost.ensures)

pub returns-clause-refused : goal.returns-clause-refused
unfolding code_of state_of
returns-clause-refused c =
    safelet_refused (code_of c.args.code.now.program) (state_of c.args.code.now c.args.state.now) c.in-Some.class
    c.in-Some-innermost.area c.in_ok-refusal.refusal
    (c.in-Some.ensures ∙ ap (λ (f : Forest). safelet_class (declarations_of f)) (c.layout.ensures ∙ c.code.ensures))
    c.in-Some-innermost.ensures
    (c.in_ok-refusal.ensures.refused (state_of c.args.code.now c.args.state.now)
    ∙ ap (λ (n : ℕ). refused_in (state_of c.args.code.now c.args.state.now) c.in-Some-innermost.area n)
    ((c.len.ensures ∙ c.in_ok-slots.slots.ok.0)
    ∙ (ap (λ (slots : List Value). length slots) c.in_ok-slots.ensures
    ∙ ap (λ (f : Forest). length (new_slots (declarations_of f) c.in-Some.class)) (c.layout-2.ensures ∙ c.code-2.ensures))))
