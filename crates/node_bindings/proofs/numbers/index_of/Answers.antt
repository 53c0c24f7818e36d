use Rattle.std.proofs.Common.{Some, sym, ap, refl, ◌∙◌}
use Rattle.scj_rules.specs.Contexts.{declarations_of}
use Rattle.node_contexts.proofs.CountLemmas.{place_is}
use Rattle.node_bindings.proofs.numbers.index_of.Goals as goal

pub returns-then-is_variable_of : goal.returns-then-is_variable_of
returns-then-is_variable_of c = ap (λ n. Some n) c.row_or.ensures
    ∙ sym (place_is (declarations_of c.args.facts.now) c.args.member c.args.variable c.args.numbers.now
    c.requires ∙ (rw (sym c.is_variable_of.ensures ∙ c.if-is_variable_of.true) refl))

pub returns-else-is_variable_of : goal.returns-else-is_variable_of
returns-else-is_variable_of c =
    sym (place_is (declarations_of c.args.facts.now) c.args.member c.args.variable c.args.numbers.now
    c.requires ∙ (rw (sym c.is_variable_of.ensures ∙ c.if-is_variable_of.false) refl))
