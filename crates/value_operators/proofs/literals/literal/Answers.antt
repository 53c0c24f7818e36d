-- A node of a checked program has an int, if it is a number.
use Rattle.std.proofs.Common.{slice_get, sym, ap, ◌∙◌}
use Rattle.std.specs.Prelude.{option_copied}
use Rattle.scj_tree.specs.Forest.{Forest}
use Rattle.value_operators.proofs.LiteralLemmas.{literal_has_int}
use Rattle.value_operators.proofs.literals.literal.Goals as goal

pub value_of-requires : goal.value_of-requires
value_of-requires c =
    literal_has_int _ _ c.args.node _ c.program.ensures.whole
    (ap (λ (f : Forest). slice_get f.nodes c.args.node) (sym c.program.ensures.program)
    ∙ sym c.get.ensures
    ∙ ap option_copied c.in-Some.is)
