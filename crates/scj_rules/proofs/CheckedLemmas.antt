-- Each node of a checked program has what it stands for.
use Rattle.std.proofs.Common.{◌≡◌, List, None, length, ap, ◌∙◌}
use Rattle.scj_tree.specs.Forest.{Forest}
use Rattle.scj_tree.specs.Recursion.{lookup}
use Rattle.scj_tree.proofs.RecursionLemmas.{length-listed}
use Rattle.scj_rules.specs.declared.typing.Binding.{Binding}
use Rattle.scj_rules.specs.Contexts.{declarations_of}
use Rattle.scj_rules.specs.TypeRules.{types_in}
use Rattle.scj_rules.specs.Bindings.{binding_at, bindings_in}
use Rattle.scj_rules.specs.CheckedProgram.{IsChecked}

every_node : (forest : Forest) → length (bindings_in (declarations_of forest)) ≡ length forest.nodes
unfolding bindings_in declarations_of
every_node forest =
    length-listed (binding_at (declarations_of forest) (lookup None (types_in (declarations_of forest))))
    (length forest.nodes)

pub all_bound : (forest : Forest) (bindings : List Binding) → IsChecked forest bindings →
    length bindings ≡ length forest.nodes
all_bound forest bindings checked = ap length checked.are_bound ∙ every_node forest
