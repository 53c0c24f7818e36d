-- Each literal of a checked program that is a number is an int.
use Rattle.std.proofs.Common.{◌≡◌, ℕ, List, Some, slice_get}
use Rattle.scj_tree.specs.declared.nodes.Node.{Node}
use Rattle.scj_tree.specs.Forest.{Forest}
use Rattle.scj_rules.specs.declared.typing.Binding.{Binding}
use Rattle.scj_rules.specs.CheckedProgram.{IsChecked}
use Rattle.value_operators.specs.Literals.{HasInt}
use Rattle.value_operators.proofs.Numbers.{int_at}
use Rattle.value_operators.proofs.FileNumbers.{read_ints}

pub literal_has_int : (forest : Forest) (bindings : List Binding) (id : ℕ) (node : Node) → IsChecked forest bindings →
    slice_get forest.nodes id ≡ Some node → HasInt node
literal_has_int forest bindings id node h e =
    int_at forest.nodes id node (read_ints h.is_read.texts forest h.is_read.reads) e
