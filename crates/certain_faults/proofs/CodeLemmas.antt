-- What the code of a checked program is.
use Rattle.std.proofs.Common.{◌≡◌, refl}
use Rattle.scj_tree.specs.Forest.{Forest}
use Rattle.scj_rules.specs.Bindings.{bindings_in}
use Rattle.scj_rules.specs.Contexts.{declarations_of}
use Rattle.scj_model.specs.Code.{code_of}

pub bindings_are : (forest : Forest) → (code_of forest).bindings ≡ bindings_in (declarations_of forest)
unfolding code_of
bindings_are forest = refl

pub nodes_are : (forest : Forest) → (code_of forest).program.nodes ≡ forest.nodes
unfolding code_of declarations_of
nodes_are forest = refl
