-- A program that breaks no rule, with the bindings of its nodes.
use Rattle.std.specs.Prelude.{◌≡◌, ℕ, List}
use Rattle.scj_tree.specs.Forest.{Forest}
use Rattle.scj_rules.specs.declared.typing.Binding.{Binding}
use Rattle.scj_rules.specs.Contexts.{declarations_of}
use Rattle.scj_rules.specs.Bindings.{bindings_in}
use Rattle.scj_rules.specs.Phases.{IsAccepted}
use Rattle.scj_rules.specs.Syntax.{Reads}

-- the program, and the binding of each node
pub record CheckedProgram : Type 0 where
  pub program : Forest
  pub bindings : List Binding

-- some texts read as the forest
pub record IsReadFromTexts (forest : Forest) : Type 0 where
  pub texts : List (List ℕ)
  pub reads : Reads texts forest

-- the program is read from some texts and breaks no rule, and the bindings are its own
pub record IsChecked (forest : Forest) (bindings : List Binding) : Type 0 where
  pub is_read : IsReadFromTexts forest
  pub is_accepted : IsAccepted forest
  pub are_bound : bindings ≡ bindings_in (declarations_of forest)
