-- The code that a run executes: what a program declares, and what its nodes stand for.
use Rattle.std.specs.Prelude.{ℕ, List, Option}
use Rattle.scj_base.specs.declared.positions.Position.{Position}
use Rattle.scj_tree.specs.declared.nodes.Node.{Node}
use Rattle.scj_tree.specs.Forest.{Forest}
use Rattle.scj_tree.specs.Recursion.{lookup}
use Rattle.scj_rules.specs.declared.typing.Binding.{Binding}
use Rattle.scj_rules.specs.declared.typing.Binding.TheVariants.{Plain}
use Rattle.scj_rules.specs.Definitions.{read}
use Rattle.scj_rules.specs.Views.{position_at}
use Rattle.scj_rules.specs.Bindings.{bindings_in}
use Rattle.scj_rules.specs.Contexts.{Declarations, declarations_of}

pub record Code : Type 0 where
  pub program : Declarations
  pub bindings : List Binding

-- the code of any program, also of one that breaks rules
unfoldable pub code_of : Forest → Code
code_of forest = let program = declarations_of forest in record { program = program; bindings = bindings_in program }

-- what a node stands for
abbrev pub binding : Code → ℕ → Binding
binding code id = lookup Plain code.bindings id

-- a part of a node, by one of the readings of nodes
abbrev pub part : {A : Type 0} → Code → (Node → Option A) → ℕ → Option A
part code reading id = read code.program.nodes reading id

abbrev pub position_of_node : Code → ℕ → Position
position_of_node code id = position_at code.program.nodes id
