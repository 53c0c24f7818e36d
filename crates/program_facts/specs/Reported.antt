-- What is told of a node.
use Rattle.std.specs.Prelude.{ℕ, Bool, List, find, Option, None}
use Rattle.scj_base.specs.Bytes.{is_same}
use Rattle.scj_tree.specs.declared.nodes.Node.{Node}
use Rattle.scj_tree.specs.Forest.{Forest}
use Rattle.scj_tree.specs.Recursion.{lookup}
use Rattle.scj_rules.specs.declared.views.Declared.{Declared}
use Rattle.scj_rules.specs.Words.{holds}
use Rattle.scj_rules.specs.Views.{variable_at}
use Rattle.scj_rules.specs.Contexts.{Declarations, declarations_of, variable_before}
use Rattle.scj_rules.specs.TypeRules.{Types}
use Rattle.scj_rules.specs.UseRules.{Scopes}
use Rattle.class_rows.specs.Walks.{chain_from}
use Rattle.program_facts.specs.declared.reported.At.{At}

abbrev pub declared : At → Declarations
declared at = declarations_of at.facts.now

abbrev pub types : At → Types
types at = lookup None at.types.now

abbrev pub scopes : At → Scopes
scopes at = lookup None at.scopes.now

-- the node declares a variable of the name
abbrev pub declares : List Node → List ℕ → ℕ → Bool
declares nodes name id = holds (variable_at nodes id) (λ (d : Declared). is_same name d.name)

-- the variable of the name among so many from one on
unfoldable pub seek : Forest → List ℕ → ℕ → Option ℕ → Option ℕ
seek forest name bound from =
    find (declares forest.nodes name) (chain_from (variable_before (declarations_of forest)) bound from)
