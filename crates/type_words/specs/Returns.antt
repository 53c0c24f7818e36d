-- Which nodes always return, told for each node once.
use Rattle.std.specs.Prelude.{ℕ, Bool, true, false, List, Option, Some, length, slice_get}
use Rattle.scj_tree.specs.declared.nodes.Node.{Node}
use Rattle.scj_tree.specs.declared.kinds.NodeKind.{NodeKind}
use Rattle.scj_tree.specs.declared.kinds.NodeKind.TheVariants.{Return, Block, If, While}
use Rattle.scj_tree.specs.Recursion.{bottom_up}
use Rattle.scj_rules.specs.Words.{holds}
use Rattle.scj_rules.specs.Types.{returns_of}

-- whether a node returns, by what is told of those before it
abbrev pub returns_next : List Node → ℕ → (ℕ → Bool) → Bool
returns_next nodes id returns = holds (slice_get nodes id) (returns_of nodes returns)

-- the nodes that always return
unfoldable pub all_returns : List Node → List Bool
all_returns nodes = bottom_up false (returns_next nodes) (length nodes)

-- nodes of the kind may always return
unfoldable pub is_returning_kind : Option NodeKind → Bool
is_returning_kind (Some Return) = true
is_returning_kind (Some Block) = true
is_returning_kind (Some If) = true
is_returning_kind (Some While) = true
is_returning_kind _ = false
