-- Nodes that grow behind those of the files before.
use Rattle.std.specs.Prelude.{List}
use Rattle.scj_tree.specs.declared.nodes.Node.{Node}

-- the nodes that were there before, and all
pub record Growing : Type 0 where
  pub kept : List Node
  pub all : List Node

abbrev pub growing : List Node → List Node → Growing
growing kept all = record { kept = kept; all = all }
