-- Rows of nodes: a node is put last, and its number is how many stand before it.
use Rattle.std.specs.Prelude.{ℕ, List, [], ◌∷◌, ◌++◌, length}
use Rattle.scj_tree.specs.declared.nodes.Node.{Node}

abbrev pub put : List Node → Node → List Node
put N node = N ++ node ∷ []

-- the number of the node that is put next
abbrev pub next : List Node → ℕ
next N = length N
