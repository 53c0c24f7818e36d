-- Heights in a row, as the pass over the nodes of a file finds them.
use Rattle.std.specs.Prelude.{ℕ, ◌+◌, ◌-◌, ◌<◌, ◌≤◌, max, List, [], ◌∷◌, Option, Some, None, slice_index_or}
use Rattle.scj_tree.specs.Shape.{children}
use Rattle.scj_tree.specs.declared.nodes.Node.{Node}
use Rattle.scj_tree.specs.declared.nodes.Node.TheVariants.{Method, Constructor}

-- the height of a node by a row that begins with the node `first`
abbrev pub row : ℕ → List ℕ → ℕ → ℕ
row first rows c = slice_index_or rows (c - first) 0

-- the numbers are from `low` on and below `high`
unfoldable pub AllWithin : ℕ → ℕ → List ℕ → Type 0
AllWithin low high [] = Unit {0}
AllWithin low high (x ∷ xs) = ((low ≤ x) × (x < high)) × AllWithin low high xs

-- the children of each node are nodes from `first` on that stand before it; `at` is the number of the first node
unfoldable pub ChildrenWithin : ℕ → ℕ → List Node → Type 0
ChildrenWithin first at [] = Unit {0}
ChildrenWithin first at (node ∷ nodes) = AllWithin first at (children node) × ChildrenWithin first (at + 1) nodes

-- the height of a body, by what is said of heights
unfoldable pub super_height_by : (ℕ → ℕ) → Option ℕ → ℕ
super_height_by g None = 0
super_height_by g (Some id) = 1 + g id

unfoldable pub body_height_by : (ℕ → ℕ) → Node → ℕ
body_height_by g (Method position name flags result_type parameters (Some body)) = g body
body_height_by g (Constructor position name flags parameters super_call body) = max (g body) (super_height_by g super_call)
body_height_by g _ = 0
