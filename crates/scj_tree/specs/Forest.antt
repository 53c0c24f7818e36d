-- What a program is made of, and when it is a forest: the files' classes are trees whose nodes stand in one list.
use Rattle.std.specs.Prelude.{◌≡◌, ℕ, ◌+◌, ◌<◌, ◌≤◌, ◌^◌, List, [], ◌∷◌, ◌++◌, length, slice_get, Some}
use Rattle.scj_tree.specs.declared.nodes.Node.{Node}
use Rattle.scj_tree.specs.declared.nodes.Node.TheVariants.{Class}
use Rattle.scj_tree.specs.Nodes.{put}
use Rattle.scj_tree.specs.Shape.{children}
use Rattle.scj_tree.specs.Counts.{times}

-- the nodes in the order in which reading finishes them, and each file's classes in the order of the source
pub record Forest : Type 0 where
  pub nodes : List Node
  pub files : List (List ℕ)

abbrev pub forest_of : List Node → List (List ℕ) → Forest
forest_of nodes files = record { nodes = nodes; files = files }

-- the numbers that stand in a list of lists
unfoldable pub joined : List (List ℕ) → List ℕ
joined [] = []
joined (xs ∷ xss) = xs ++ joined xss

-- the children of all nodes
unfoldable pub all_children : List Node → List ℕ
all_children [] = []
all_children (node ∷ nodes) = children node ++ all_children nodes

-- the nodes that have a place: as somebody's child, or as a class of a file
abbrev pub placed : Forest → List ℕ
placed forest = joined forest.files ++ all_children forest.nodes

-- each number is below the bound
unfoldable pub AllBelow : ℕ → List ℕ → Type 0
AllBelow n [] = Unit {0}
AllBelow n (x ∷ xs) = (x < n) × AllBelow n xs

-- each node stands behind its children; `from` is the number of the first node
unfoldable pub ChildrenFirst : ℕ → List Node → Type 0
ChildrenFirst from [] = Unit {0}
ChildrenFirst from (node ∷ nodes) = AllBelow from (children node) × ChildrenFirst (from + 1) nodes

-- the node is a class
pub data IsClass : Node → Type 0 where
  is_class : {position name flags header members : _} → IsClass (Class position name flags header members)

-- each number is a class's
unfoldable pub AllClasses : List Node → List ℕ → Type 0
AllClasses nodes [] = Unit {0}
AllClasses nodes (x ∷ xs) = ((node : Node) × (slice_get nodes x ≡ Some node) × IsClass node) × AllClasses nodes xs

-- children stand before their parents, each node has one place at most, and the files' classes are classes
pub record IsForest (forest : Forest) : Type 0 where
  pub children_first : ChildrenFirst 0 forest.nodes
  pub one_place : (x : ℕ) → times x (placed forest) ≤ 1
  pub classes : AllClasses forest.nodes (joined forest.files)
  pub fits : length forest.nodes < 2 ^ 32
  pub few : length forest.files ≤ 16

-- the node's children are nodes that have no place yet, each once
pub record HasFreshChildren (forest : Forest) (node : Node) : Type 0 where
  pub earlier : AllBelow (length forest.nodes) (children node)
  pub free : (x : ℕ) → times x (children node) + times x (placed forest) ≤ 1

-- the classes are nodes that have no place yet, each once
pub record AreFreshClasses (forest : Forest) (ids : List ℕ) : Type 0 where
  pub classes : AllClasses forest.nodes ids
  pub free : (x : ℕ) → times x ids + times x (placed forest) ≤ 1

-- a forest with a node behind its nodes, and with a file behind its files
abbrev pub with_node : Forest → Node → Forest
with_node forest node = record forest { nodes = put forest.nodes node }

abbrev pub with_file : Forest → List ℕ → Forest
with_file forest ids = record forest { files = forest.files ++ ids ∷ [] }
