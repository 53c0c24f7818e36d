-- Where a tree's nodes stand: a node is put behind all that is below it, and nothing else stands between them.
use Rattle.std.specs.Prelude.{◌≡◌, ℕ, suc, false, List, [], ◌∷◌, length, slice_get, Some}
use Rattle.scj_tree.specs.declared.nodes.Node.{Node}
use Rattle.scj_tree.specs.Forest.{Forest, joined}
use Rattle.scj_tree.specs.Shape.{children}
use Rattle.scj_rules.specs.Words.{is_among}
use Rattle.accepted_laws.specs.Sorts.{is_flags}

-- the children of a node in the order in which they were read. Annotations and modifiers stand in any order in the
-- source; of every other node the children stand as they are listed
pub record AreInOrder (node : Node) (ids : List ℕ) : Type 0 where
  pub as_listed : is_flags node ≡ false → ids ≡ children node
  pub same : (child : ℕ) → is_among child ids ≡ is_among child (children node)

mutual
  -- the nodes from `from` to x are x and all that is below it
  pub data Subtree (nodes : List Node) : ℕ → ℕ → Type 0 where
    subtree : {from x : ℕ} {node : Node} {ids : List ℕ} →
        slice_get nodes x ≡ Some node → AreInOrder node ids → Subtrees nodes from ids x → Subtree nodes from x

  -- the nodes from `from` on and before `to` are those of the trees of some nodes, tree after tree
  pub data Subtrees (nodes : List Node) : ℕ → List ℕ → ℕ → Type 0 where
    no_tree : {from : ℕ} → Subtrees nodes from [] from
    one_tree_more : {from x to : ℕ} {ids : List ℕ} →
        Subtree nodes from x → Subtrees nodes (suc x) ids to → Subtrees nodes from (x ∷ ids) to

-- the nodes of a program are those of its classes, class after class
pub record AreIntervals (forest : Forest) : Type 0 where
  pub trees : Subtrees forest.nodes 0 (joined forest.files) (length forest.nodes)
