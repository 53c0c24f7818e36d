-- Reach: the bodies that a release of a handler class may come to.
use Rattle.std.specs.Prelude.{◌≡◌, ℕ, List, [], slice_get, Option, Some, Contains, codes}
use Rattle.scj_tree.specs.declared.nodes.Node.{Node}
use Rattle.scj_tree.specs.declared.nodes.Node.TheVariants.{Class}
use Rattle.scj_tree.specs.Shape.{children}
use Rattle.scj_rules.specs.declared.views.Body.{Body}
use Rattle.scj_rules.specs.declared.views.Body.TheVariants.{Written, Empty}
use Rattle.scj_rules.specs.Bodies.{body_named}
use Rattle.scj_model.specs.Code.{Code}
use Rattle.memory_needs.specs.Targets.{targets}

-- ---- the nodes of a body

-- the parts that run where a node does: a class is the body of its unwritten constructor, and its members aren't in it
unfoldable pub run_parts : Node → List ℕ
run_parts (Class position name flags header members) = []
run_parts node = children node

-- the nodes in a node: itself, and the parts of each
pub data IsIn (nodes : List Node) (whole : ℕ) : ℕ → Type 0 where
  itself : IsIn nodes whole whole
  in_part : (id part : ℕ) (node : Node) → IsIn nodes whole id → slice_get nodes id ≡ Some node →
      Contains (run_parts node) part → IsIn nodes whole part

unfoldable pub IsInBody : Code → ℕ → Body → Type 0
IsInBody code id (Written node) = IsIn code.program.nodes node id
IsInBody code id Empty = ⊥

-- ---- which body may run which

-- a body may run another one, by one of its nodes
pub record MayRun (code : Code) (body target : Body) : Type 0 where
  pub id : ℕ
  pub is_in : IsInBody code id body
  pub is_target : Contains (targets code id) target

-- and that one a further one, and so on
pub data Leads (code : Code) (from : Body) : Body → Type 0 where
  at_once : (target : Body) → MayRun code from target → Leads code from target
  by_another : (between target : Body) → Leads code from between → MayRun code between target →
      Leads code from target

-- ---- Reach

-- what a release of the class runs
unfoldable pub handler_body : Code → ℕ → Option Body
handler_body code class = body_named code.program class (codes "handleAsyncEvent")

-- the least set with this body and with the targets of all nodes of its members
pub data Reaches (code : Code) (class : ℕ) : Body → Type 0 where
  begins : (body : Body) → handler_body code class ≡ Some body → Reaches code class body
  goes_on : (body target : Body) → Reaches code class body → MayRun code body target → Reaches code class target

-- a node of such a body
pub record ReachesNode (code : Code) (class id : ℕ) (node : Node) : Type 0 where
  pub body : Body
  pub reached : Reaches code class body
  pub is_in : IsInBody code id body
  pub is : slice_get code.program.nodes id ≡ Some node
