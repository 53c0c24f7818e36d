-- Need: the bytes that a node puts at most into the area in which it runs, by a table that tells it of bodies.
use Rattle.std.specs.Prelude.{◌≡◌, ℕ, ◌+◌, max, List, [], ◌∷◌, length, slice_get, Some, None, Contains}
use Rattle.scj_tree.specs.declared.nodes.Node.{Node}
use Rattle.scj_tree.specs.declared.nodes.Node.TheVariants.{If, New, NewArray}
use Rattle.scj_tree.specs.Recursion.{by_smaller}
use Rattle.scj_tree.specs.Shape.{optional}
use Rattle.scj_rules.specs.declared.typing.Binding.{Binding}
use Rattle.scj_rules.specs.declared.typing.Binding.TheVariants.{Class as ClassNamed}
use Rattle.scj_rules.specs.declared.views.Body.{Body}
use Rattle.scj_rules.specs.declared.views.Body.TheVariants.{Written, Empty}
use Rattle.scj_rules.specs.Contexts.{Declarations}
use Rattle.scj_rules.specs.Definitions.{read}
use Rattle.scj_rules.specs.Layout.{size_with_slots}
use Rattle.scj_rules.specs.Bodies.{number_literal}
use Rattle.scj_model.specs.Code.{Code, binding}
use Rattle.scj_model.specs.Memory.{new_slots}
use Rattle.memory_needs.specs.Targets.{targets_here}
use Rattle.memory_needs.specs.Reach.{run_parts, IsInBody, Reaches}

-- a table: what is told of each body
abbrev pub Table : Type 0
Table = Body → ℕ

-- more than any memory has: sums stop there
abbrev pub too_much : ℕ
too_much = 4294967296

-- the greatest that a table tells of these bodies, and 0 of none
unfoldable pub greatest : Table → List Body → ℕ
greatest table [] = 0
greatest table (body ∷ bodies) = max (table body) (greatest table bodies)

unfoldable pub sum_of : (ℕ → ℕ) → List ℕ → ℕ
sum_of sub [] = 0
sum_of sub (id ∷ ids) = sub id + sum_of sub ids

-- ---- what a node itself puts there

-- an object takes its hidden fields too; a part of a framework form makes none
unfoldable pub object_bytes : Declarations → Binding → ℕ
object_bytes p (ClassNamed class) = size_with_slots (length (new_slots p class))
object_bytes p _ = 0

-- an array whose length isn't a number counts as one without elements, and is a cause of its own
unfoldable pub array_bytes : List Node → ℕ → ℕ
array_bytes nodes count = elim (read nodes number_literal count) [ None ↦ size_with_slots 0 | Some n ↦ size_with_slots n ]

unfoldable pub own_bytes : Code → ℕ → Node → ℕ
own_bytes code id (New position name_position name arguments) = object_bytes code.program (binding code id)
own_bytes code id (NewArray position element count) = array_bytes code.program.nodes count
own_bytes code id _ = 0

-- ---- Need

-- of an `if` the greater part counts. Of any other node all parts count, those of a loop once; and of the bodies that it
-- may run in its own area the one with the greatest Need
unfoldable pub node_need : Code → Table → (ℕ → ℕ) → ℕ → Node → ℕ
node_need code table sub id (If position condition then_part else_part) =
    sub condition + max (sub then_part) (sum_of sub (optional else_part))
node_need code table sub id node =
    sum_of sub (run_parts node) + (own_bytes code id node + greatest table (targets_here code id node))

unfoldable pub next_need : Code → Table → ℕ → (ℕ → ℕ) → ℕ
next_need code table id sub =
    elim (slice_get code.program.nodes id) [ None ↦ 0 | Some node ↦ node_need code table sub id node ]

unfoldable pub need : Code → Table → ℕ → ℕ
need code table id = by_smaller 0 (next_need code table) id

unfoldable pub body_need : Code → Table → Body → ℕ
body_need code table (Written node) = need code table node
body_need code table Empty = 0

-- a body runs another one in its own area, by one of its nodes
pub record RunsHere (code : Code) (body target : Body) : Type 0 where
  pub id : ℕ
  pub node : Node
  pub is_in : IsInBody code id body
  pub is : slice_get code.program.nodes id ≡ Some node
  pub is_target : Contains (targets_here code id node) target

-- the Need of a body, by those of the bodies that it runs in its own area: the least relation of this kind. A body that
-- runs itself there has none
pub data HasNeed (code : Code) : Body → ℕ → Type 0 where
  by_targets : {body : Body} {bytes : ℕ} (table : Table) → body_need code table body ≡ bytes →
      ((target : Body) → RunsHere code body target → HasNeed code target (table target)) → HasNeed code body bytes

-- the table tells the Need of each body that the class reaches
pub record AreNeeds (code : Code) (class : ℕ) (table : Table) : Type 0 where
  pub each : (body : Body) → Reaches code class body → HasNeed code body (table body)
