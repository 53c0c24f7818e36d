-- What a node that is reached shows by itself, by a table of Needs: a cause with its place.
use Rattle.std.specs.Prelude.{◌≡◌, ℕ, ◌<◌, ◌==◌, nat_lt, true, List, [], ◌∷◌, slice_get, Option, Some, None, Contains, IfSome, IfNone, if◌then◌else◌}
use Rattle.scj_base.specs.declared.positions.Position.{Position}
use Rattle.scj_builtins.specs.Framework.{managed_memory_enter_private_memory, managed_memory_execute_in_area_of}
use Rattle.scj_tree.specs.declared.nodes.Node.{Node}
use Rattle.scj_tree.specs.declared.nodes.Node.TheVariants.{Call, NewArray, While, For}
use Rattle.scj_tree.specs.Heights.{highest}
use Rattle.scj_tree.specs.Recursion.{lookup}
use Rattle.scj_rules.specs.declared.typing.Binding.{Binding}
use Rattle.scj_rules.specs.declared.typing.Binding.TheVariants.{Builtin}
use Rattle.scj_rules.specs.Definitions.{read}
use Rattle.scj_rules.specs.declared.views.Body.{Body}
use Rattle.scj_rules.specs.Bodies.{number_literal}
use Rattle.scj_model.specs.Code.{Code, binding, position_of_node}
use Rattle.memory_needs.specs.declared.answers.NoBound.{NoBound}
use Rattle.memory_needs.specs.declared.answers.NoBound.TheVariants.{NotLiteral, OuterArea, NewInLoop, TooSmall}
use Rattle.memory_needs.specs.declared.shown.Shown.{Shown}
use Rattle.memory_needs.specs.Targets.{targets_entered}
use Rattle.memory_needs.specs.Need.{Table}
use Rattle.memory_needs.specs.Room.{size_entered}
use Rattle.memory_needs.specs.Causes.{number_asked, executes_in_area, is_loop}
use Rattle.memory_needs.specs.Edges.{runs_entered}

-- `needs` is what is told of nodes
pub data IsShown (code : Code) (table : Table) (needs : ℕ → ℕ) (id : ℕ) (node : Node) : NoBound → Position → Type 0 where
  no_number : (number : ℕ) → number_asked code id node ≡ Some number →
      read code.program.nodes number_literal number ≡ None →
      IsShown code table needs id node NotLiteral (position_of_node code number)
  fills : (target : Body) → executes_in_area (binding code id) ≡ true →
      Contains (targets_entered code id node) target → 0 < table target →
      IsShown code table needs id node OuterArea (position_of_node code id)
  makes : is_loop node ≡ true → 0 < needs id → IsShown code table needs id node NewInLoop (position_of_node code id)
  small : (size : ℕ) (target : Body) → size_entered code id node ≡ Some size →
      Contains (targets_entered code id node) target → size < table target →
      IsShown code table needs id node TooSmall (position_of_node code id)

-- a node shows nothing, or one cause at one place
pub record ShowsOne (code : Code) (table : Table) (needs : ℕ → ℕ) (id : ℕ) (node : Node) (o : Option Shown) : Type 0 where
  pub nothing : IfNone o ((cause : NoBound) (at : Position) → IsShown code table needs id node cause at → ⊥)
  pub that : IfSome o (λ s. IsShown code table needs id node s.cause s.at)
  pub alone : IfSome o (λ s. (cause : NoBound) (at : Position) → IsShown code table needs id node cause at →
      (cause ≡ s.cause) × (at ≡ s.at))

-- ---- as it is found

unfoldable pub number_shown : Code → ℕ → Option Shown
number_shown code number =
    elim (read code.program.nodes number_literal number) [
      | None ↦ Some (record { cause = NotLiteral; at = position_of_node code number })
      | Some n ↦ None
    ]

unfoldable pub shown_if_needed : Code → ℕ → NoBound → ℕ → Option Shown
shown_if_needed code id cause need =
    if nat_lt 0 need then Some (record { cause = cause; at = position_of_node code id }) else None

unfoldable pub size_shown : Code → ℕ → ℕ → ℕ → Option Shown
size_shown code id size need =
    elim (read code.program.nodes number_literal size) [
      | None ↦ Some (record { cause = NotLiteral; at = position_of_node code size })
      | Some bytes ↦
          if nat_lt bytes need then Some (record { cause = TooSmall; at = position_of_node code id }) else None
    ]

unfoldable pub entered_shown : Code → ℕ → List ℕ → ℕ → Option Shown
entered_shown code id [] need = None
entered_shown code id (size ∷ more) need = size_shown code id size need

unfoldable pub call_shown : Code → ℕ → Binding → List ℕ → ℕ → Option Shown
call_shown code id (Builtin t) arguments need =
    if t.id == managed_memory_execute_in_area_of then shown_if_needed code id OuterArea need
    else (if t.id == managed_memory_enter_private_memory then entered_shown code id arguments need else None)
call_shown code id _ arguments need = None

-- `entered` is the greatest that what the node enters needs
unfoldable pub node_shown : Code → (ℕ → ℕ) → ℕ → ℕ → Node → Option Shown
node_shown code needs entered id (NewArray position element count) = number_shown code count
node_shown code needs entered id (While position condition body) = shown_if_needed code id NewInLoop (needs id)
node_shown code needs entered id (For position first condition step body) = shown_if_needed code id NewInLoop (needs id)
node_shown code needs entered id (Call position name object arguments) =
    call_shown code id (binding code id) arguments entered
node_shown code needs entered id _ = None

-- of the node of a number, by the rows of all nodes
unfoldable pub shown_at : Code → List ℕ → ℕ → Option Shown
shown_at code rows id =
    elim (slice_get code.program.nodes id) [
      | None ↦ None
      | Some node ↦ node_shown code (lookup 0 rows) (highest (lookup 0 rows) (runs_entered code id)) id node
    ]
