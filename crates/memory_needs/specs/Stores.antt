-- The Room of nodes and of handler classes, as it is found.
use Rattle.std.specs.Prelude.{ℕ, Bool, true, not, ◌&&◌, List, [], ◌∷◌, Some, None, if◌then◌else◌}
use Rattle.scj_tree.specs.declared.nodes.Node.{Node}
use Rattle.scj_model.specs.Code.{Code, binding}
use Rattle.memory_needs.specs.declared.answers.BoundRow.{BoundRow}
use Rattle.memory_needs.specs.Reach.{handler_body}
use Rattle.memory_needs.specs.Room.{own_room}
use Rattle.memory_needs.specs.Rows.{is_no}
use Rattle.memory_needs.specs.Sites.{is_any}
use Rattle.memory_needs.specs.Solved.{reported_by}
use Rattle.memory_needs.specs.Targets.{memory_targets}

-- what a node opens for what it runs there
unfoldable pub opened_room : Code → ℕ → Node → ℕ
opened_room code id node =
    if is_any (memory_targets code.program (binding code id)) then own_room code id node else 0

-- the Room of a class's handleAsyncEvent, by the rows of nodes
unfoldable pub class_room : Code → List ℕ → ℕ → ℕ
class_room code rows class = elim (handler_body code class) [ None ↦ 0 | Some body ↦ reported_by rows body ]

-- no row is No
unfoldable pub all_yes : List BoundRow → Bool
all_yes [] = true
all_yes (row ∷ rows) = not (is_no row.answer) && all_yes rows
