-- Room: how many bytes of private memories a body may have open at once, those that it enters and those that are entered
-- inside them.
use Rattle.std.specs.Prelude.{◌≡◌, ℕ, ◌+◌, ◌==◌, max, ◌∷◌, slice_get, Option, Some, None, if◌then◌else◌}
use Rattle.scj_builtins.specs.Framework.{managed_memory_enter_private_memory}
use Rattle.scj_tree.specs.declared.nodes.Node.{Node}
use Rattle.scj_tree.specs.declared.nodes.Node.TheVariants.{Call}
use Rattle.scj_tree.specs.Heights.{highest}
use Rattle.scj_tree.specs.Recursion.{by_smaller}
use Rattle.scj_rules.specs.declared.typing.Binding.{Binding}
use Rattle.scj_rules.specs.declared.typing.Binding.TheVariants.{Builtin}
use Rattle.scj_rules.specs.declared.views.Body.{Body}
use Rattle.scj_rules.specs.declared.views.Body.TheVariants.{Written, Empty}
use Rattle.scj_rules.specs.Definitions.{read}
use Rattle.scj_rules.specs.Bodies.{number_literal}
use Rattle.scj_rules.specs.Words.{◌>>=◌}
use Rattle.scj_model.specs.Code.{Code, binding}
use Rattle.scj_model.specs.Memory.{rounded_up}
use Rattle.memory_needs.specs.Targets.{targets}
use Rattle.memory_needs.specs.Reach.{run_parts, MayRun}
use Rattle.memory_needs.specs.Need.{Table, greatest}

-- the size with which a node enters a private memory, as it is written
unfoldable pub entered_with : Binding → Node → Option ℕ
entered_with (Builtin t) (Call position name object (size ∷ more)) =
    if t.id == managed_memory_enter_private_memory then Some size else None
entered_with _ _ = None

abbrev pub size_entered : Code → ℕ → Node → Option ℕ
size_entered code id node = entered_with (binding code id) node >>= read code.program.nodes number_literal

-- the bytes of the store that the node's own private memory takes
unfoldable pub own_room : Code → ℕ → Node → ℕ
own_room code id node = elim (size_entered code id node) [ None ↦ 0 | Some size ↦ rounded_up size ]

-- a target, in what the node opens for it
abbrev pub target_room : Code → Table → ℕ → Node → ℕ
target_room code table id node = greatest (λ body. table body + own_room code id node) (targets code id)

-- the greatest of all nodes in it
unfoldable pub next_room : Code → Table → ℕ → (ℕ → ℕ) → ℕ
next_room code table id sub =
    elim (slice_get code.program.nodes id) [
      | None ↦ 0
      | Some node ↦ max (target_room code table id node) (highest sub (run_parts node))
    ]

unfoldable pub room : Code → Table → ℕ → ℕ
room code table id = by_smaller 0 (next_room code table) id

unfoldable pub body_room : Code → Table → Body → ℕ
body_room code table (Written node) = room code table node
body_room code table Empty = 0

-- the Room of a body, by those of the bodies that it may run: the least relation of this kind
pub data HasRoom (code : Code) : Body → ℕ → Type 0 where
  by_rooms : {body : Body} {bytes : ℕ} (table : Table) → body_room code table body ≡ bytes →
      ((target : Body) → MayRun code body target → HasRoom code target (table target)) → HasRoom code body bytes
