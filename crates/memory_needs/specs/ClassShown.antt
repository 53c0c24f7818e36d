-- What is shown for a handler class, as it is found: the first of what the bodies and nodes show that it reaches, and of
-- what its storage shows.
use Rattle.std.specs.Prelude.{ℕ, nat_lt, Bool, false, ◌&&◌, List, slice_index_or, Option, Some, None, if◌then◌else◌, ◌||◌, [], ◌∷◌, is_some}
use Rattle.scj_tree.specs.Recursion.{lookup}
use Rattle.scj_rules.specs.Definitions.{read}
use Rattle.scj_rules.specs.Bodies.{number_literal, class_position}
use Rattle.scj_model.specs.Code.{Code, position_of_node}
use Rattle.memory_needs.specs.declared.answers.BoundAnswer.{BoundAnswer}
use Rattle.memory_needs.specs.declared.answers.BoundAnswer.TheVariants.{Yes, No}
use Rattle.memory_needs.specs.declared.answers.NoBound.TheVariants.{Recursion, NotLiteral, TooSmall}
use Rattle.memory_needs.specs.declared.shown.Shown.{Shown}
use Rattle.memory_needs.specs.Causes.{storage_node}
use Rattle.memory_needs.specs.Chosen.{first_of}
use Rattle.memory_needs.specs.Edges.{body_vertex}

-- a body that is reached leads to itself
unfoldable pub recursion_at : Code → List Bool → List Bool → ℕ → Option Shown
recursion_at code marks loops body =
    if slice_index_or marks (body_vertex code body) false && slice_index_or loops (body_vertex code body) false
    then Some (record { cause = Recursion; at = position_of_node code body }) else None

-- what a node shows that is reached
unfoldable pub reached_at : List Bool → List (Option Shown) → ℕ → Option Shown
reached_at marks shown id = if slice_index_or marks id false then lookup None shown id else None

-- a number at which something may be shown: the node shows something, or the body leads to itself
unfoldable pub is_point : Code → List Bool → List (Option Shown) → ℕ → Bool
is_point code loops shown id = slice_index_or loops (body_vertex code id) false || is_some (lookup None shown id)

-- the first of what is shown at these numbers, and of what is found before
unfoldable pub first_shown : Code → List Bool → List Bool → List (Option Shown) → Option Shown → List ℕ → Option Shown
first_shown code marks loops shown best [] = best
first_shown code marks loops shown best (id ∷ ids) =
    first_shown code marks loops shown
    (first_of (first_of best (recursion_at code marks loops id)) (reached_at marks shown id)) ids

-- what the storage shows: that it is no number, or below what is needed
unfoldable pub bytes_shown : Code → ℕ → ℕ → ℕ → Option Shown
bytes_shown code class need number =
    elim (read code.program.nodes number_literal number) [
      | None ↦ Some (record { cause = NotLiteral; at = position_of_node code number })
      | Some bytes ↦
          if nat_lt bytes need then Some (record { cause = TooSmall; at = class_position code.program class }) else None
    ]

unfoldable pub storage_shown : Code → ℕ → ℕ → Option Shown
storage_shown code class need =
    elim (storage_node code.program class) [ None ↦ None | Some number ↦ bytes_shown code class need number ]

-- the answer for what is shown first
unfoldable pub answer_for : Option Shown → ℕ → BoundAnswer
answer_for None need = Yes need
answer_for (Some s) need = No s.cause s.at
