-- The rows of all nodes, found one after the other in an order of nodes: each by those that stand before it.
use Rattle.std.specs.Prelude.{◌≡◌, ℕ, min, List, [], ◌∷◌, length, replicate, slice_set}
use Rattle.scj_tree.specs.Recursion.{lookup}
use Rattle.scj_rules.specs.declared.views.Body.TheVariants.{Written, Empty}
use Rattle.scj_model.specs.Code.{Code}
use Rattle.memory_needs.specs.Need.{Table, next_need, too_much}
use Rattle.memory_needs.specs.Room.{next_room}

-- what rows of nodes tell of bodies; an empty one needs nothing
unfoldable pub reported_by : List ℕ → Table
reported_by rows (Written node) = lookup 0 rows node
reported_by rows Empty = 0

-- the row of the next node, by the rows of all: its Need
abbrev pub need_by : Code → List ℕ → ℕ → ℕ
need_by code rows id = next_need code (reported_by rows) id (lookup 0 rows)

-- or its Room
abbrev pub room_by : Code → List ℕ → ℕ → ℕ
room_by code rows id = next_room code (reported_by rows) id (lookup 0 rows)

-- the rows of nodes are set one after the other
unfoldable pub solved_by : (List ℕ → ℕ → ℕ) → List ℕ → List ℕ → List ℕ
solved_by next [] rows = rows
solved_by next (id ∷ ids) rows = solved_by next ids (slice_set rows id (next rows id))

abbrev pub solved : Code → List ℕ → List ℕ → List ℕ
solved code order rows = solved_by (need_by code) order rows

abbrev pub solved_rooms : Code → List ℕ → List ℕ → List ℕ
solved_rooms code order rows = solved_by (room_by code) order rows

-- at first nothing is told of any
abbrev pub zero_rows : Code → List ℕ
zero_rows code = replicate (length code.program.nodes) 0

-- rows are these, as far as they stay below the ceiling
pub record AreCapped (rows : List ℕ) (exact : List ℕ) : Type 0 where
  pub each : (id : ℕ) → lookup 0 rows id ≡ min too_much (lookup 0 exact id)
