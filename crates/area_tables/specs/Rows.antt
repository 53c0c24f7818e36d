-- What changes in the rows of a table when the open areas of a memory are looked at.
use Rattle.std.specs.Prelude.{ℕ, ◌+◌, ◌-◌, nat_lt, max, List, [], ◌∷◌, length, slice_get, Some, None, if◌then◌else◌}
use Rattle.scj_model.specs.State.{changed}
use Rattle.scj_model.specs.Memory.{rounded_up}
use Rattle.region_heap.specs.declared.open_areas.Area.{Area}
use Rattle.area_tables.specs.declared.rows.NeedRow.{NeedRow}

abbrev pub using : ℕ → NeedRow → NeedRow
using bytes row = record row { used = max row.used bytes }

abbrev pub opening : ℕ → NeedRow → NeedRow
opening bytes row = record row { opened = row.opened + 1; declared = max row.declared bytes }

abbrev pub refusing : ℕ → NeedRow → NeedRow
refusing bytes row = record row { refused = max row.refused bytes }

-- what is in use in each of these areas
unfoldable pub all_used : List Area → List NeedRow → List NeedRow
all_used [] rows = rows
all_used (a ∷ more) rows = all_used more (changed (using a.used) a.name rows)

-- the bytes that these areas reserve
unfoldable pub reserved_by : List Area → ℕ
reserved_by [] = 0
reserved_by (a ∷ more) = rounded_up a.bytes + reserved_by more

-- the area that was opened last is noted, if more are open than before
unfoldable pub newest_noted : List Area → ℕ → List NeedRow → List NeedRow
newest_noted areas before rows =
    if nat_lt before (length areas)
    then (elim (slice_get areas (length areas - 1)) [
      | None ↦ rows
      | Some a ↦ changed (opening a.bytes) a.name rows
    ])
    else rows
