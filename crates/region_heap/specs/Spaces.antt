-- Whether an area has room for an object, and that an object is noted there.
use Rattle.std.specs.Prelude.{◌≡◌, ℕ, ◌+◌, ◌*◌, ◌^◌, ◌<◌, ◌≤◌, List, [], ◌∷◌, ◌++◌, slice_get, slice_set, Some}
use Rattle.scj_rules.specs.Layout.{size_with_slots}
use Rattle.scj_model.specs.Memory.{rounded_up}
use Rattle.region_heap.specs.declared.rows.AreaRow.{AreaRow}
use Rattle.region_heap.specs.declared.rows.ObjectRow.{ObjectRow}
use Rattle.region_heap.specs.Rows.{end_after}

-- the row at a place is that of an area which has room for an object with so many slots
pub record HasRoomAt (rows : List AreaRow) (area count k : ℕ) : Type 0 where
  pub row : AreaRow
  pub is : slice_get rows k ≡ Some row
  pub of_area : row.area ≡ area
  pub fits : 8 * row.mark + size_with_slots count ≤ 8 * row.start + row.bytes

-- an area has no room for it: so many bytes are used, and so many were asked for
pub record IsFull (rows : List AreaRow) (area count taken asked : ℕ) : Type 0 where
  pub k : ℕ
  pub row : AreaRow
  pub is : slice_get rows k ≡ Some row
  pub of_area : row.area ≡ area
  pub taken_is : taken + 8 * row.start ≡ 8 * row.mark
  pub full : 8 * row.start + row.bytes < 8 * row.mark + size_with_slots count
  pub asked_is : size_with_slots count < 2 ^ 64 → asked ≡ size_with_slots count

-- no mark is below its area or far away
abbrev pub AreMarked : List AreaRow → Type 0
AreMarked rows = (k : ℕ) (row : AreaRow) → slice_get rows k ≡ Some row →
    (row.start ≤ row.mark) × (row.mark ≤ row.end) × (row.end ≤ 8388608)

-- the area of the row at a place has so many words that are free, behind the header of an object
abbrev pub HasWordsAt : List AreaRow → ℕ → ℕ → Type 0
HasWordsAt rows k count = (row : AreaRow) → slice_get rows k ≡ Some row → row.mark + 2 + count ≤ 8388608

-- the row of an area when an object with so many slots lies in it from the mark on
abbrev pub row_with : AreaRow → ℕ → AreaRow
row_with row count = record row { mark = row.mark + 2 + count }

-- an object of a number lies in the area of the row at a place
pub record IsNoted (areas : List AreaRow) (objects : List ObjectRow) (k number count : ℕ) (new_areas : List AreaRow)
    (new_objects : List ObjectRow) : Type 0 where
  pub row : AreaRow
  pub is : slice_get areas k ≡ Some row
  pub areas_are : new_areas ≡ slice_set areas k (row_with row count)
  pub objects_are : new_objects ≡ objects ++ record { number = number; first = row.mark } ∷ []

-- the mark of the row at a place
pub record IsMarkAt (rows : List AreaRow) (k mark : ℕ) : Type 0 where
  pub row : AreaRow
  pub is : slice_get rows k ≡ Some row
  pub mark_is : row.mark ≡ mark

-- the row of an empty area is put behind the others
pub record IsPushed (areas : List AreaRow) (area scope bytes base : ℕ) (new : List AreaRow) : Type 0 where
  pub row : AreaRow
  pub is : new ≡ areas ++ row ∷ []
  pub area_is : row.area ≡ area
  pub scope_is : row.scope ≡ scope
  pub bytes_is : row.bytes ≡ bytes
  pub start_is : row.start ≡ end_after 0 areas
  pub mark_is : row.mark ≡ row.start
  pub end_is : 8 * row.end ≡ 8 * row.start + rounded_up bytes
  pub base_is : row.base ≡ base
