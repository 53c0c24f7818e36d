-- How the words and the rows keep the objects of open areas.
use Rattle.std.specs.Prelude.{◌≡◌, ℕ, ◌+◌, ◌-◌, ◌*◌, ◌/◌, ◌<◌, ◌≤◌, ◌⊎◌, Bool, true, IsSome, List, length, slice_get, slice_index, get_or, Some, None, if◌then◌else◌, ◌==◌}
use Rattle.std.specs.List.{sum_by}
use Rattle.scj_base.specs.declared.values.Value.{Value}
use Rattle.scj_rules.specs.Layout.{size_with_slots}
use Rattle.scj_model.specs.State.{MemoryArea, Object}
use Rattle.scj_model.specs.Memory.{rounded_up}
use Rattle.region_heap.specs.declared.rows.AreaRow.{AreaRow}
use Rattle.region_heap.specs.declared.rows.ObjectRow.{ObjectRow}
use Rattle.region_heap.specs.Contents.{Contents, is_open_area, open_count}
use Rattle.region_heap.specs.History.{Past}
use Rattle.region_heap.specs.Rows.{AreInOpeningOrder, AreStacked, HasRow, end_after, object_rows}
use Rattle.region_heap.specs.Words.{Words, object_in}

-- ---- how full areas and the store are

abbrev pub object_bytes : Object → ℕ
object_bytes o = size_with_slots (length o.slots)

-- the bytes that an object takes of an area, those that it takes of all open areas, and those that an area takes of the
-- store
abbrev pub bytes_in : ℕ → Object → ℕ
bytes_in area o = if o.area == area then object_bytes o else 0

abbrev pub live_bytes : (ℕ → Bool) → Object → ℕ
live_bytes test o = if test o.area then object_bytes o else 0

abbrev pub area_words : MemoryArea → ℕ
area_words x = if x.is_open then rounded_up x.bytes else 0

unfoldable pub used_bytes : List Object → ℕ → ℕ
used_bytes objects area = sum_by (bytes_in area) objects

unfoldable pub all_live_bytes : (ℕ → Bool) → List Object → ℕ
all_live_bytes test objects = sum_by (live_bytes test) objects

unfoldable pub reserved_bytes : List MemoryArea → ℕ
reserved_bytes areas = sum_by area_words areas

-- the bytes of an area that its objects take
abbrev pub row_bytes : AreaRow → ℕ
row_bytes row = 8 * (row.mark - row.start)

-- ---- objects

-- the reference's object, which lies in an open area
pub record IsLive (m : Contents) (r : ℕ) (o : Object) : Type 0 where
  pub found : slice_get m.objects r ≡ Some o
  pub is_open : is_open_area m o.area ≡ true

-- the object lies in the words from the first one on
pub record LiesAt (ws : Words) (first : ℕ) (o : Object) : Type 0 where
  pub is : object_in ws first ≡ o
  pub written : (j : ℕ) → first ≤ j → j < first + 2 + length o.slots → IsSome (get_or ws j None)
  pub within : first + 2 + length o.slots ≤ length ws

-- its words are among those of its area
pub record LiesIn (rows : List AreaRow) (first : ℕ) (o : Object) : Type 0 where
  pub k : ℕ
  pub row : AreaRow
  pub is : slice_get rows k ≡ Some row
  pub of_area : row.area ≡ o.area
  pub start : row.start ≤ first
  pub mark : first + 2 + length o.slots ≤ row.mark

-- ---- areas

-- a row is that of an open area, and tells how full it is
pub record IsRow (m : Contents) (row : AreaRow) : Type 0 where
  pub area : MemoryArea
  pub is : slice_get m.areas row.area ≡ Some area
  pub is_open : area.is_open ≡ true
  pub scope : area.scope ≡ row.scope
  pub bytes : area.bytes ≡ row.bytes
  pub used : 8 * row.mark ≡ 8 * row.start + used_bytes m.objects row.area
  pub room : 8 * row.mark ≤ 8 * row.start + row.bytes
  pub words : 8 * row.end ≡ 8 * row.start + rounded_up row.bytes

-- the objects that were made before an area was opened lie below it
pub record IsBased (objects : List ObjectRow) (row : AreaRow) : Type 0 where
  pub within : row.base ≤ length objects
  pub below : (i : ℕ) (x : ObjectRow) → i < row.base → slice_get objects i ≡ Some x → x.first < row.start

-- ---- all of it

pub record IsKept (ws : Words) (areas : List AreaRow) (objects : List ObjectRow) (m : Past) : Type 0 where
  pub firsts : length m.firsts ≡ length m.contents.objects
  -- each live object has its words, among those of its area and apart from those of the others, and its row
  pub laid : (p : ℕ) (o : Object) → IsLive m.contents p o → LiesAt ws (slice_index m.firsts p) o
  pub placed : (p : ℕ) (o : Object) → IsLive m.contents p o → LiesIn areas (slice_index m.firsts p) o
  pub apart : (p q : ℕ) (x y : Object) → p < q → IsLive m.contents p x → IsLive m.contents q y →
      (slice_index m.firsts p + 2 + length x.slots ≤ slice_index m.firsts q)
      ⊎ (slice_index m.firsts q + 2 + length y.slots ≤ slice_index m.firsts p)
  pub listed : objects ≡ object_rows (is_open_area m.contents) 0 m.contents.objects m.firsts
  -- each object lies in an area that there is
  pub inside : (p : ℕ) (o : Object) → slice_get m.contents.objects p ≡ Some o → o.area < length m.contents.areas
  -- the rows are those of the open areas, one behind the other
  pub rows : (k : ℕ) (row : AreaRow) → slice_get areas k ≡ Some row → IsRow m.contents row
  pub has_row : (a : ℕ) → is_open_area m.contents a ≡ true → HasRow areas a
  pub in_order : AreInOpeningOrder areas
  pub stacked : AreStacked 0 areas
  pub based : (k : ℕ) (row : AreaRow) → slice_get areas k ≡ Some row → IsBased objects row
  -- the areas lie within the words, and the sums are right
  pub end : end_after 0 areas ≤ length ws
  pub reserved : reserved_bytes m.contents.areas ≡ 8 * end_after 0 areas
  pub open_rows : length areas ≡ open_count m.contents
  pub live : all_live_bytes (is_open_area m.contents) m.contents.objects ≡ sum_by row_bytes areas

-- what the other fields keep: the store and its words, the numbers that were given, the static fields, and room for the
-- rows of all objects
pub record IsCounted (bytes area_count object_count : ℕ) (values : List Value) (ws : Words) (m : Contents) : Type 0
  where
    pub store : bytes ≡ m.store
    pub most : bytes ≤ 67108864
    pub words : length ws ≡ bytes / 8
    pub areas : area_count ≡ length m.areas
    pub objects : object_count ≡ length m.objects
    pub statics : values ≡ m.statics
