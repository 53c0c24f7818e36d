-- Rows of open areas, and rows of the objects that lie in them.
use Rattle.std.specs.Prelude.{◌≡◌, ℕ, ◌+◌, ◌<◌, ◌≤◌, nat_lt, Bool, List, [], ◌∷◌, slice_get, Some, if◌then◌else◌}
use Rattle.scj_model.specs.State.{Object}
use Rattle.region_heap.specs.declared.rows.AreaRow.{AreaRow}
use Rattle.region_heap.specs.declared.rows.ObjectRow.{ObjectRow}

-- ---- areas

-- the row at a place is that of an area
pub record IsRowOf (rows : List AreaRow) (area k : ℕ) : Type 0 where
  pub row : AreaRow
  pub is : slice_get rows k ≡ Some row
  pub of_area : row.area ≡ area

pub record HasRow (rows : List AreaRow) (area : ℕ) : Type 0 where
  pub k : ℕ
  pub is_row : IsRowOf rows area k

-- the first word behind the words of these areas
abbrev pub end_after : ℕ → List AreaRow → ℕ
end_after start [] = start
end_after start (row ∷ rows) = end_after row.end rows

-- the words of each area follow those of the one before
abbrev pub AreStacked : ℕ → List AreaRow → Type 0
AreStacked start [] = Unit {0}
AreStacked start (row ∷ rows) = (row.start ≡ start) × (row.start ≤ row.end) × AreStacked row.end rows

-- the areas stand in the order in which they were opened
abbrev pub AreInOpeningOrder : List AreaRow → Type 0
AreInOpeningOrder rows = (i j : ℕ) (x y : AreaRow) → i < j → slice_get rows i ≡ Some x → slice_get rows j ≡ Some y →
    x.area < y.area

-- ---- objects

-- the objects stand in the order in which they were made
abbrev pub AreInOrder : List ObjectRow → Type 0
AreInOrder rows = (i j : ℕ) (x y : ObjectRow) → i < j → slice_get rows i ≡ Some x → slice_get rows j ≡ Some y →
    x.number < y.number

-- the object of a reference has this first word
pub record IsListed (rows : List ObjectRow) (r first : ℕ) : Type 0 where
  pub index : ℕ
  pub row : ObjectRow
  pub is : slice_get rows index ≡ Some row
  pub number : row.number ≡ r
  pub first_is : row.first ≡ first

-- no row is that of the reference
abbrev pub IsNotListed : List ObjectRow → ℕ → Type 0
IsNotListed rows r = (i : ℕ) (row : ObjectRow) → slice_get rows i ≡ Some row → row.number ≡ r → ⊥

-- the rows of those objects, numbered from n on, whose area passes a test
unfoldable pub object_rows : (ℕ → Bool) → ℕ → List Object → List ℕ → List ObjectRow
object_rows test n [] firsts = []
object_rows test n (o ∷ os) [] = []
object_rows test n (o ∷ os) (first ∷ firsts) =
    if test o.area then record { number = n; first = first } ∷ object_rows test (n + 1) os firsts
    else object_rows test (n + 1) os firsts

-- an object begins below a word
abbrev pub begins_below : ℕ → ObjectRow → Bool
begins_below start row = nat_lt row.first start
