-- What is written into words, and that the others stay.
use Rattle.std.specs.Prelude.{◌≡◌, ℕ, ◌+◌, ◌<◌, ◌≤◌, ◌⊎◌, IsSome, List, length, get_or, slice_get, Some, None}
use Rattle.scj_base.specs.declared.values.Value.{Value}
use Rattle.scj_model.specs.State.{Object}
use Rattle.scj_model.specs.Memory.{new_object}
use Rattle.region_heap.specs.declared.rows.ObjectRow.{ObjectRow}
use Rattle.region_heap.specs.Kept.{LiesAt}
use Rattle.region_heap.specs.Rows.{IsListed, IsNotListed}
use Rattle.region_heap.specs.Words.{Words, area_in, ceiling_in, class_in, count_in, object_in, value_in, word}

-- only words from one on up to another are written, and those that were written stay written
pub record IsWrittenWithin (old : Words) (from to : ℕ) (new : Words) : Type 0 where
  pub long : length new ≡ length old
  pub same : (j : ℕ) → (j < from) ⊎ (to ≤ j) → get_or new j None ≡ get_or old j None
  pub kept : (j : ℕ) → IsSome (get_or old j None) → IsSome (get_or new j None)

-- a new object is written
pub record IsLaid (old : Words) (first class area : ℕ) (slots : List Value) (new : Words) : Type 0 where
  pub within : IsWrittenWithin old first (first + 2 + length slots) new
  pub lies : LiesAt new first (new_object class area slots)

-- the header is written, and as many slots
pub record IsBegun (old : Words) (first class area : ℕ) (slots : List Value) (count : ℕ) (new : Words) : Type 0 where
  pub most : count ≤ length slots
  pub within : IsWrittenWithin old first (first + 2 + length slots) new
  pub class_is : class_in (word new first) ≡ class
  pub area_is : area_in (word new first) ≡ area
  pub count_is : count_in (word new (first + 1)) ≡ length slots
  pub ceiling_is : ceiling_in (word new (first + 1)) ≡ 28
  pub values : (i : ℕ) → i < count → slice_get slots i ≡ Some (value_in (word new (first + 2 + i)))
  pub written : (j : ℕ) → first ≤ j → j < first + 2 + count → IsSome (get_or new j None)

-- the object whose first word it is has its words
pub record IsObject (ws : Words) (first : ℕ) : Type 0 where
  pub within : first + 2 + count_in (word ws (first + 1)) ≤ length ws
  pub most : length ws ≤ 8388608
  pub written : (j : ℕ) → first ≤ j → j < first + 2 + count_in (word ws (first + 1)) → IsSome (get_or ws j None)

-- the objects in the rows have their words
abbrev pub AreObjects : Words → List ObjectRow → Type 0
AreObjects ws rows = (i : ℕ) (row : ObjectRow) → slice_get rows i ≡ Some row → IsObject ws row.first

-- the object at a word is changed, and no word beside it
pub record IsChangedAt (old : Words) (first : ℕ) (change : Object → Object) (new : Words) : Type 0 where
  pub within : IsWrittenWithin old first (first + 2 + count_in (word old (first + 1))) new
  pub object : object_in new first ≡ change (object_in old first)

-- the object of a reference is changed, if it is listed
pub data IsChangedIn (old : Words) (rows : List ObjectRow) (r : ℕ) (change : Object →
    Object) (new : Words) : Type 0 where
  there : (first : ℕ) → IsListed rows r first → IsChangedAt old first change new → IsChangedIn old rows r change new
  nowhere : IsNotListed rows r → new ≡ old → IsChangedIn old rows r change new
