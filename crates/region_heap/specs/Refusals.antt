-- Whether the hidden fields of an object can be set.
use Rattle.std.specs.Prelude.{◌≡◌, ℕ, List, Some, true, false}
use Rattle.region_heap.specs.declared.rows.ObjectRow.{ObjectRow}
use Rattle.region_heap.specs.Rows.{IsListed, IsNotListed}
use Rattle.region_heap.specs.Words.{Words, object_in, refuses_hidden}

-- the hidden fields of the object of a reference can be set, if it is listed
pub data AllowsHidden (ws : Words) (rows : List ObjectRow) (r : ℕ) (hidden : List ℕ) : Type 0 where
  listed : (first : ℕ) → IsListed rows r first → refuses_hidden (Some (object_in ws first)) hidden ≡ false →
      AllowsHidden ws rows r hidden
  unlisted : IsNotListed rows r → AllowsHidden ws rows r hidden

-- it is listed, and its hidden fields can't be set
pub record RefusesHidden (ws : Words) (rows : List ObjectRow) (r : ℕ) (hidden : List ℕ) : Type 0 where
  pub first : ℕ
  pub is_listed : IsListed rows r first
  pub refuses : refuses_hidden (Some (object_in ws first)) hidden ≡ true
