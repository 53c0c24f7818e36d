-- Rows of objects that are moved to the front, as far as they are kept.
use Rattle.std.specs.Prelude.{◌≡◌, ℕ, ◌≤◌, List, filter, length, slice_get, take}
use Rattle.region_heap.specs.declared.rows.ObjectRow.{ObjectRow}
use Rattle.region_heap.specs.Rows.{begins_below}

-- of the first i rows, those that begin below a word are moved to the front, and the rows from i on stay
pub record AreMovedDown (start : ℕ) (old new : List ObjectRow) (i kept : ℕ) : Type 0 where
  pub order : kept ≤ i
  pub most : i ≤ length old
  pub long : length new ≡ length old
  pub done : take kept new ≡ filter (begins_below start) (take i old)
  pub rest : (j : ℕ) → i ≤ j → slice_get new j ≡ slice_get old j
