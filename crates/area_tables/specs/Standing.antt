-- A table that tells what a run has needed up to a state.
use Rattle.std.specs.Prelude.{◌≡◌, ◌<◌, ℕ, List, length, slice_get, Some}
use Rattle.scj_model.specs.State.{State}
use Rattle.scj_model.specs.Memory.{used}
use Rattle.region_heap.specs.declared.open_areas.Area.{Area}
use Rattle.region_heap.specs.OpenAreas.{open_areas}
use Rattle.area_needs.specs.declared.refusals.Refusal.{Refusal}
use Rattle.area_needs.specs.Needs.{Needs}
use Rattle.area_needs.specs.ScopeRows.{declared_of, opened_of, refused_of, used_of}
use Rattle.area_tables.specs.declared.rows.NeedRow.{NeedRow}
use Rattle.area_tables.specs.declared.tables.AreaTable.{AreaTable}

abbrev pub open_in : State → List Area
open_in s = open_areas s.objects 0 s.areas

-- what the areas of a scope need
abbrev pub need_of : State → List Refusal → ℕ → NeedRow
need_of s refusals scope =
    record {
      opened = opened_of scope s.areas;
      declared = declared_of scope s.areas;
      used = used_of (used s) scope 0 s.areas;
      refused = refused_of scope refusals;
    }

-- each of so many rows is this one
pub record AreRows (count : ℕ) (need : ℕ → NeedRow) (rows : List NeedRow) : Type 0 where
  pub long : length rows ≡ count
  pub each : (scope : ℕ) → scope < count → slice_get rows scope ≡ Some (need scope)

pub record Reports (count : ℕ) (s : State) (needs : Needs) (table : AreaTable) : Type 0 where
  pub rows : AreRows count (need_of s needs.refusals) table.rows.items
  pub open_count : table.open_count ≡ length (open_in s)
  pub reserved : table.reserved ≡ needs.reserved
