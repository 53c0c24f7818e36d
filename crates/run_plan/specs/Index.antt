-- The orders in which fires and readings are kept beside the plan's, so that they are found quickly.
use Rattle.std.specs.Prelude.{ℕ, nat_lt, nat_le, ◌==◌, Bool, true, false, not, Option, ◌&&◌, ◌||◌, List, filter, length}
use Rattle.std.specs.List.Sorted.{IsSorted, IsStable}
use Rattle.std.specs.Ordering.{nat_cmp, ordering_then}
use Rattle.std.specs.declared.cmp.Ordering.{Ordering}
use Rattle.scj_model.specs.Plan.{Plan}
use Rattle.scj_model.specs.Arrivals.{comes_in}
use Rattle.scj_model.specs.declared.plans.Fire.{Fire}
use Rattle.scj_model.specs.declared.plans.FireFrom.{FireFrom}
use Rattle.scj_model.specs.declared.plans.FireFrom.TheVariants.{Start, Mission}
use Rattle.scj_model.specs.declared.plans.ReadingRow.{ReadingRow}

-- fires by their units
abbrev pub by_unit : Fire → Fire → Ordering
by_unit a b = nat_cmp a.at b.at

-- the fires by their units, those of one unit in the order of the plan
pub record AreByUnit (fires sorted : List Fire) : Type 0 where
  pub ordered : IsSorted by_unit sorted
  pub stable : IsStable by_unit fires sorted

-- readings by their ports, those of a port by their units
abbrev pub by_port : ReadingRow → ReadingRow → Ordering
by_port a b = ordering_then (nat_cmp a.port b.port) (nat_cmp a.at b.at)

-- a row that stands in that order no further than those of the port and the unit
abbrev pub is_up_to : ℕ → ℕ → ReadingRow → Bool
is_up_to port unit row = nat_lt row.port port || ((row.port == port) && nat_le row.at unit)

-- the readings by their ports and units, those of one port and unit in the order of the plan
pub record AreByPort (rows sorted : List ReadingRow) : Type 0 where
  pub ordered : IsSorted by_port sorted
  pub stable : IsStable by_port rows sorted

-- how many of the fires come before a unit
abbrev pub count_before : List Fire → ℕ → ℕ
count_before fires unit = length (filter (λ (fire : Fire). nat_lt fire.at unit) fires)

-- the fires that are counted from the start of the run, and those that are counted from the origin of each mission
abbrev pub is_from_start : FireFrom → Bool
is_from_start Start = true
is_from_start Mission = false

abbrev pub from_start : List Fire → List Fire
from_start fires = filter (λ (fire : Fire). is_from_start fire.from) fires

abbrev pub from_mission : List Fire → List Fire
from_mission fires = filter (λ (fire : Fire). not (is_from_start fire.from)) fires

-- how many of the fires that a plan counts from the start are past when a unit begins
abbrev pub fires_before : Plan → ℕ → ℕ
fires_before plan unit = count_before (from_start plan.fires) unit

-- of the fires those that come in a unit of the run, in their order; of a mission that executes its origin is given
abbrev pub coming : Option ℕ → ℕ → List Fire → List Fire
coming origin unit fires = filter (comes_in origin unit) fires
