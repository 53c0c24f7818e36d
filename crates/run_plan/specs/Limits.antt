-- The limits of a plan.
use Rattle.std.specs.Prelude.{◌≡◌, ◌≤◌, ℕ, ℤ, pos, negsuc, ◌≤ℤ◌, List, length, true, All}
use Rattle.scj_base.specs.Lexeme.{is_name}
use Rattle.scj_model.specs.Plan.{Plan}
use Rattle.scj_model.specs.declared.plans.Fire.{Fire}
use Rattle.scj_model.specs.declared.plans.ReadingRow.{ReadingRow}

-- the most units of a run
abbrev pub most_units : ℕ
most_units = 10000000

-- the last unit of a run of the most units
abbrev pub last_unit : ℕ
last_unit = 9999999

-- the most bytes of the store
abbrev pub largest_store : ℕ
largest_store = 67108864

-- the most rows of fires, and of readings
abbrev pub most_rows : ℕ
most_rows = 10000

-- the last port of the device
abbrev pub last_port : ℕ
last_port = 255

-- the least and the greatest value of 32 bits
abbrev pub least_value : ℤ
least_value = negsuc 2147483647

abbrev pub greatest_value : ℤ
greatest_value = pos 2147483647

-- a fire comes in a unit that a run may have, and its handler has the form of a name
pub record IsFire (fire : Fire) : Type 0 where
  pub in_time : fire.at ≤ last_unit
  pub named : is_name fire.handler ≡ true

-- a reading is of a port, from a unit on that a run may have, and its value has 32 bits
pub record IsReading (row : ReadingRow) : Type 0 where
  pub of_a_port : row.port ≤ last_port
  pub in_time : row.at ≤ last_unit
  pub least : least_value ≤ℤ row.value
  pub greatest : row.value ≤ℤ greatest_value

pub record AreFires (fires : List Fire) : Type 0 where
  pub few : length fires ≤ most_rows
  pub each : All IsFire fires

pub record AreReadings (rows : List ReadingRow) : Type 0 where
  pub few : length rows ≤ most_rows
  pub each : All IsReading rows

-- what every plan keeps
pub record KeepsLimits (plan : Plan) : Type 0 where
  pub units : plan.units ≤ most_units
  pub store : plan.store ≤ largest_store
  pub fires : AreFires plan.fires
  pub readings : AreReadings plan.readings
