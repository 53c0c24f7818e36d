-- How many objects and areas a run can have made.
use Rattle.std.specs.Prelude.{ℕ, ◌+◌, ◌≤◌, length}
use Rattle.scj_model.specs.State.{State}
use Rattle.scj_model.specs.Reached.{Moment, Between, Arrived, Operated}

-- the units whose operation is done
abbrev pub operations_done : Moment → State → ℕ
operations_done Between s = s.unit
operations_done Arrived s = s.unit
operations_done Operated s = s.unit + 1

pub record IsWithinUnits (moment : Moment) (s : State) : Type 0 where
  pub objects : length s.objects ≤ operations_done moment s
  pub areas : length s.areas ≤ operations_done moment s
