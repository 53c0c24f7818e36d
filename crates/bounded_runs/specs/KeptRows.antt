-- A run of three handlers that stays within declared rows, in which one of them has acted above its own priority.
use Rattle.std.specs.Prelude.{◌≡◌, ◌<◌, ℕ, true, List, length}
use Rattle.scj_tree.specs.Forest.{Forest}
use Rattle.scj_rules.specs.Phases.{IsAccepted}
use Rattle.scj_model.specs.Code.{code_of}
use Rattle.scj_model.specs.Plan.{Plan}
use Rattle.release_turns.specs.Choices.{at_choice}
use Rattle.response_bounds.specs.declared.rows.Declared.{Declared}
use Rattle.response_bounds.specs.Rows.{AreDeclared}
use Rattle.response_bounds.specs.Schedule.{acts, own}
use Rattle.response_times.specs.Runs.{Within, mission_schedule}

pub record StaysWithinItsRows : Type 0 where
  pub program : Forest
  pub plan : Plan
  pub rows : List Declared
  pub n : ℕ
  pub keeps_rules : IsAccepted program
  pub declared : AreDeclared rows
  pub within : Within rows (code_of program) plan n
  pub three : length (at_choice (code_of program) plan n).registry ≡ 3
  -- in unit t a release of the mission of unit n acts above its own priority
  pub t : ℕ
  pub index : ℕ
  pub before : t < n
  pub acting : acts (mission_schedule (code_of program) plan n) t index ≡ true
  pub above : own rows (mission_schedule (code_of program) plan n) index
      < (mission_schedule (code_of program) plan n).active t index
