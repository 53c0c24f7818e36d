-- The state in which the choice of a unit is made, and who acts in it.
use Rattle.std.specs.Prelude.{ℕ, Option, None, if◌then◌else◌}
use Rattle.scj_model.specs.Code.{Code}
use Rattle.scj_model.specs.Plan.{Plan}
use Rattle.scj_model.specs.State.{State, is_exec}
use Rattle.scj_model.specs.Arrivals.{arrivals}
use Rattle.scj_model.specs.Choice.{chosen, by_priority}
use Rattle.scj_model.specs.Run.{run}

-- the state after so many units, under the machine's own choice
abbrev pub state_after : Code → Plan → ℕ → State
state_after code plan t = (run code plan by_priority t).state

-- and once the arrivals of the next unit are taken in, so that its choice is made
abbrev pub at_choice : Code → Plan → ℕ → State
at_choice code plan t = (arrivals code plan (state_after code plan t)).state

-- the place of the release that acts, in execution
unfoldable pub acting : State → Option ℕ
acting s = if is_exec s.phase then chosen s else None
