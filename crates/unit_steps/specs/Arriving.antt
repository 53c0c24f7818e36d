-- Parts of the definition of arrivals, for what single functions of the code do.
use Rattle.std.specs.Prelude.{ℕ, Option, ◌+◌, slice_get, if◌then◌else◌}
use Rattle.scj_rules.specs.Words.{holds}
use Rattle.scj_model.specs.declared.plans.Fire.{Fire}
use Rattle.scj_model.specs.Code.{Code}
use Rattle.scj_model.specs.State.{State}
use Rattle.scj_model.specs.Steps.{Step, silently}
use Rattle.scj_model.specs.Apply.{release_taken}
use Rattle.scj_model.specs.Arrivals.{comes_in, fired, is_due}

-- the handler at a place of the registry is released if it is due
unfoldable pub arrived_at : State → ℕ → Step
arrived_at s index =
    if holds (slice_get s.registry index) (is_due s.origin s.unit) then release_taken s (index + 1) else silently s

-- a fire of the plan has its effect if it comes in this unit
unfoldable pub fired_in : Code → Option ℕ → ℕ → State → Fire → Step
fired_in code origin unit s fire = if comes_in origin unit fire then fired code s fire else silently s
