-- What the operation of a unit came to, and the two parts of a unit: up to its operation, and what follows it.
use Rattle.std.specs.Prelude.{◌≡◌, Bool, true, false, Option, Some}
use Rattle.scj_rules.specs.Words.{◌>>=◌}
use Rattle.scj_model.specs.Code.{Code}
use Rattle.scj_model.specs.Plan.{Plan}
use Rattle.scj_model.specs.State.{State}
use Rattle.scj_model.specs.Steps.{Step, reporting, then_try}
use Rattle.scj_model.specs.Sequencer.{phase_after}
use Rattle.scj_model.specs.Arrivals.{arrivals}
use Rattle.scj_model.specs.Choice.{Policy}
use Rattle.scj_model.specs.Run.{acts, next_unit}
use Rattle.area_needs.specs.declared.refusals.Refusal.{Refusal}
use Rattle.unit_steps.specs.declared.refusals.Acted.{Acted}
use Rattle.unit_steps.specs.declared.refusals.Acted.TheVariants.{Stuck, Done}

-- it was done
abbrev pub went : Acted → Bool
went Stuck = false
went (Done refusal) = true

-- where it was done, it was refused this
abbrev pub Refuses : Acted → Option Refusal → Type 0
Refuses Stuck refusal = Unit {0}
Refuses (Done found) refusal = found ≡ refusal

-- arrivals, choice, one operation
abbrev pub operated : Code → Plan → Policy → State → Option Step
operated code plan policy s = then_try (arrivals code plan s) (acts code plan.readings policy)

-- what follows these, and the next unit comes next
abbrev pub followed : Code → Step → Option Step
followed code done =
    then_try done (phase_after code) >>= (λ result. Some (reporting (next_unit result.state) result.events))
