-- What a run has needed of memory so far: how much of the store was reserved at once, and what areas had no room for. A
-- unit is looked at twice: after its operation and before what follows it, and when it is over.
use Rattle.std.specs.Prelude.{ℕ, zero, suc, max, List, [], ◌∷◌, ◌++◌, Option, Some, None, if◌then◌else◌}
use Rattle.scj_model.specs.declared.plans.ReadingRow.{ReadingRow}
use Rattle.scj_model.specs.Code.{Code}
use Rattle.scj_model.specs.Plan.{Plan}
use Rattle.scj_model.specs.State.{State}
use Rattle.scj_model.specs.Memory.{reserved}
use Rattle.scj_model.specs.Steps.{Step}
use Rattle.scj_model.specs.Arrivals.{arrivals}
use Rattle.scj_model.specs.Choice.{by_priority}
use Rattle.scj_model.specs.Run.{RunSoFar, acts, has_ended, one_unit, run}
use Rattle.area_needs.specs.declared.refusals.Refusal.{Refusal}
use Rattle.area_needs.specs.Refusals.{refused_at}

-- the greatest Reserved of the states that were looked at, and each object for which an area had no room
pub record Needs : Type 0 where
  pub reserved : ℕ
  pub refusals : List Refusal

abbrev pub no_needs : Needs
no_needs = record { reserved = 0; refusals = [] }

-- a state is looked at, if there is one
unfoldable pub looked_at : Option Step → Needs → Needs
looked_at None needs = needs
looked_at (Some step) needs = record needs { reserved = max needs.reserved (reserved step.state) }

unfoldable pub with_refusal : Option Refusal → Needs → Needs
with_refusal None needs = needs
with_refusal (Some r) needs = record needs { refusals = needs.refusals ++ r ∷ [] }

-- the operation of a unit, in the state after the arrivals
unfoldable pub after_operation : Code → List ReadingRow → State → Needs → Needs
after_operation code rows s needs =
    looked_at (acts code rows by_priority s) (with_refusal (refused_at code rows by_priority s) needs)

-- a unit
unfoldable pub after_unit : Code → Plan → State → Needs → Needs
after_unit code plan s needs =
    looked_at (one_unit code plan by_priority s)
    (after_operation code plan.readings (arrivals code plan s).state needs)

unfoldable pub after_one_more : Code → Plan → RunSoFar → Needs → Needs
after_one_more code plan so_far needs = if has_ended so_far then needs else after_unit code plan so_far.state needs

-- after so many units
unfoldable pub needs_after : Code → Plan → ℕ → Needs
needs_after code plan zero = no_needs
needs_after code plan (suc n) = after_one_more code plan (run code plan by_priority n) (needs_after code plan n)
