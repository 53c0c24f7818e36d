-- Arrivals: the releases that are taken in at the beginning of a unit, periodic ones in the order of the handlers'
-- numbers, then the plan's in the plan's order (JSR 302: PeriodicEventHandler, AperiodicEventHandler).
use Rattle.std.specs.Prelude.{true, false, ℕ, ◌+◌, ◌-◌, ◌%◌, ◌==◌, nat_lt, Bool, not, ◌&&◌, List, [], ◌∷◌, ◌++◌, Option, Some, None, if◌then◌else◌, slice_get}
use Rattle.scj_rules.specs.Words.{◌>>=◌}
use Rattle.scj_rules.specs.Classes.{class_number}
use Rattle.scj_model.specs.declared.events.Event.TheVariants.{Miss}
use Rattle.scj_model.specs.declared.handlers.HandlerKind.{HandlerKind}
use Rattle.scj_model.specs.declared.handlers.HandlerKind.TheVariants.{Periodic, OneShot, Aperiodic}
use Rattle.scj_model.specs.declared.handlers.HandlerRow.{HandlerRow}
use Rattle.scj_model.specs.declared.plans.Fire.{Fire}
use Rattle.scj_model.specs.declared.plans.FireFrom.{FireFrom}
use Rattle.scj_model.specs.declared.plans.FireFrom.TheVariants.{Start, Mission}
use Rattle.scj_model.specs.Code.{Code}
use Rattle.scj_model.specs.Plan.{Plan}
use Rattle.scj_model.specs.State.{State, is_exec}
use Rattle.scj_model.specs.Registry.{aperiodic_of}
use Rattle.scj_model.specs.Steps.{Step, reporting, then_do, for_each, silently}
use Rattle.scj_model.specs.Apply.{takes_releases, release_taken}

-- a handler of the kind, whose first unit this is, is due: a periodic one in that unit and after each period, a one-shot
-- one in that unit alone
unfoldable pub is_due_after : HandlerKind → ℕ → ℕ → ℕ → Bool
is_due_after Periodic first period unit = not (nat_lt unit first) && ((unit - first) % period == 0)
is_due_after OneShot first period unit = unit == first
is_due_after Aperiodic first period unit = false

-- a handler's first unit is the origin and its start
unfoldable pub is_due : ℕ → ℕ → HandlerRow → Bool
is_due origin unit row = is_due_after row.kind (origin + row.start) row.period unit

-- the numbers of the elements of which a test holds; the first element has this number
unfoldable pub numbers_where : {A : Type 0} → (A → Bool) → ℕ → List A → List ℕ
numbers_where test number [] = []
numbers_where test number (x ∷ xs) = (if test x then number ∷ [] else []) ++ numbers_where test (number + 1) xs

-- a fire comes in a unit: counted from the start of the run, or from the origin of a mission in execution
unfoldable pub comes_at : FireFrom → Option ℕ → ℕ → ℕ → Bool
comes_at Start origin unit at = at == unit
comes_at Mission None unit at = false
comes_at Mission (Some origin) unit at = origin + at == unit

unfoldable pub comes_in : Option ℕ → ℕ → Fire → Bool
comes_in origin unit fire = comes_at fire.from origin unit fire.at

-- the origin of the mission, while it executes
unfoldable pub executes_since : State → Option ℕ
executes_since s = if is_exec s.phase then Some s.origin else None

-- the handlers that are due in a unit, by their numbers, and the plan's fires of a unit, by their places
unfoldable pub handlers_due : ℕ → ℕ → List HandlerRow → List ℕ
handlers_due origin unit registry = numbers_where (is_due origin unit) 1 registry

unfoldable pub fires_due : Option ℕ → ℕ → List Fire → List ℕ
fires_due origin unit fires = numbers_where (comes_in origin unit) 0 fires

-- the handlers that are released periodically in this unit
unfoldable pub due_handlers : State → List ℕ
due_handlers s = if takes_releases s then handlers_due s.origin s.unit s.registry else []

-- a fire releases the first aperiodic handler of exactly its class; else it has no effect
unfoldable pub fired_handler : Code → State → List ℕ → Option ℕ
fired_handler code s name =
    if takes_releases s then class_number code.program.names name >>= aperiodic_of s.registry else None

unfoldable pub fired : Code → State → Fire → Step
fired code s fire =
    elim (fired_handler code s fire.handler) [
      | Some handler ↦ release_taken s handler
      | None ↦ reporting s (Miss s.unit fire.handler ∷ [])
    ]

-- the fire at this place of the plan
abbrev pub fired_at : Code → List Fire → State → ℕ → Step
fired_at code fires s index = elim (slice_get fires index) [ None ↦ silently s | Some fire ↦ fired code s fire ]

unfoldable pub arrivals : Code → Plan → State → Step
arrivals code plan s =
    then_do (for_each release_taken (due_handlers s) s)
    (for_each (fired_at code plan.fires) (fires_due (executes_since s) s.unit plan.fires))
