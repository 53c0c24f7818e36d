-- Parts of the definitions of what operations ask of a mission, each for what one function of the code does.
use Rattle.std.specs.Prelude.{◌+◌, true, [], ◌∷◌, ◌++◌, length, map}
use Rattle.scj_model.specs.declared.events.Event.TheVariants.{Register, Terminate}
use Rattle.scj_model.specs.declared.handlers.HandlerRow.{HandlerRow}
use Rattle.scj_model.specs.Code.{Code}
use Rattle.scj_model.specs.State.{State}
use Rattle.scj_model.specs.Steps.{Step, reporting}
use Rattle.scj_model.specs.Apply.{class_name, dropped_release, report_dropped}

-- a handler is registered behind the others, in the state that goes on
unfoldable pub newly_registered : Code → State → HandlerRow → State → Step
newly_registered code s row after =
    reporting (record after { registry = after.registry ++ row ∷ [] })
    (Register s.unit (length s.registry + 1) (class_name code row.class) row.priority ∷ [])

-- a mission that executes is asked to end
unfoldable pub execution_ended : State → Step
execution_ended s =
    reporting (record s { is_end_asked = true; releases = map dropped_release s.releases })
    (Terminate s.unit ∷ report_dropped s)
