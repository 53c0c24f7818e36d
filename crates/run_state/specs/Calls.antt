-- Parts of the definitions of calls and of leaving, each for what one function of the code does.
use Rattle.std.specs.Prelude.{ℕ, List, [], ◌∷◌, Option, Some, None}
use Rattle.scj_base.specs.declared.positions.Position.{Position}
use Rattle.scj_base.specs.declared.values.Value.{Value}
use Rattle.scj_base.specs.declared.values.Value.TheVariants.{At}
use Rattle.scj_base.specs.declared.faults.RunFault.TheVariants.{MemoryFull}
use Rattle.scj_model.specs.State.{Frame, Activity, Job, State, with_activity}
use Rattle.scj_model.specs.Steps.{Step, fault_in, job_ended, opening, silently, reporting}
use Rattle.scj_model.specs.Apply.{report_priority}

-- a call that enters a monitor with this ceiling, which isn't below the priority
unfoldable pub call_entered : State → Job → Activity → List Frame → Frame → ℕ → Step
call_entered s job activity frames g ceiling =
    reporting
    (with_activity s job (record activity {
      frames = record g { saved = Some activity.priority } ∷ frames;
      priority = ceiling;
    }))
    (report_priority s job activity.priority ceiling)

-- a call in a new area, where neither scope nor depth forbids it
unfoldable pub call_opened : State → Job → Activity → List Frame → Position → Frame → ℕ → Option ℕ → ℕ → Step
call_opened s job activity frames position g scope parent bytes =
    opening s job activity position scope parent bytes (λ s area.
    silently (with_activity s job (record activity {
      frames = record g { area = area; opened = Some area } ∷ frames;
      areas = area ∷ activity.areas;
    })))

-- a frame has left, and these are below it
unfoldable pub settled : State → Job → Activity → Option Value → List Frame → Step
settled s job after value below =
    elim below [
      | [] ↦ job_ended s job after value
      | g ∷ gs ↦ silently (with_activity s job after)
    ]

-- what was made in the area of the highest frame is its last operand; where nothing was made the area is full
unfoldable pub made_or_full : State → Job → Activity → Frame → List Frame → Position → Option ℕ → Step
made_or_full s job activity f below position made =
    elim made [
      | Some r ↦ silently
          (with_activity s job (record activity { frames = record f { operands = At r ∷ f.operands } ∷ below }))
      | None ↦ fault_in s job activity position MemoryFull
    ]
