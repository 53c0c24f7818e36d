-- What the operation of a unit needs where an area has no room for the object that it makes (JSR 302: memory areas).
use Rattle.std.specs.Prelude.{ℕ, ◌+◌, List, [], ◌∷◌, length, slice_get, Option, Some, None, if◌then◌else◌}
use Rattle.scj_rules.specs.Words.{◌>>=◌}
use Rattle.scj_rules.specs.Layout.{size_with_slots}
use Rattle.scj_rules.specs.Bodies.{safelet_class}
use Rattle.scj_model.specs.declared.operations.SeqOp.{SeqOp}
use Rattle.scj_model.specs.declared.operations.SeqOp.TheVariants.{AllocSafelet}
use Rattle.scj_model.specs.declared.plans.ReadingRow.{ReadingRow}
use Rattle.scj_model.specs.Code.{Code}
use Rattle.scj_model.specs.State.{Frame, Release, Turn, IdleTurn, TurnOf, State, activity_in, area_at, is_exec}
use Rattle.scj_model.specs.Memory.{has_room, new_slots, used}
use Rattle.scj_model.specs.Effects.{Effect, Makes}
use Rattle.scj_model.specs.Sequencer.{innermost}
use Rattle.scj_model.specs.Choice.{Policy}
use Rattle.scj_model.specs.Run.{effect_at}
use Rattle.area_needs.specs.declared.refusals.Refusal.{Refusal}

-- an object with so many slots, in an area without room for it: what would be in use with it
unfoldable pub refused_in : State → ℕ → ℕ → Option Refusal
refused_in s area count =
    if has_room s area count then None
    else (area_at s area >>= (λ x. Some (record { scope = x.scope; bytes = used s area + size_with_slots count })))

-- one effect makes an object
unfoldable pub refused_by : State → Effect → Option Refusal
refused_by s (Makes f class slots) = refused_in s f.area (length slots)
refused_by s _ = None

-- the next operation of the highest of these frames
unfoldable pub refused_on : Code → List ReadingRow → State → List Frame → Option Refusal
refused_on code rows s frames =
    elim frames [
      | [] ↦ None
      | f ∷ below ↦ elim f.rest [ [] ↦ None | op ∷ rest ↦ refused_by s (effect_at code rows s f op rest) ]
    ]

-- one operation of the sequencer's own makes an object, the safelet
unfoldable pub refused_own : Code → State → SeqOp → Option Refusal
refused_own code s AllocSafelet =
    safelet_class code.program >>= (λ class. innermost s.activity.areas >>= (λ area.
    refused_in s area (length (new_slots code.program class))))
refused_own code s _ = None

unfoldable pub refused_to_sequencer : Code → List ReadingRow → State → Option Refusal
refused_to_sequencer code rows s =
    elim s.activity.frames [
      | [] ↦ refused_own code s s.operation
      | f ∷ fs ↦ refused_on code rows s s.activity.frames
    ]

-- a release that starts makes no object
abbrev pub refused_to : Code → List ReadingRow → State → Release → Option Refusal
refused_to code rows s r = activity_in r.status >>= (λ a. refused_on code rows s a.frames)

unfoldable pub refused_to_turn : Code → List ReadingRow → State → Turn → Option Refusal
refused_to_turn code rows s IdleTurn = None
refused_to_turn code rows s (TurnOf index) = slice_get s.releases index >>= refused_to code rows s

-- the operation of a unit, in the state after the arrivals
unfoldable pub refused_at : Code → List ReadingRow → Policy → State → Option Refusal
refused_at code rows policy s =
    if is_exec s.phase then policy s >>= refused_to_turn code rows s else refused_to_sequencer code rows s
