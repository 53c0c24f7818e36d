-- What the operation of a job finds that registers a handler.
use Rattle.std.specs.Prelude.{◌≡◌, ℕ, true, List, ◌∷◌, Some}
use Rattle.scj_model.specs.declared.operations.Op.{Op}
use Rattle.scj_model.specs.declared.plans.ReadingRow.{ReadingRow}
use Rattle.scj_model.specs.Code.{Code}
use Rattle.scj_model.specs.State.{Object, Frame, Activity, State, object_at, is_init}
use Rattle.scj_model.specs.Registry.{new_row}
use Rattle.scj_model.specs.Effects.{AsksRegistration}
use Rattle.scj_model.specs.Run.{effect_at}
use Rattle.frame_sound.specs.Places.{world_of}
use Rattle.mission_sound.specs.Bases.{Base}
use Rattle.mission_sound.specs.Invariant.{RowFine}

-- where the operation asks in initialisation that a handler is registered, the handler's row is as the invariant says
abbrev pub RegistersFine : Code → Base → List ReadingRow → State → Frame → Op → List Op → Type 0
RegistersFine code base rows s f op rest =
    (g : Frame) (r : ℕ) (o : Object) → effect_at code rows s f op rest ≡ AsksRegistration g r →
    object_at s r ≡ Some o → is_init s.phase ≡ true → RowFine code.program (world_of s) base (new_row code.program r o)

-- the next operation of the highest frame does so
abbrev pub NextRegistersFine : Code → Base → List ReadingRow → State → Activity → Type 0
NextRegistersFine code base rows s activity =
    (f : Frame) (below : List Frame) (op : Op) (rest : List Op) → activity.frames ≡ f ∷ below → f.rest ≡ op ∷ rest →
    RegistersFine code base rows s f op rest
