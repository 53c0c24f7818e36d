-- How calls raise the active priority of a release: a frame that enters a monitor saves the priority before, and the
-- ceiling of the monitor's object is the priority from then on (JSR 302: priority ceiling emulation).
use Rattle.std.specs.Prelude.{◌≡◌, ℕ, ◌≤◌, List, [], ◌∷◌, slice_get, Some, unwrap_or}
use Rattle.scj_model.specs.Code.{Code}
use Rattle.scj_model.specs.State.{Object, Frame}
use Rattle.scj_model.specs.Effects.{monitor_of}

-- the priority that the frames under a frame have, where this is the one with it
abbrev pub priority_under : Frame → ℕ → ℕ
priority_under f priority = unwrap_or f.saved priority

-- a saved priority is at most the active one and those saved above it, and the lowest is the own priority
abbrev pub Rises : ℕ → ℕ → List Frame → Type 0
Rises own priority [] = own ≡ priority
Rises own priority (f ∷ fs) = (priority_under f priority ≤ priority) × Rises own (priority_under f priority) fs

-- the object is there, and its ceiling lies between two priorities
pub record HasCeilingBetween (objects : List Object) (r low high : ℕ) : Type 0 where
  pub object : Object
  pub is_there : slice_get objects r ≡ Some object
  pub from : low ≤ object.ceiling
  pub upto : object.ceiling ≤ high

-- the ceiling of an object whose monitor a frame holds is at least the priority under the frame, and at most the one
-- with it
abbrev pub Guards : Code → List Object → ℕ → List Frame → Type 0
Guards code objects priority [] = Unit {0}
Guards code objects priority (f ∷ fs) =
    ((r : ℕ) → monitor_of code f ≡ Some r → HasCeilingBetween objects r (priority_under f priority) priority)
    × Guards code objects (priority_under f priority) fs
