-- What becomes of the highest frame of an activity, if there is one.
use Rattle.std.specs.Prelude.{ℕ, List, [], ◌∷◌, Some}
use Rattle.job_frames.specs.declared.frames.Frame.{Frame as StoredFrame}

-- it saves a priority
abbrev pub with_saved : ℕ → List StoredFrame → List StoredFrame
with_saved priority [] = []
with_saved priority (f ∷ fs) = record f { saved = Some priority } ∷ fs

-- it has opened an area, and makes its objects there
abbrev pub moved_in : ℕ → List StoredFrame → List StoredFrame
moved_in area [] = []
moved_in area (f ∷ fs) = record f { area = area; opened = Some area } ∷ fs
