-- Bounded: a job whose areas have room for all that its frames have left to do.
use Rattle.std.specs.Prelude.{◌≡◌, ◌≤◌, ◌<◌, ℕ, ◌+◌, ◌==◌, true, List, [], ◌∷◌, Some, if◌then◌else◌}
use Rattle.scj_rules.specs.Words.{is_among}
use Rattle.scj_model.specs.Code.{Code}
use Rattle.scj_model.specs.State.{MemoryArea, Frame, State, area_at}
use Rattle.scj_model.specs.Memory.{used}
use Rattle.frame_sound.specs.OwnJob.{opened_by}
use Rattle.memory_needs.specs.Need.{Table, too_much}
use Rattle.memory_bounds.specs.Weights.{ops_weight}

-- what these frames need in an area
unfoldable pub frames_weight : Code → Table → ℕ → List Frame → ℕ
frames_weight code table a [] = 0
frames_weight code table a (f ∷ fs) =
    (if f.area == a then ops_weight code table f.rest else 0) + frames_weight code table a fs

-- the area has room for so many bytes more
pub record HasRoomFor (s : State) (a bytes : ℕ) : Type 0 where
  pub area : MemoryArea
  pub is : area_at s a ≡ Some area
  pub fits : used s a + bytes ≤ area.bytes
  pub small : area.bytes < too_much

-- a frame that needs something runs in an area that it or a frame below it opened
unfoldable pub NeedOwnAreas : Code → Table → List Frame → Type 0
NeedOwnAreas code table [] = Unit {0}
NeedOwnAreas code table (f ∷ fs) =
    (0 < ops_weight code table f.rest → is_among f.area (opened_by (f ∷ fs)) ≡ true) × NeedOwnAreas code table fs

-- where the frames need something there is room, and their job opened the area
pub record IsBounded (code : Code) (table : Table) (s : State) (frames : List Frame) : Type 0 where
  pub room : (a : ℕ) → 0 < frames_weight code table a frames → HasRoomFor s a (frames_weight code table a frames)
  pub own : NeedOwnAreas code table frames
