-- How areas nest: each open area is on the list of the sequencer's or was opened by a frame of a started release, and
-- what was opened later has the greater number (JSR 302: memory areas).
use Rattle.std.specs.Prelude.{◌≡◌, ℕ, ◌<◌, true, ◌⊎◌, List, [], ◌∷◌, ◌++◌, length, Some, option_to_list}
use Rattle.scj_rules.specs.Words.{is_among}
use Rattle.scj_model.specs.State.{Frame, State, is_open_area}
use Rattle.priority_laws.specs.Started.{StartedRelease, started_at}

-- the areas that frames opened, the last opened first
abbrev pub opened_by : List Frame → List ℕ
opened_by [] = []
opened_by (f ∷ fs) = option_to_list f.opened ++ opened_by fs

-- all areas of the one list were opened before all of the other
abbrev pub AreBefore : List ℕ → List ℕ → Type 0
AreBefore earlier later = (a b : ℕ) → is_among a earlier ≡ true → is_among b later ≡ true → a < b

-- each area is below this number
abbrev pub AreBelow : ℕ → List ℕ → Type 0
AreBelow n areas = (a : ℕ) → is_among a areas ≡ true → a < n

-- the areas of a list were opened from its end to its front
abbrev pub Falls : List ℕ → Type 0
Falls [] = Unit {0}
Falls (a ∷ areas) = AreBelow a areas × Falls areas

-- the sequencer's areas: those that its frames opened are the last ones
pub record NestsForSequencer (s : State) : Type 0 where
  pub falls : Falls s.activity.areas
  pub are_there : AreBelow (length s.areas) s.activity.areas
  pub base : List ℕ
  pub is_list : s.activity.areas ≡ opened_by s.activity.frames ++ base

-- the areas of a started release, which lie inside the mission's
pub record NestsForRelease (s : State) (w : StartedRelease) : Type 0 where
  pub falls : Falls (opened_by w.activity.frames)
  pub are_there : AreBelow (length s.areas) (opened_by w.activity.frames)
  pub are_inside : AreBefore s.activity.areas (opened_by w.activity.frames)

-- a started release opened the area
pub record IsOpenedByRelease (s : State) (a : ℕ) : Type 0 where
  pub index : ℕ
  pub release : StartedRelease
  pub is_there : started_at s.releases index ≡ Some release
  pub is_opened : is_among a (opened_by release.activity.frames) ≡ true

-- no area is open that no job closes
pub record AreasAreOpened (s : State) : Type 0 where
  pub is : (a : ℕ) → is_open_area s a ≡ true → (is_among a s.activity.areas ≡ true) ⊎ IsOpenedByRelease s a
