-- What a unit does to the releases, from the state in which its choice is made to that of the next unit.
use Rattle.std.specs.Prelude.{◌≡◌, ◌≤◌, ℕ, true, false, List, length, slice_get, ◌⊎◌, Some, None}
use Rattle.scj_model.specs.State.{Waits, Dropped, Release, State, is_exec}
use Rattle.release_turns.specs.Choices.{acting}

-- a release stands at its place later: of the same handler, and with the same status unless it acts, or waited and was
-- dropped
pub record Stands (s : State) (q : ℕ) (r : Release) (after : List Release) : Type 0 where
  pub release : Release
  pub is_there : slice_get after q ≡ Some release
  pub handler : release.handler ≡ r.handler
  pub moves : (acting s ≡ Some q) ⊎ ((r.status ≡ release.status) ⊎ ((r.status ≡ Waits) × (release.status ≡ Dropped)))

-- each release stands there yet, and new ones wait
pub record Move (s : State) (after : List Release) : Type 0 where
  pub there : (q : ℕ) (r : Release) → slice_get s.releases q ≡ Some r → Stands s q r after
  pub fresh : (q : ℕ) (r : Release) → slice_get s.releases q ≡ None → slice_get after q ≡ Some r → r.status ≡ Waits

-- the mission is the same, or a later one, which begins behind all releases
pub record UnitStep (s t : State) : Type 0 where
  pub move : Move s t.releases
  pub mission : (t.earlier_releases ≡ s.earlier_releases) ⊎ (length s.releases ≤ t.earlier_releases)
  -- in execution the mission stays; outside it the first releases of a new one are those that are not there yet
  pub inside : is_exec s.phase ≡ true → t.earlier_releases ≡ s.earlier_releases
  pub outside : is_exec s.phase ≡ false →
      (t.earlier_releases ≡ s.earlier_releases) ⊎ (t.earlier_releases ≡ length s.releases)
