-- The order in which releases are started, in the states of runs by priority: a release starts only above the active
-- priorities of those that are under way.
use Rattle.std.specs.Prelude.{◌≡◌, ℕ, ◌<◌, true, false, ◌⊎◌, [], IsSome, Option, Some, None}
use Rattle.scj_base.specs.declared.values.Value.{Value}
use Rattle.scj_model.specs.Code.{Code}
use Rattle.scj_model.specs.State.{State, is_exec}
use Rattle.scj_model.specs.Registry.{handler_row}
use Rattle.scj_model.specs.Reached.{Moment, Between, Arrived, Operated}
use Rattle.priority_laws.specs.Started.{StartedRelease, started_at, own_priority}
use Rattle.priority_laws.specs.Rising.{Rises, Guards}
use Rattle.priority_laws.specs.Nesting.{opened_by, AreBefore, NestsForSequencer, NestsForRelease, AreasAreOpened}

-- of two started releases the later one has the greater own priority than the active one of the earlier, and opened all
-- its areas after those of the earlier
pub record IsStartedAfter (s : State) (earlier later : StartedRelease) : Type 0 where
  pub is_above : earlier.activity.priority < own_priority s later
  pub areas : AreBefore (opened_by earlier.activity.frames) (opened_by later.activity.frames)

-- each two started releases were started one after the other
pub record AreStartedInTurn (s : State) : Type 0 where
  pub is : (p q : ℕ) (w v : StartedRelease) → (p ≡ q → ⊥) → started_at s.releases p ≡ Some w →
      started_at s.releases q ≡ Some v → IsStartedAfter s w v ⊎ IsStartedAfter s v w

-- the active priority of each started release is raised by its calls
pub record PrioritiesRise (s : State) : Type 0 where
  pub is : (p : ℕ) (w : StartedRelease) → started_at s.releases p ≡ Some w →
      Rises (own_priority s w) w.activity.priority w.activity.frames

-- the handler of each started release is registered
pub record StartedHaveRows (s : State) : Type 0 where
  pub is : (p : ℕ) (w : StartedRelease) → started_at s.releases p ≡ Some w → IsSome (handler_row s.registry w.handler)

-- the areas of each started release nest
pub record ReleasesNest (s : State) : Type 0 where
  pub is : (p : ℕ) (w : StartedRelease) → started_at s.releases p ≡ Some w → NestsForRelease s w

-- outside execution no release is started, in execution the sequencer has no frame and no operation, nor has it a frame
-- once its operation is done
pub record TakeTurns (s : State) : Type 0 where
  pub outside : is_exec s.phase ≡ false → (p : ℕ) → started_at s.releases p ≡ None
  pub inside : is_exec s.phase ≡ true → s.activity.frames ≡ []
  pub waits : is_exec s.phase ≡ true → s.outcome ≡ None
  pub done : (v : Value) → s.outcome ≡ Some v → s.activity.frames ≡ []

-- all of this at once
pub record IsInOrder (s : State) : Type 0 where
  pub turns : TakeTurns s
  pub started : AreStartedInTurn s
  pub rise : PrioritiesRise s
  pub rows : StartedHaveRows s
  pub sequencer : NestsForSequencer s
  pub nest : ReleasesNest s
  pub opened : AreasAreOpened s

-- what followed an operation of the sequencer has been done, but for the moment right after it
abbrev pub IsFollowed : Moment → Option Value → Type 0
IsFollowed Operated outcome = Unit {0}
IsFollowed Between outcome = outcome ≡ None
IsFollowed Arrived outcome = outcome ≡ None

pub record IsOrderedAt (moment : Moment) (s : State) : Type 0 where
  pub order : IsInOrder s
  pub followed : IsFollowed moment s.outcome

-- the monitors of each started release are guarded by its priorities
pub record MonitorsAreGuarded (code : Code) (s : State) : Type 0 where
  pub is : (p : ℕ) (w : StartedRelease) → started_at s.releases p ≡ Some w →
      Guards code s.objects w.activity.priority w.activity.frames
