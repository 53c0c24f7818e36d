-- The schedule of a mission in a run under the machine's own choice, what it is for a run to stay within declared rows,
-- and what is promised of it.
use Rattle.std.specs.Prelude.{◌≡◌, ◌≤◌, ◌<◌, ℕ, pred, ◌+◌, ◌-◌, nat_lt, true, false, not, List, length, slice_get}
use Rattle.std.specs.Prelude.{Option, Some, None, if◌then◌else◌}
use Rattle.scj_rules.specs.Words.{◌>>=◌}
use Rattle.scj_model.specs.declared.handlers.HandlerRow.{HandlerRow}
use Rattle.scj_model.specs.Code.{Code}
use Rattle.scj_model.specs.Plan.{Plan}
use Rattle.scj_model.specs.State.{Release, State, is_exec}
use Rattle.scj_model.specs.Registry.{handler_row}
use Rattle.scj_model.specs.Choice.{candidate, may_act, by_priority}
use Rattle.scj_model.specs.Run.{run}
use Rattle.release_turns.specs.Choices.{at_choice, acting}
use Rattle.response_bounds.specs.Sums.{count_below}
use Rattle.response_bounds.specs.declared.rows.Declared.{Declared}
use Rattle.response_bounds.specs.declared.responses.Response.{Response}
use Rattle.response_bounds.specs.declared.responses.Response.TheVariants.{Bound}
use Rattle.response_bounds.specs.Responses.{IsBound}
use Rattle.response_bounds.specs.Rows.{row_at}
use Rattle.response_bounds.specs.Schedule.{Schedule, KeepsRows}

-- ---- the schedule of a mission

-- the active priority of a release that waits or is started
unfoldable pub active_priority : State → ℕ → ℕ
active_priority s index =
    elim (slice_get s.releases index >>= candidate s index) [ None ↦ 0 | Some c ↦ c.priority ]

-- the unit in which a release is ready: the first for whose choice it is there. So it is the unit of its arrival, and
-- one later where an operation of the unit made it. Of the units before n those are counted where it isn't there.
unfoldable pub ready_unit : Code → Plan → ℕ → ℕ → ℕ
ready_unit code plan n index = count_below (λ t. not (nat_lt index (length (at_choice code plan t).releases))) n

-- the place in the mission whose first release has the given place
abbrev pub shifted : ℕ → ℕ → Option ℕ
shifted first index = if nat_lt index first then None else Some (index - first)

-- handler k has row k - 1
unfoldable pub row_of_release : State → ℕ → ℕ
row_of_release s index = elim (slice_get s.releases index) [ None ↦ 0 | Some r ↦ pred r.handler ]

-- the mission of unit n, in the units before n
unfoldable pub mission_schedule : Code → Plan → ℕ → Schedule
mission_schedule code plan n =
    let first : ℕ = (at_choice code plan n).earlier_releases in
    record {
      places = length (at_choice code plan n).releases - first;
      row_of = λ k. row_of_release (at_choice code plan n) (first + k);
      ready = λ k. ready_unit code plan n (first + k);
      is_left = λ t k. may_act (at_choice code plan t) (first + k);
      active = λ t k. active_priority (at_choice code plan t) (first + k);
      actor = λ t. acting (at_choice code plan t) >>= shifted first;
    }

-- ---- to stay within what is declared

-- there are at most as many handlers as rows, and each has its row's priority
pub record HasRows (rows : List Declared) (registry : List HandlerRow) : Type 0 where
  pub are_enough : length registry ≤ length rows
  pub priorities : (k : ℕ) (handler : HandlerRow) → slice_get registry k ≡ Some handler →
      handler.priority ≡ (row_at rows k).priority

-- in the first n units each mission has the rows' handlers, and its schedule keeps what the rows declare
pub record Within (rows : List Declared) (code : Code) (plan : Plan) (n : ℕ) : Type 0 where
  pub handlers : (t : ℕ) → t ≤ n → is_exec (at_choice code plan t).phase ≡ true →
      HasRows rows (at_choice code plan t).registry
  pub keeps : (t : ℕ) → t ≤ n → is_exec (at_choice code plan t).phase ≡ true →
      KeepsRows rows t (mission_schedule code plan t)

-- ---- the promise

-- the release at a place is ready in unit t: it is there for its choice, and for none before
pub record IsReadyIn (code : Code) (plan : Plan) (t index : ℕ) : Type 0 where
  pub is_there : index < length (at_choice code plan t).releases
  pub is_new : (s : ℕ) → s < t → length (at_choice code plan s).releases ≤ index

-- each release of a handler with a bound of x units has ended or was dropped x units after it was ready, if the run has
-- had that many units
abbrev pub RespondsInTime : List Declared → Code → Plan → ℕ → Type 0
RespondsInTime rows code plan n =
    (i x t index : ℕ) (r : Release) → IsBound rows i x → IsReadyIn code plan t index →
    slice_get (at_choice code plan t).releases index ≡ Some r → r.handler ≡ i + 1 → t + x ≤ n →
    may_act (at_choice code plan (t + x)) index ≡ false

-- the same of the bounds that are claimed
abbrev pub RespondsAsClaimed : List Response → Code → Plan → ℕ → Type 0
RespondsAsClaimed claims code plan n =
    (i x t index : ℕ) (r : Release) → slice_get claims i ≡ Some (Bound x) → IsReadyIn code plan t index →
    slice_get (at_choice code plan t).releases index ≡ Some r → r.handler ≡ i + 1 → t + x ≤ n →
    may_act (at_choice code plan (t + x)) index ≡ false

-- ---- of any program

-- who may act does so in the execution of its mission, and its handler is registered
pub record IsOfMission (s : State) : Type 0 where
  pub exec : (q : ℕ) → may_act s q ≡ true → is_exec s.phase ≡ true
  pub from : (q : ℕ) → may_act s q ≡ true → s.earlier_releases ≤ q
  pub row : (q : ℕ) (r : Release) → may_act s q ≡ true → slice_get s.releases q ≡ Some r →
      (row : HandlerRow) × (handler_row s.registry r.handler ≡ Some row)

-- the promise for the runs in which who may act is the mission's, and that aren't stuck
abbrev pub RespondsInTimeIf : List Declared → Type 0
RespondsInTimeIf rows =
    (code : Code) (plan : Plan) (n : ℕ) → ((t : ℕ) → t ≤ n → IsOfMission (at_choice code plan t)) →
    (run code plan by_priority n).is_stuck ≡ false → Within rows code plan n → RespondsInTime rows code plan n
