-- The choice of the release that acts in a unit of execution: the most urgent one (JSR 302: preemptive fixed-priority
-- scheduling with priority ceiling emulation), or any one that a list of choices names.
use Rattle.std.specs.Prelude.{ℕ, ◌+◌, ◌==◌, nat_lt, Bool, true, false, not, ◌&&◌, ◌||◌, List, [], ◌∷◌, ◌++◌, slice_get, option_to_list, Option, Some, None, if◌then◌else◌, option_map, is_some}
use Rattle.scj_rules.specs.Words.{holds, ◌>>=◌}
use Rattle.scj_model.specs.State.{Waits, Started, Ended, Dropped, Release, State, IdleTurn, Turn, TurnOf}
use Rattle.scj_model.specs.Registry.{handler_row}

-- a release that may act: where it stands among all releases, its active priority, and whether it is started
pub record Candidate : Type 0 where
  pub index : ℕ
  pub priority : ℕ
  pub is_started : Bool

-- the priority with which a release waits: the one that its handler was registered with
abbrev pub handler_priority : State → ℕ → ℕ
handler_priority s handler = elim (handler_row s.registry handler) [ None ↦ 0 | Some row ↦ row.priority ]

unfoldable pub candidate : State → ℕ → Release → Option Candidate
candidate s index r =
    elim r.status [
      | Waits ↦ Some (record { index = index; priority = handler_priority s r.handler; is_started = false })
      | Started activity ↦ Some (record { index = index; priority = activity.priority; is_started = true })
      | Ended ↦ None
      | Dropped ↦ None
    ]

-- the waiting and the started releases, from this place on
unfoldable pub candidates_from : State → ℕ → List Release → List Candidate
candidates_from s index [] = []
candidates_from s index (r ∷ rs) =
    option_to_list (candidate s index r) ++ candidates_from s (index + 1) rs

unfoldable pub candidates : State → List Candidate
candidates s = candidates_from s 0 s.releases

-- a candidate is more urgent than one of an earlier place: it has the higher priority, or the same one and is started
-- where the other waits
abbrev pub is_more_urgent : Candidate → Candidate → Bool
is_more_urgent c earlier =
    nat_lt earlier.priority c.priority
    || ((c.priority == earlier.priority) && (c.is_started && not earlier.is_started))

unfoldable pub most_urgent : List Candidate → Option Candidate
most_urgent [] = None
most_urgent (c ∷ cs) =
    elim (most_urgent cs) [ None ↦ Some c | Some later ↦ Some (if is_more_urgent later c then later else c) ]

-- Chosen: the place of the most urgent release
unfoldable pub chosen : State → Option ℕ
chosen s = option_map (λ (c : Candidate). c.index) (most_urgent (candidates s))

-- ---- who acts

-- a way to choose; it may have no result
abbrev pub Policy : Type 0
Policy = State → Option Turn

unfoldable pub by_priority : Policy
by_priority s = Some (elim (chosen s) [ None ↦ IdleTurn | Some index ↦ TurnOf index ])

-- the release at the place waits or is started
unfoldable pub may_act : State → ℕ → Bool
may_act s index = holds (slice_get s.releases index) (λ r. is_some (candidate s index r))

-- the list names a release for each unit of the run. Where none may act the unit is idle; a release that may not act is
-- no choice
unfoldable pub by_list : List ℕ → Policy
by_list choices s =
    elim (candidates s) [
      | [] ↦ Some IdleTurn
      | c ∷ cs ↦ slice_get choices s.unit >>= (λ index. if may_act s index then Some (TurnOf index) else None)
    ]
