-- Replay: what the lines of a trace tell so far of handlers, releases and choices; and Pick, the release that Chosen
-- picks of them.
use Rattle.std.specs.Prelude.{ℕ, zero, suc, ◌+◌, ◌==◌, Bool, true, false, not, ◌&&◌, List, [], ◌∷◌, ◌++◌, slice_get, position, option_map, option_to_list, Option, Some, None, is_some}
use Rattle.scj_rules.specs.Words.{holds}
use Rattle.scj_model.specs.Choice.{Candidate, most_urgent}
use Rattle.scj_model.specs.State.{changed}
use Rattle.trace_audit.specs.declared.releases.Release.{Release}
use Rattle.trace_audit.specs.declared.releases.Standing.{Standing}
use Rattle.trace_audit.specs.declared.releases.Standing.TheVariants.{Waits, Started, Gone}
use Rattle.trace_audit.specs.declared.choices.Choice.{Choice}
use Rattle.trace_audit.specs.declared.choices.Choice.TheVariants.{Idle, Chosen}

-- a registered handler: its priority, and how many of its releases have arrived
pub record HandlerSeen : Type 0 where
  pub priority : ℕ
  pub arrived : ℕ

-- the handlers of the mission in the order of their numbers, and its releases in the order in which they arrived
pub record Releases : Type 0 where
  pub handlers : List HandlerSeen
  pub releases : List Release

-- ---- Pick

abbrev pub handler_at : List HandlerSeen → ℕ → Option HandlerSeen
handler_at handlers handler = elim handler [ zero ↦ None | suc k ↦ slice_get handlers k ]

-- the priority with which a release waits: that of its `register` line
abbrev pub priority_at : List HandlerSeen → ℕ → ℕ
priority_at handlers handler = elim (handler_at handlers handler) [ None ↦ 0 | Some h ↦ h.priority ]

-- a release as a candidate of the choice; one that has ended or was dropped is none
abbrev pub candidate_at : List HandlerSeen → ℕ → Release → Option Candidate
candidate_at handlers index r =
    elim r.standing [
      | Waits ↦ Some (record { index = index; priority = priority_at handlers r.handler; is_started = false })
      | Started priority ↦ Some (record { index = index; priority = priority; is_started = true })
      | Gone ↦ None
    ]

unfoldable pub candidates_from : List HandlerSeen → ℕ → List Release → List Candidate
candidates_from handlers index [] = []
candidates_from handlers index (r ∷ rs) =
    option_to_list (candidate_at handlers index r) ++ candidates_from handlers (index + 1) rs

-- the place of the most urgent release
unfoldable pub picked_index : Releases → Option ℕ
picked_index all =
    option_map (λ (c : Candidate). c.index) (most_urgent (candidates_from all.handlers 0 all.releases))

-- the choice of the release at a place, and of nobody
abbrev pub choice_at : List Release → Option ℕ → Choice
choice_at releases None = Idle
choice_at releases (Some index) =
    elim (slice_get releases index) [ None ↦ Idle | Some r ↦ Chosen r.handler r.number ]

-- Pick
abbrev pub picked : Releases → Choice
picked all = choice_at all.releases (picked_index all)

abbrev pub is_same_choice : Choice → Choice → Bool
is_same_choice Idle Idle = true
is_same_choice (Chosen handler number) (Chosen k n) = (handler == k) && (number == n)
is_same_choice _ _ = false

-- ---- what lines do to the releases

abbrev pub is_named : ℕ → ℕ → Release → Bool
is_named handler number r = (r.handler == handler) && (r.number == number)

abbrev pub index_of : List Release → ℕ → ℕ → Option ℕ
index_of releases handler number = position (is_named handler number) releases

abbrev pub release_named : List Release → ℕ → ℕ → Option Release
release_named releases handler number =
    elim (index_of releases handler number) [ None ↦ None | Some index ↦ slice_get releases index ]

abbrev pub is_waiting : Release → Bool
is_waiting r = elim r.standing [ Waits ↦ true | Started priority ↦ false | Gone ↦ false ]

-- a release of this name stands otherwise from now on
abbrev pub restanding : (Standing → Standing) → ℕ → ℕ → Releases → Releases
restanding change handler number all =
    record all {
      releases = elim (index_of all.releases handler number) [
        | None ↦ all.releases
        | Some index ↦ changed (λ r. record r { standing = change r.standing }) index all.releases
      ];
    }

abbrev pub no_releases : Releases
no_releases = record { handlers = []; releases = [] }

abbrev pub registered : ℕ → Releases → Releases
registered priority all =
    record all { handlers = all.handlers ++ record { priority = priority; arrived = 0 } ∷ [] }

-- one more release of a handler waits
abbrev pub one_more : HandlerSeen → HandlerSeen
one_more h = record h { arrived = h.arrived + 1 }

abbrev pub arrived : ℕ → ℕ → Releases → Releases
arrived handler number all =
    record {
      handlers = elim handler [ zero ↦ all.handlers | suc k ↦ changed one_more k all.handlers ];
      releases = all.releases ++ record { handler = handler; number = number; standing = Waits } ∷ [];
    }

-- a release that waits is started, with the priority of its handler
abbrev pub start_with : ℕ → Standing → Standing
start_with priority Waits = Started priority
start_with priority (Started active) = Started active
start_with priority Gone = Gone

abbrev pub started : ℕ → ℕ → Releases → Releases
started handler number all =
    restanding (start_with (priority_at all.handlers handler)) handler number all

-- a release that is started has another active priority
abbrev pub raise_to : ℕ → Standing → Standing
raise_to priority Waits = Waits
raise_to priority (Started active) = Started priority
raise_to priority Gone = Gone

abbrev pub raised : ℕ → ℕ → ℕ → Releases → Releases
raised priority handler number all = restanding (raise_to priority) handler number all

abbrev pub gone : ℕ → ℕ → Releases → Releases
gone handler number all = restanding (λ standing. Gone) handler number all

-- ---- a replay

-- the releases; whose turn it was last; the origin, where Exec runs: the unit behind that of `exec`; the unit of the
-- line before; whether Exec ran when that unit began, and Pick differed then from the last choice; whether the unit has
-- a choice so far; and whether a last line stood
pub record Replay : Type 0 where
  pub all : Releases
  pub last_choice : Option Choice
  pub executes_since : Option ℕ
  pub unit : Option ℕ
  pub owes_choice : Bool
  pub has_choice : Bool
  pub is_over : Bool

-- before the first line
abbrev pub nothing_reported : Replay
nothing_reported =
    record {
      all = no_releases;
      last_choice = None;
      executes_since = None;
      unit = None;
      owes_choice = false;
      has_choice = false;
      is_over = false;
    }

-- Exec runs
abbrev pub is_executing : Replay → Bool
is_executing replay = is_some replay.executes_since

-- Pick isn't the last choice
abbrev pub differs : Replay → Bool
differs replay = not (holds replay.last_choice (is_same_choice (picked replay.all)))
