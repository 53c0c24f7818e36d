-- What is done to the releases of a run, as the code keeps them, and what is asked of them.
use Rattle.std.specs.Prelude.{ℕ, ◌+◌, ◌==◌, nat_lt, Bool, ◌&&◌, List, [], ◌∷◌, ◌++◌, length, map, drop, slice_get, Option, Some, None, if◌then◌else◌}
use Rattle.std.specs.List.{count_by}
use Rattle.scj_rules.specs.Words.{◌>>=◌}
use Rattle.scj_model.specs.declared.events.Event.{Event}
use Rattle.scj_model.specs.declared.events.Event.TheVariants.{Arrive, Lost}
use Rattle.scj_model.specs.State.{changed}
use Rattle.scj_model.specs.Apply.{most_waiting}
use Rattle.job_frames.specs.declared.activities.Activity.{Activity as StoredActivity}
use Rattle.run_releases.specs.declared.rows.Release.{Release as StoredRelease}
use Rattle.run_releases.specs.declared.rows.ReleaseStatus.{ReleaseStatus as StoredStatus}
use Rattle.run_releases.specs.declared.rows.ReleaseStatus.TheVariants.{Waits}
use Rattle.run_releases.specs.Rows.{StoredReleases, activity_within, dropped_row, emptied_row, waits, with_status}

abbrev pub is_of : ℕ → StoredRelease → Bool
is_of handler r = r.handler == handler

abbrev pub waits_for : ℕ → StoredRelease → Bool
waits_for handler r = (r.handler == handler) && waits r.status

-- how many releases a handler has in this mission, and how many of them wait. The earlier ones are of other missions
unfoldable pub count_of : ℕ → List StoredRelease → ℕ → ℕ
count_of earlier rows handler = count_by (is_of handler) (drop earlier rows)

unfoldable pub waiting_count : ℕ → List StoredRelease → ℕ → ℕ
waiting_count earlier rows handler = count_by (waits_for handler) (drop earlier rows)

-- the number of one more release of the handler, unless as many wait as may
abbrev pub next_number : StoredReleases → ℕ → Option ℕ
next_number rs handler =
    if nat_lt (waiting_count rs.earlier rs.rows handler) most_waiting
    then Some (count_of rs.earlier rs.rows handler + 1)
    else None

-- one more release waits
abbrev pub waiting_row : ℕ → ℕ → StoredRelease
waiting_row handler number = record { handler = handler; number = number; status = Waits }

abbrev pub taken_in : ℕ → Option ℕ → StoredReleases → StoredReleases
taken_in handler None rs = rs
taken_in handler (Some number) rs = record rs { rows = rs.rows ++ waiting_row handler number ∷ [] }

-- what the trace tells of it
abbrev pub report_taken : ℕ → ℕ → Option ℕ → List Event
report_taken unit handler None = Lost unit handler ∷ []
report_taken unit handler (Some number) = Arrive unit handler number ∷ []

-- the next mission begins: all releases are of earlier ones
abbrev pub mission_begun : StoredReleases → StoredReleases
mission_begun rs = record rs { earlier = length rs.rows }

-- those that wait are dropped
abbrev pub all_dropped : StoredReleases → StoredReleases
all_dropped rs = record rs { rows = map dropped_row rs.rows }

-- the release at a place with another status
abbrev pub status_set : ℕ → StoredStatus → StoredReleases → StoredReleases
status_set index status rs = record rs { rows = changed (with_status status) index rs.rows }

-- the activity of the release at a place, if it is under way, and the releases without it
abbrev pub activity_in : List StoredRelease → ℕ → Option StoredActivity
activity_in rows index = slice_get rows index >>= (λ (r : StoredRelease). activity_within r.status)

abbrev pub emptied_at : ℕ → StoredReleases → StoredReleases
emptied_at index rs = record rs { rows = changed emptied_row index rs.rows }
