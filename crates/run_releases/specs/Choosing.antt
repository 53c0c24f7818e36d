-- The choice among the live releases: from the last to the first, the more urgent one of each and of those behind it
-- (JSR 302: preemptive fixed-priority scheduling with priority ceiling emulation).
use Rattle.std.specs.Prelude.{ℕ, true, false, List, slice_get, Option, Some, None, if◌then◌else◌, option_map, option_to_list}
use Rattle.std.specs.List.{flat_map}
use Rattle.scj_rules.specs.Words.{◌>>=◌}
use Rattle.scj_model.specs.declared.handlers.HandlerRow.{HandlerRow}
use Rattle.scj_model.specs.Choice.{Candidate, is_more_urgent, most_urgent}
use Rattle.scj_model.specs.Registry.{handler_row}
use Rattle.run_releases.specs.declared.rows.Release.{Release as StoredRelease}
use Rattle.run_releases.specs.declared.rows.ReleaseStatus.{ReleaseStatus as StoredStatus}
use Rattle.run_releases.specs.declared.rows.ReleaseStatus.TheVariants.{Waits, Started, Ended, Dropped}

-- the priority with which a handler was registered
abbrev pub priority_of : List HandlerRow → ℕ → ℕ
priority_of registry handler = elim (handler_row registry handler) [ None ↦ 0 | Some row ↦ row.priority ]

-- a waiting release of this handler, or one that is under way, as a candidate
abbrev pub candidate_by : List HandlerRow → ℕ → ℕ → StoredStatus → Option Candidate
candidate_by registry index handler Waits =
    Some (record { index = index; priority = priority_of registry handler; is_started = false })
candidate_by registry index handler (Started activity) =
    Some (record { index = index; priority = activity.priority; is_started = true })
candidate_by registry index handler Ended = None
candidate_by registry index handler Dropped = None

abbrev pub candidate_at : List HandlerRow → List StoredRelease → ℕ → Option Candidate
candidate_at registry rows index =
    slice_get rows index >>= (λ (r : StoredRelease). candidate_by registry index r.handler r.status)

unfoldable pub candidates_at : List HandlerRow → List StoredRelease → List ℕ → List Candidate
candidates_at registry rows indices = flat_map (λ index. option_to_list (candidate_at registry rows index)) indices

-- the more urgent one of a candidate and of the most urgent one behind it
abbrev pub preferred : Option Candidate → Option Candidate → Option Candidate
preferred None later = later
preferred (Some c) None = Some c
preferred (Some c) (Some later) = Some (if is_more_urgent later c then later else c)

-- the place of the most urgent one among those at these places
unfoldable pub chosen_among : List HandlerRow → List StoredRelease → List ℕ → Option ℕ
chosen_among registry rows indices =
    option_map (λ (c : Candidate). c.index) (most_urgent (candidates_at registry rows indices))
