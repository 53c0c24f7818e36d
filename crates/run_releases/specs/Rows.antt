-- Releases as the code keeps them, with the activities that it keeps, and what a state of the definitions sees in them
-- (JSR 302: event handlers).
use Rattle.std.specs.Prelude.{ℕ, Bool, true, false, List, map, Option, Some, None}
use Rattle.op_list.specs.Listed.{Listing}
use Rattle.scj_model.specs.State.{Release, ReleaseStatus, State}
use Rattle.scj_model.specs.State.{Waits as WaitsSeen, Started as StartedSeen, Ended as EndedSeen, Dropped as DroppedSeen}
use Rattle.job_frames.specs.declared.activities.Activity.{Activity as StoredActivity}
use Rattle.job_frames.specs.Frames.{activity_seen, empty_activity}
use Rattle.run_releases.specs.declared.rows.Release.{Release as StoredRelease}
use Rattle.run_releases.specs.declared.rows.ReleaseStatus.{ReleaseStatus as StoredStatus}
use Rattle.run_releases.specs.declared.rows.ReleaseStatus.TheVariants.{Waits, Started, Ended, Dropped}

-- all releases of a run, and how many of them are of earlier missions
pub record StoredReleases : Type 0 where
  pub rows : List StoredRelease
  pub earlier : ℕ

-- ---- as the definitions see them

abbrev pub status_seen : Listing → StoredStatus → ReleaseStatus
status_seen code Waits = WaitsSeen
status_seen code (Started activity) = StartedSeen (activity_seen code activity)
status_seen code Ended = EndedSeen
status_seen code Dropped = DroppedSeen

abbrev pub release_seen : Listing → StoredRelease → Release
release_seen code r = record { handler = r.handler; number = r.number; status = status_seen code r.status }

-- the state that has these releases, and is else as it was
abbrev pub with_releases : Listing → State → StoredReleases → State
with_releases code s rs =
    record s { releases = map (release_seen code) rs.rows; earlier_releases = rs.earlier }

-- ---- what a release does

abbrev pub waits : StoredStatus → Bool
waits Waits = true
waits (Started activity) = false
waits Ended = false
waits Dropped = false

abbrev pub is_under_way : StoredStatus → Bool
is_under_way Waits = false
is_under_way (Started activity) = true
is_under_way Ended = false
is_under_way Dropped = false

-- it waits or is under way
abbrev pub is_live : StoredStatus → Bool
is_live Waits = true
is_live (Started activity) = true
is_live Ended = false
is_live Dropped = false

abbrev pub activity_within : StoredStatus → Option StoredActivity
activity_within Waits = None
activity_within (Started activity) = Some activity
activity_within Ended = None
activity_within Dropped = None

-- ---- what becomes of it

abbrev pub with_status : StoredStatus → StoredRelease → StoredRelease
with_status status r = record r { status = status }

abbrev pub dropped_status : StoredStatus → StoredStatus
dropped_status Waits = Dropped
dropped_status (Started activity) = Started activity
dropped_status Ended = Ended
dropped_status Dropped = Dropped

abbrev pub dropped_row : StoredRelease → StoredRelease
dropped_row r = record r { status = dropped_status r.status }

-- the frames of one that is under way are taken out; it is under way still
abbrev pub emptied_status : StoredStatus → StoredStatus
emptied_status Waits = Waits
emptied_status (Started activity) = Started empty_activity
emptied_status Ended = Ended
emptied_status Dropped = Dropped

abbrev pub emptied_row : StoredRelease → StoredRelease
emptied_row r = record r { status = emptied_status r.status }
