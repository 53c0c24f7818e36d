-- When the releases of a replay stand for those of a state of a run.
use Rattle.std.specs.Prelude.{◌≡◌, ◌<◌, ◌≤◌, ℕ, drop, length, map, slice_get, Some, None}
use Rattle.scj_model.specs.declared.handlers.HandlerRow.{HandlerRow}
use Rattle.scj_model.specs.Choice.{candidate}
use Rattle.scj_model.specs.State.{ReleaseStatus, Waits as WaitsNow, Started as StartedNow, Ended, Dropped, Release as ReleaseNow, State}
use Rattle.trace_audit.specs.declared.releases.Release.{Release}
use Rattle.trace_audit.specs.declared.releases.Standing.{Standing}
use Rattle.trace_audit.specs.declared.releases.Standing.TheVariants.{Waits, Started, Gone}
use Rattle.trace_audit.specs.Replay.{HandlerSeen, Releases}

abbrev pub standing_of : ReleaseStatus → Standing
standing_of WaitsNow = Waits
standing_of (StartedNow activity) = Started activity.priority
standing_of Ended = Gone
standing_of Dropped = Gone

abbrev pub release_seen : ReleaseNow → Release
release_seen r = record { handler = r.handler; number = r.number; standing = standing_of r.status }

-- the handlers are registered with these priorities, the releases are those of the mission, and none of an earlier
-- mission waits or is started
pub record StandsFor (s : State) (all : Releases) : Type 0 where
  pub handlers : map (λ (row : HandlerRow). row.priority) s.registry
      ≡ map (λ (h : HandlerSeen). h.priority) all.handlers
  pub releases : map release_seen (drop s.earlier_releases s.releases) ≡ all.releases
  pub within : s.earlier_releases ≤ length s.releases
  pub earlier : (index : ℕ) (r : ReleaseNow) → slice_get s.releases index ≡ Some r → index < s.earlier_releases →
      candidate s index r ≡ None
