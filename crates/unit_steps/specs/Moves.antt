-- How a release goes on: with its first operation, with the next one of its frames, or not at all.
use Rattle.std.specs.Prelude.{ℕ, List, slice_get, Option, Some, None}
use Rattle.run_releases.specs.declared.rows.Release.{Release}
use Rattle.run_releases.specs.declared.rows.ReleaseStatus.{ReleaseStatus}
use Rattle.run_releases.specs.declared.rows.ReleaseStatus.TheVariants.{Waits, Started, Ended, Dropped}
use Rattle.unit_steps.specs.declared.turns.Move.{Move}
use Rattle.unit_steps.specs.declared.turns.Move.TheVariants.{Starts, GoesOn, Nothing}

-- a release of this handler with this status
abbrev pub move_by : ℕ → ReleaseStatus → Move
move_by handler Waits = Starts handler
move_by handler (Started activity) = GoesOn
move_by handler Ended = Nothing
move_by handler Dropped = Nothing

-- the release at a place, if there is one
abbrev pub move_of : Option Release → Move
move_of None = Nothing
move_of (Some r) = move_by r.handler r.status

abbrev pub move_at : List Release → ℕ → Move
move_at rows index = move_of (slice_get rows index)
