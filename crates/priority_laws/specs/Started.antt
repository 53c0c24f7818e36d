-- The started releases of a state, by their places among all releases, and the priorities with which they started.
use Rattle.std.specs.Prelude.{ℕ, List, Option, slice_get, option_map}
use Rattle.scj_rules.specs.Words.{◌>>=◌}
use Rattle.scj_model.specs.State.{Activity, Release, State, activity_in}
use Rattle.scj_model.specs.Choice.{handler_priority}

-- a started release: its handler's number, and its frames, areas and active priority
pub record StartedRelease : Type 0 where
  pub handler : ℕ
  pub activity : Activity

abbrev pub started_as : ℕ → Activity → StartedRelease
started_as handler activity = record { handler = handler; activity = activity }

unfoldable pub started_in : Release → Option StartedRelease
started_in r = option_map (started_as r.handler) (activity_in r.status)

-- the started release at this place
unfoldable pub started_at : List Release → ℕ → Option StartedRelease
started_at releases index = slice_get releases index >>= started_in

-- the priority with which a release started: the one that its handler was registered with
abbrev pub own_priority : State → StartedRelease → ℕ
own_priority s w = handler_priority s w.handler
