-- What the code counts beside the releases, so that no call costs more where many are over: the places of the live
-- ones, and for each handler how many releases it has in this mission, and how many of them wait.
use Rattle.std.specs.Prelude.{◌≡◌, ◌≤◌, ◌-◌, ℕ, nat_lt, Bool, List, [], ◌∷◌, length, slice_get, slice_set, slice_index, Option, Some, None, if◌then◌else◌}
use Rattle.scj_rules.specs.Words.{holds, ◌>>=◌}
use Rattle.scj_model.specs.declared.events.Event.{Event}
use Rattle.scj_model.specs.declared.events.Event.TheVariants.{Drop}
use Rattle.scj_model.specs.Arrivals.{numbers_where}
use Rattle.run_releases.specs.declared.rows.Release.{Release as StoredRelease}
use Rattle.run_releases.specs.Rows.{is_live, is_under_way, waits}
use Rattle.run_releases.specs.Releases.{count_of, waiting_count}

abbrev pub row_is_live : StoredRelease → Bool
row_is_live r = is_live r.status

unfoldable pub live_indices : List StoredRelease → List ℕ
live_indices rows = numbers_where row_is_live 0 rows

-- the numbers of each handler are at its place, and 0 beyond the end
pub record AreCounted (live taken waiting : List ℕ) (earlier : ℕ) (rows : List StoredRelease) : Type 0 where
  pub all_live : live ≡ live_indices rows
  pub each_taken : (handler : ℕ) → slice_index taken handler ≡ count_of earlier rows handler
  pub each_waiting : (handler : ℕ) → slice_index waiting handler ≡ waiting_count earlier rows handler
  pub behind : earlier ≤ length rows

-- ---- what is read by a place, and of a place that isn't there nothing

abbrev pub is_live_at : List StoredRelease → ℕ → Bool
is_live_at rows index = holds (slice_get rows index) row_is_live

abbrev pub is_under_way_at : List StoredRelease → ℕ → Bool
is_under_way_at rows index = holds (slice_get rows index) (λ (r : StoredRelease). is_under_way r.status)

-- the handler for which the release waits, if it is of this mission
abbrev pub waiting_handler : List StoredRelease → ℕ → ℕ → Option ℕ
waiting_handler rows earlier index =
    if nat_lt index earlier then None
    else (slice_get rows index >>= (λ (r : StoredRelease). if waits r.status then Some r.handler else None))

-- the counts when the release waits no more
abbrev pub one_less : Option ℕ → List ℕ → List ℕ
one_less None counts = counts
one_less (Some handler) counts = slice_set counts handler (slice_index counts handler - 1)

-- what the trace tells of a release that is dropped
abbrev pub report_row : ℕ → StoredRelease → List Event
report_row unit r = if waits r.status then Drop unit r.handler r.number ∷ [] else []

abbrev pub report_at : List StoredRelease → ℕ → ℕ → List Event
report_at rows unit index = elim (slice_get rows index) [ None ↦ [] | Some r ↦ report_row unit r ]
