-- A state sees the releases of the code: what the code does to them and reads in them is what the definitions say.
use Rattle.std.specs.Prelude.{Bool, true, false, not, nat_lt, ◌&&◌, ◌||◌, ◌==◌, Option, Some, None, option_map, drop, filter, cond, slice_get, if◌then◌else◌}
use Rattle.std.specs.List.{count_by, flat_map, list_any}
use Rattle.std.proofs.Common.{◌≡◌, ◌∙◌, ◌≤◌, ◌<◌, ℕ, ◌+◌, List, [], ◌∷◌, ◌++◌, length, map, refl, ap, sym, arith}
use Rattle.std.proofs.lemmas.Bool.Decides.{nat_tests}
use Rattle.std.proofs.lemmas.List.{drop-map, map-append}
use Rattle.std.proofs.lemmas.List.Sums.{length-filter}
use Rattle.std.proofs.lemmas.Option.{slice_get-map}
use Rattle.scj_rules.specs.Words.{◌>>=◌}
use Rattle.scj_model.specs.declared.handlers.HandlerRow.{HandlerRow}
use Rattle.scj_model.specs.declared.events.Event.{Event}
use Rattle.scj_model.specs.declared.events.Event.TheVariants.{Arrive, Drop, Lost}
use Rattle.op_list.specs.Listed.{Listing}
use Rattle.scj_model.specs.State.{Release, ReleaseAt, State, activity_in as activity_in_status, activity_of, is_started, is_waiting, with_activity}
use Rattle.scj_model.specs.State.{Waits as WaitsSeen, with_status as state_with_status}
use Rattle.scj_model.specs.Steps.{Step, reporting}
use Rattle.scj_model.specs.Apply.{dropped_release, most_waiting, release_taken, releases_of, report_dropped, waiting_of}
use Rattle.scj_model.specs.Choice.{candidates, chosen}
use Rattle.scj_model.specs.Sequencer.{has_started}
use Rattle.job_frames.specs.declared.activities.Activity.{Activity as StoredActivity}
use Rattle.job_frames.specs.Frames.{activity_seen}
use Rattle.run_releases.specs.declared.rows.Release.{Release as StoredRelease}
use Rattle.run_releases.specs.declared.rows.ReleaseStatus.{ReleaseStatus as StoredStatus}
use Rattle.run_releases.specs.declared.rows.ReleaseStatus.TheVariants.{Waits, Started, Ended, Dropped}
use Rattle.run_releases.specs.Rows.{StoredReleases, activity_within, dropped_row, dropped_status, emptied_row, is_live, is_under_way, release_seen, status_seen, waits, with_releases, with_status}
use Rattle.run_releases.specs.Releases.{activity_in, all_dropped, count_of, emptied_at, is_of, waiting_row, next_number, status_set, taken_in, report_taken, waiting_count, waits_for}
use Rattle.run_releases.specs.Counts.{is_under_way_at, live_indices, row_is_live, report_at, report_row}
use Rattle.run_releases.specs.Choosing.{chosen_among}
use Rattle.run_releases.specs.OtherReleases.{all_let_go, at_unit, with_list, with_registry}
use Rattle.run_releases.proofs.Changes.{changed_twice, map_changed}
use Rattle.run_releases.proofs.Choosing.{chosen_seen}
use Rattle.run_releases.proofs.Counting.{count_both, count_mapped}
use Rattle.run_releases.proofs.ByPlace.{any_there, from_first, reported_there}

-- ---- statuses

waits_seen : (code : Listing) (status : StoredStatus) → is_waiting (status_seen code status) ≡ waits status
unfolding is_waiting
waits_seen code Waits = refl
waits_seen code (Started activity) = refl
waits_seen code Ended = refl
waits_seen code Dropped = refl

started_seen : (code : Listing) (status : StoredStatus) → is_started (status_seen code status) ≡ is_under_way status
unfolding is_started
started_seen code Waits = refl
started_seen code (Started activity) = refl
started_seen code Ended = refl
started_seen code Dropped = refl

over_waits_not : (status : StoredStatus) → is_live status ≡ false → waits status ≡ false
over_waits_not Waits over = cc
over_waits_not (Started activity) over = cc
over_waits_not Ended over = refl
over_waits_not Dropped over = refl

over_is_not_started : (status : StoredStatus) → is_live status ≡ false → is_under_way status ≡ false
over_is_not_started Waits over = cc
over_is_not_started (Started activity) over = cc
over_is_not_started Ended over = refl
over_is_not_started Dropped over = refl

-- ---- releases that are taken in

count_seen : (code : Listing) (s : State) (rs : StoredReleases) (handler : ℕ) →
    length (releases_of (with_releases code s rs) handler) ≡ count_of rs.earlier rs.rows handler
unfolding count_of
count_seen code s rs handler =
    length-filter (λ (r : Release). r.handler == handler) (drop rs.earlier (map (release_seen code) rs.rows))
    ∙ (ap (count_by (λ (r : Release). r.handler == handler)) (drop-map (release_seen code) rs.earlier rs.rows)
    ∙ count_mapped (λ (r : Release). r.handler == handler) (is_of handler) (release_seen code) (λ r. refl)
    (drop rs.earlier rs.rows))

waiting_seen : (code : Listing) (s : State) (rs : StoredReleases) (handler : ℕ) →
    length (waiting_of (with_releases code s rs) handler) ≡ waiting_count rs.earlier rs.rows handler
unfolding waiting_count
waiting_seen code s rs handler =
    count_both (λ (r : Release). r.handler == handler) (λ (r : Release). is_waiting r.status)
    (drop rs.earlier (map (release_seen code) rs.rows))
    ∙ (ap (count_by (λ (r : Release). (r.handler == handler) && is_waiting r.status))
    (drop-map (release_seen code) rs.earlier rs.rows)
    ∙ count_mapped (λ (r : Release). (r.handler == handler) && is_waiting r.status) (waits_for handler)
    (release_seen code)
    (λ r. ap (λ b. (r.handler == handler) && b) (waits_seen code r.status)) (drop rs.earlier rs.rows))

-- by how many wait and how many there are
taken_by : State → ℕ → ℕ → ℕ → Step
taken_by s handler waiting count =
    if not (nat_lt waiting most_waiting) then reporting s (Lost s.unit handler ∷ [])
    else (let number = count + 1 in
    let taken : Release = record { handler = handler; number = number; status = WaitsSeen } in
    reporting (with_list s (s.releases ++ taken ∷ [])) (Arrive s.unit handler number ∷ []))

abbrev reported_with : Listing → State → StoredReleases → ℕ → Option ℕ → Step
reported_with code s rs handler number =
    reporting (with_releases code s (taken_in handler number rs)) (report_taken s.unit handler number)

pub taken_seen : (code : Listing) (s : State) (rs : StoredReleases) (handler : ℕ) →
    release_taken (with_releases code s rs) handler
    ≡ reporting (with_releases code s (taken_in handler (next_number rs handler) rs))
    (report_taken s.unit handler (next_number rs handler))
unfolding release_taken taken_by
taken_seen code s rs handler =
    ap (λ n. taken_by (with_releases code s rs) handler n (length (releases_of (with_releases code s rs) handler)))
    (waiting_seen code s rs handler)
    ∙ (ap (taken_by (with_releases code s rs) handler (waiting_count rs.earlier rs.rows handler))
    (count_seen code s rs handler)
    ∙ go (nat_lt (waiting_count rs.earlier rs.rows handler) most_waiting))
  where
    go : (b : Bool) →
        (if not b then reporting (with_releases code s rs) (Lost s.unit handler ∷ [])
        else reporting
        (with_list (with_releases code s rs)
        (map (release_seen code) rs.rows
        ++ record { handler = handler; number = count_of rs.earlier rs.rows handler + 1; status = WaitsSeen } ∷ []))
        (Arrive s.unit handler (count_of rs.earlier rs.rows handler + 1) ∷ []))
        ≡ reporting
        (with_releases code s
        (taken_in handler (if b then Some (count_of rs.earlier rs.rows handler + 1) else None) rs))
        (report_taken s.unit handler (if b then Some (count_of rs.earlier rs.rows handler + 1) else None))
    go true =
        ap (λ xs. reporting (with_list (with_releases code s rs) xs)
        (Arrive s.unit handler (count_of rs.earlier rs.rows handler + 1) ∷ []))
        (sym (map-append (release_seen code) rs.rows (waiting_row handler (count_of rs.earlier rs.rows handler + 1)
        ∷ [])))
    go false = refl

full : (waiting : ℕ) → most_waiting ≤ waiting → nat_lt waiting most_waiting ≡ false
full waiting as_many = grind (arith, nat_tests)

room : (waiting : ℕ) → waiting < most_waiting → nat_lt waiting most_waiting ≡ true
room waiting fewer = grind (arith, nat_tests)

-- as many wait as may
pub full_seen : (code : Listing) (s : State) (rs : StoredReleases) (handler waiting : ℕ) →
    waiting ≡ waiting_count rs.earlier rs.rows handler → most_waiting ≤ waiting →
    release_taken (with_releases code s rs) handler ≡ reporting (with_releases code s rs) (Lost s.unit handler ∷ [])
full_seen code s rs handler waiting count as_many =
    taken_seen code s rs handler
    ∙ ap (λ b. reported_with code s rs handler (if b then Some (count_of rs.earlier rs.rows handler + 1) else None))
    (ap (λ n. nat_lt n most_waiting) (sym count) ∙ full waiting as_many)

-- one more may wait
pub room_seen : (code : Listing) (s : State) (rs : StoredReleases) (handler waiting number : ℕ) →
    waiting ≡ waiting_count rs.earlier rs.rows handler → waiting < most_waiting →
    number ≡ count_of rs.earlier rs.rows handler + 1 →
    release_taken (with_releases code s rs) handler
    ≡ reporting (with_releases code s (record rs { rows = rs.rows ++ waiting_row handler number ∷ [] }))
    (Arrive s.unit handler number ∷ [])
room_seen code s rs handler waiting number count fewer next =
    taken_seen code s rs handler
    ∙ (ap (λ b. reported_with code s rs handler (if b then Some (count_of rs.earlier rs.rows handler + 1) else None))
    (ap (λ n. nat_lt n most_waiting) (sym count) ∙ room waiting fewer)
    ∙ ap (λ n. reported_with code s rs handler (Some n)) (sym next))

-- ---- releases that are dropped

row_dropped : (code : Listing) (handler number : ℕ) (status : StoredStatus) →
    dropped_release (release_seen code (record { handler = handler; number = number; status = status }))
    ≡ release_seen code (record { handler = handler; number = number; status = dropped_status status })
unfolding dropped_release is_waiting
row_dropped code handler number Waits = refl
row_dropped code handler number (Started activity) = refl
row_dropped code handler number Ended = refl
row_dropped code handler number Dropped = refl

rows_dropped : (code : Listing) (rows : List StoredRelease) → map dropped_release (map (release_seen code) rows) ≡ map
    (release_seen code) (map dropped_row rows)
rows_dropped code [] = refl
rows_dropped code (r ∷ rows) =
    ap (λ x. x ∷ map dropped_release (map (release_seen code) rows)) (row_dropped code r.handler r.number r.status)
    ∙ ap (λ xs. release_seen code (dropped_row r) ∷ xs) (rows_dropped code rows)

pub dropped_seen : (code : Listing) (s : State) (rs : StoredReleases) →
    all_let_go (with_releases code s rs) ≡ with_releases code s (all_dropped rs)
dropped_seen code s rs = ap (with_list (with_releases code s rs)) (rows_dropped code rs.rows)

report_of : ℕ → Release → Event
report_of unit r = Drop unit r.handler r.number

all_reported : (code : Listing) (unit : ℕ) (rows : List StoredRelease) →
    flat_map (report_row unit) rows ≡ map (report_of unit)
    (filter (λ (r : Release). is_waiting r.status) (map (release_seen code) rows))
unfolding report_of
all_reported code unit [] = refl
all_reported code unit (r ∷ rows) = go (all_reported code unit rows) (waits r.status)
    ∙ ap
    (λ b. map (report_of unit)
    (cond b (release_seen code r ∷ filter (λ (r : Release). is_waiting r.status) (map (release_seen code) rows))
    (filter (λ (r : Release). is_waiting r.status) (map (release_seen code) rows)))) (sym (waits_seen code r.status))
  where
    go : flat_map (report_row unit) rows ≡ map (report_of unit)
        (filter (λ (r : Release). is_waiting r.status) (map (release_seen code) rows)) →
        (b : Bool) → (if b then Drop unit r.handler r.number ∷ [] else []) ++ flat_map (report_row unit) rows
        ≡ map (report_of unit)
        (cond b (release_seen code r ∷ filter (λ (r : Release). is_waiting r.status) (map (release_seen code) rows))
        (filter (λ (r : Release). is_waiting r.status) (map (release_seen code) rows)))
    go rest true = ap (λ es. Drop unit r.handler r.number ∷ es) rest
    go rest false = rest

pub reported_seen : (code : Listing) (s : State) (rs : StoredReleases) (unit : ℕ) →
    flat_map (report_at rs.rows unit) (live_indices rs.rows) ≡ report_dropped (at_unit (with_releases code s rs) unit)
unfolding live_indices report_of
reported_seen code s rs unit =
    reported_there row_is_live (report_row unit) (report_at rs.rows unit) rs.rows 0 rs.rows (from_first rs.rows)
    (λ r over. ap (λ b. if b then Drop unit r.handler r.number ∷ [] else []) (over_waits_not r.status over))
    (λ index r e. ap
    (λ (o : Option StoredRelease). elim o as (λ z. List Event) [ None ↦ [] | Some x ↦ report_row unit x ]) e)
    ∙ all_reported code unit rs.rows

-- ---- activities

pub activity_seen_at : (code : Listing) (s : State) (rs : StoredReleases) (index : ℕ) →
    option_map (activity_seen code) (activity_in rs.rows index) ≡ activity_of (with_releases code s rs)
    (ReleaseAt index)
unfolding activity_of activity_in_status
activity_seen_at code s rs index = go (slice_get rs.rows index)
    ∙ ap (λ (o : Option Release). o >>= (λ r. activity_in_status r.status))
    (sym (slice_get-map (release_seen code) rs.rows index))
  where
    within : (status : StoredStatus) → option_map (activity_seen code) (activity_within status) ≡ activity_in_status
        (status_seen code status)
    within Waits = refl
    within (Started activity) = refl
    within Ended = refl
    within Dropped = refl

    go : (o : Option StoredRelease) →
        option_map (activity_seen code) (o >>= (λ (r : StoredRelease). activity_within r.status)) ≡ option_map
        (release_seen code) o >>= (λ r. activity_in_status r.status)
    go None = refl
    go (Some r) = within r.status

pub status_seen_at : (code : Listing) (s : State) (rs : StoredReleases) (index : ℕ) (status : StoredStatus) →
    state_with_status (with_releases code s rs) index (status_seen code status) ≡ with_releases code s
    (status_set index status rs)
status_seen_at code s rs index status =
    ap (with_list (with_releases code s rs))
    (sym (map_changed (release_seen code) (with_status status)
    (λ (r : Release). record r { status = status_seen code status }) index rs.rows (λ r. refl)))

pub put_seen : (code : Listing) (s : State) (rs : StoredReleases) (index : ℕ) (activity : StoredActivity) →
    with_activity (with_releases code s rs) (ReleaseAt index) (activity_seen code activity) ≡ with_releases code s
    (status_set index (Started activity) rs)
unfolding with_activity
put_seen code s rs index activity = status_seen_at code s rs index (Started activity)

-- the activity that was taken out is put back as if it had never been away
pub put_back_seen : (code : Listing) (s : State) (rs : StoredReleases) (index : ℕ) (activity : StoredActivity) →
    with_activity (with_releases code s (emptied_at index rs)) (ReleaseAt index) (activity_seen code activity)
    ≡ with_activity (with_releases code s rs) (ReleaseAt index) (activity_seen code activity)
put_back_seen code s rs index activity =
    put_seen code s (emptied_at index rs) index activity
    ∙ (ap (λ rows. with_list (with_releases code s rs) (map (release_seen code) rows))
    (changed_twice (with_status (Started activity)) emptied_row index rs.rows)
    ∙ sym (put_seen code s rs index activity))

-- ---- what is asked of all

any_started_seen : (code : Listing) (rows : List StoredRelease) →
    list_any (λ (r : StoredRelease). is_under_way r.status) rows ≡ list_any (λ (r : Release). is_started r.status)
    (map (release_seen code) rows)
any_started_seen code [] = refl
any_started_seen code (r ∷ rows) =
    ap (λ b. b || list_any (λ (r : StoredRelease). is_under_way r.status) rows) (sym (started_seen code r.status))
    ∙ ap (λ b. is_started (status_seen code r.status) || b) (any_started_seen code rows)

pub has_started_seen : (code : Listing) (s : State) (rs : StoredReleases) →
    list_any (is_under_way_at rs.rows) (live_indices rs.rows) ≡ has_started (with_releases code s rs)
unfolding live_indices
has_started_seen code s rs =
    any_there row_is_live (λ (r : StoredRelease). is_under_way r.status) rs.rows 0 rs.rows (from_first rs.rows)
    (λ r over. over_is_not_started r.status over)
    ∙ any_started_seen code rs.rows

pub choice_seen : (code : Listing) (s : State) (rs : StoredReleases) (registry : List HandlerRow) →
    chosen_among registry rs.rows (live_indices rs.rows) ≡ chosen (with_registry (with_releases code s rs) registry)
unfolding candidates chosen
choice_seen code s rs registry = chosen_seen code (with_registry (with_releases code s rs) registry) rs.rows
