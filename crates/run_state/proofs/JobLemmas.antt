-- The activity of a release is taken out, put back, or dropped at its end.
use Rattle.std.specs.Prelude.{Option, Some, None, option_map, slice_get, slice_set}
use Rattle.std.proofs.Common.{◌≡◌, ◌∙◌, ℕ, List, refl, ap, sym}
use Rattle.scj_rules.specs.Words.{◌>>=◌}
use Rattle.op_list.specs.Listed.{Listing}
use Rattle.scj_model.specs.State.{Release as ReleaseOfRun, ReleaseAt, Started as StartedSeen, changed, activity_in as activity_in_status, activity_of, with_activity}
use Rattle.scj_model.specs.Run.{no_activity}
use Rattle.job_frames.specs.declared.activities.Activity.{Activity as StoredActivity}
use Rattle.job_frames.specs.Frames.{activity_seen, empty_activity}
use Rattle.run_state.proofs.Changed.{changed_there}
use Rattle.run_releases.specs.declared.rows.Release.{Release}
use Rattle.run_releases.specs.declared.rows.ReleaseStatus.{ReleaseStatus}
use Rattle.run_releases.specs.declared.rows.ReleaseStatus.TheVariants.{Waits, Started, Ended, Dropped}
use Rattle.run_releases.specs.Rows.{StoredReleases, activity_within, emptied_row, emptied_status, release_seen, status_seen, with_status}
use Rattle.run_releases.specs.Releases.{activity_in, emptied_at}
use Rattle.run_state.specs.declared.states.RunState.{RunState}
use Rattle.run_state.specs.Seen.{state_of}
use Rattle.run_state.proofs.Rows.{changed_kept, changed_map, get_map}

-- ---- taken out

started_there : (found : Option Release) (a : StoredActivity) →
    (found >>= (λ (r : Release). activity_within r.status)) ≡ Some a → (r : Release) × (found ≡ Some r) ×
    (r.status ≡ Started a)
started_there None a e = absurd (cc)
started_there (Some r) a e = (r, refl, of_status r.status e)
  where
    of_status : (status : ReleaseStatus) → activity_within status ≡ Some a → status ≡ Started a
    of_status Waits h = absurd (cc)
    of_status (Started b) h = cc
    of_status Ended h = absurd (cc)
    of_status Dropped h = absurd (cc)

pub emptied : (code : Listing) (st : RunState) (index : ℕ) (a : StoredActivity) →
    activity_in st.releases.rows index ≡ Some a →
    state_of code (record st { releases = emptied_at index st.releases })
    ≡ with_activity (state_of code st) (ReleaseAt index) no_activity
unfolding state_of with_activity
emptied code st index a e =
    let found : (r : Release) × (slice_get st.releases.rows index ≡ Some r) × (r.status ≡ Started a) =
    started_there (slice_get st.releases.rows index) a e in
    let rows : changed emptied_row index st.releases.rows ≡ changed (with_status (Started empty_activity)) index
    st.releases.rows =
    changed_there emptied_row index st.releases.rows found.0 found.1
    ∙ (ap (λ (s : ReleaseStatus). slice_set st.releases.rows index (record found.0 { status = emptied_status s }))
    found.2
    ∙ sym (changed_there (with_status (Started empty_activity)) index st.releases.rows found.0 found.1)) in
    ap (λ (rs : List Release). state_of code (record st { releases = record st.releases { rows = rs } })) rows
    ∙ ap (λ (rs : List ReleaseOfRun). record (state_of code st) { releases = rs })
    (changed_map (release_seen code) (with_status (Started empty_activity))
    (λ r. record r { status = StartedSeen no_activity })
    index st.releases.rows (λ r. refl))

-- where no activity is found, the releases stay as they are
pub not_emptied : (rs : StoredReleases) (index : ℕ) → activity_in rs.rows index ≡ None → emptied_at index rs ≡ rs
not_emptied rs index e =
    ap (λ (rows : List Release). record rs { rows = rows }) (changed_kept emptied_row index rs.rows kept)
  where
    same_status : (status : ReleaseStatus) → activity_within status ≡ None → emptied_status status ≡ status
    same_status Waits h = refl
    same_status (Started a) h = absurd (cc)
    same_status Ended h = refl
    same_status Dropped h = refl

    kept : (r : Release) → slice_get rs.rows index ≡ Some r → emptied_row r ≡ r
    kept r found =
        ap (λ (s : ReleaseStatus). record r { status = s })
        (same_status r.status
        (sym (ap (λ (o : Option Release). o >>= (λ (q : Release). activity_within q.status)) found) ∙ e))

-- the activity that the code finds is the one of the definitions
pub found_activity : (code : Listing) (st : RunState) (index : ℕ) →
    option_map (activity_seen code) (activity_in st.releases.rows index) ≡ activity_of (state_of code st)
    (ReleaseAt index)
unfolding state_of activity_of activity_in_status
found_activity code st index =
    of_found (slice_get st.releases.rows index)
    ∙ ap (λ (o : Option ReleaseOfRun). o >>= (λ (r : ReleaseOfRun). activity_in_status r.status))
    (sym (get_map (release_seen code) st.releases.rows index))
  where
    of_status : (status : ReleaseStatus) →
        option_map (activity_seen code) (activity_within status) ≡ activity_in_status (status_seen code status)
    of_status Waits = refl
    of_status (Started a) = refl
    of_status Ended = refl
    of_status Dropped = refl

    of_found : (o : Option Release) →
        option_map (activity_seen code) (o >>= (λ (r : Release). activity_within r.status))
        ≡ (option_map (release_seen code) o >>= (λ (r : ReleaseOfRun). activity_in_status r.status))
    of_found None = refl
    of_found (Some r) = of_status r.status
