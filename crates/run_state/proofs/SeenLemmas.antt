-- How a state of the definitions sees the memory and the releases of the code.
use Rattle.std.specs.Prelude.{Option, Some, None, slice_get, option_map}
use Rattle.std.proofs.Common.{◌≡◌, ◌∙◌, ℕ, List, [], refl, ap, sym}
use Rattle.scj_model.specs.declared.events.Event.{Event}
use Rattle.op_list.specs.Listed.{Listing}
use Rattle.scj_model.specs.State.{Release as ReleaseOfRun, ReleaseAt}
use Rattle.scj_model.specs.Steps.{of_release}
use Rattle.region_heap.specs.Contents.{Contents, with_memory}
use Rattle.run_releases.specs.declared.rows.Release.{Release}
use Rattle.run_releases.specs.Rows.{StoredReleases, release_seen, with_releases}
use Rattle.run_state.specs.declared.states.RunState.{RunState}
use Rattle.run_state.specs.Seen.{state_of}
use Rattle.run_state.proofs.Rows.{get_map}

pub memory_seen : (code : Listing) (st : RunState) (m : Contents) →
    state_of code (record st { memory = m }) ≡ with_memory (state_of code st) m
unfolding state_of
memory_seen code st m = refl

pub memory_there : (code : Listing) (st : RunState) → with_memory (state_of code st) st.memory ≡ state_of code st
unfolding state_of
memory_there code st = refl

pub releases_seen : (code : Listing) (st : RunState) (rs : StoredReleases) →
    state_of code (record st { releases = rs }) ≡ with_releases code (state_of code st) rs
unfolding state_of
releases_seen code st rs = refl

pub releases_there : (code : Listing) (st : RunState) →
    with_releases code (state_of code st) st.releases ≡ state_of code st
unfolding state_of
releases_there code st = refl

-- ---- what the trace tells of the release at a place

report_found : (report : ReleaseOfRun → List Event) → Option ReleaseOfRun → List Event
report_found report o = elim o [ None ↦ [] | Some r ↦ report r ]

pub reported_of : (code : Listing) (st : RunState) (n : ℕ) (report : ReleaseOfRun → List Event) (r : Release) →
    Some r ≡ slice_get st.releases.rows n → of_release (state_of code st) (ReleaseAt n) report ≡ report
    (release_seen code r)
unfolding state_of report_found
reported_of code st n report r e =
    ap (report_found report) (get_map (release_seen code) st.releases.rows n ∙ ap (option_map (release_seen code)) (sym e))

pub reported_of_none : (code : Listing) (st : RunState) (n : ℕ) (report : ReleaseOfRun → List Event) →
    None ≡ slice_get st.releases.rows n → of_release (state_of code st) (ReleaseAt n) report ≡ []
unfolding state_of report_found
reported_of_none code st n report e =
    ap (report_found report) (get_map (release_seen code) st.releases.rows n ∙ ap (option_map (release_seen code)) (sym e))
