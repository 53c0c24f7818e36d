-- A job ends: what the code did to memory and releases is what the definitions say.
use Rattle.std.specs.Prelude.{Option, Some, None, slice_get}
use Rattle.std.proofs.Common.{◌≡◌, ◌∙◌, ◌<◌, ℕ, zero, suc, List, [], ◌∷◌, ◌++◌, length, reverse, take, refl, ap, sym, subst, arith}
use Rattle.std.proofs.lemmas.List.{append-nil, append_assoc}
use Rattle.scj_base.specs.declared.faults.RunFault.{RunFault}
use Rattle.scj_base.specs.declared.positions.Position.{Position}
use Rattle.scj_base.specs.declared.values.Value.{Value}
use Rattle.scj_model.specs.declared.events.Event.{Event}
use Rattle.scj_model.specs.declared.events.Event.TheVariants.{Fault, End}
use Rattle.op_list.specs.Listed.{Listing}
use Rattle.scj_model.specs.State.{Activity, Release as ReleaseOfRun, ReleaseAt, State, Ended as EndedSeen, with_status as state_with_status}
use Rattle.scj_model.specs.Steps.{Step, closed_all, fault_in, job_ended, of_release}
use Rattle.job_frames.specs.declared.activities.Activity.{Activity as StoredActivity}
use Rattle.job_frames.specs.declared.frames.Frame.{Frame as StoredFrame}
use Rattle.job_frames.specs.Frames.{activity_seen, frames_of}
use Rattle.job_frames.proofs.Reversed.{last_first}
use Rattle.region_heap.specs.Contents.{Contents, with_memory}
use Rattle.run_state.specs.Standing.{CloseInOrder, ClosesLast, after_close}
use Rattle.run_state.proofs.Standing.{closed_is}
use Rattle.run_releases.specs.declared.rows.ReleaseStatus.{ReleaseStatus}
use Rattle.run_releases.specs.declared.rows.ReleaseStatus.TheVariants.{Ended}
use Rattle.run_releases.specs.Rows.{StoredReleases, release_seen, status_seen, with_status}
use Rattle.run_releases.specs.Releases.{status_set}
use Rattle.run_state.specs.declared.states.RunState.{RunState}
use Rattle.run_state.specs.Seen.{state_of}
use Rattle.run_state.specs.Steps.{IsStep}
use Rattle.run_state.proofs.Rows.{changed_map}

-- ---- areas that are closed

pub closed_last : (code : Listing) (s : State) (was now : Contents) (rest below : List StoredFrame) (f : StoredFrame) →
    rest ≡ below ++ f ∷ [] → now ≡ after_close was f.opened →
    closed_all (with_memory s was) (frames_of code (reverse rest))
    ≡ closed_all (with_memory s now) (frames_of code (reverse below))
unfolding closed_all
closed_last code s was now rest below f e h =
    ap (λ (fs : List StoredFrame). closed_all (with_memory s was) (frames_of code (reverse fs))) e
    ∙ (ap (λ (fs : List StoredFrame). closed_all (with_memory s was) (frames_of code fs)) (last_first below f)
    ∙ ap (λ (t : State). closed_all t (frames_of code (reverse below)))
    (closed_is s was f.opened ∙ ap (λ (m : Contents). with_memory s m) (sym h)))

take_one : (xs : List StoredFrame) (n : ℕ) (x : StoredFrame) → slice_get xs n ≡ Some x → take (suc n) xs ≡ take n xs
    ++ x ∷ []
take_one [] n x e = absurd (cc)
take_one (y ∷ ys) zero x e = let k : y ≡ x = cc in ap (λ (z : StoredFrame). z ∷ []) k
take_one (y ∷ ys) (suc n) x e = ap (λ (zs : List StoredFrame). y ∷ zs) (take_one ys n x e)

got_none : (xs : List StoredFrame) (n : ℕ) → n < length xs → slice_get xs n ≡ None → ⊥
got_none [] n h e = omega (arith, h)
got_none (y ∷ ys) zero h e = cc
got_none (y ∷ ys) (suc n) h e = got_none ys n (omega (arith, h)) e

-- ---- a release with another status

pub status_is_seen : (code : Listing) (st : RunState) (n : ℕ) (status : ReleaseStatus) →
    state_of code (record st { releases = status_set n status st.releases })
    ≡ state_with_status (state_of code st) n (status_seen code status)
unfolding state_of
status_is_seen code st n status =
    ap (λ (rs : List ReleaseOfRun). record (state_of code st) { releases = rs })
    (changed_map (release_seen code) (with_status status) (λ r. record r { status = status_seen code status }) n
    st.releases.rows (λ r. refl))

-- ---- ends

-- the step of an end that tells nothing
pub quiet : (code : Listing) (step : Step) (st : RunState) (reported : List Event) → IsStep code step st [] [] →
    IsStep code step st reported reported
quiet code step st reported h = record {
  state = h.state;
  reported = sym (append-nil reported) ∙ ap (λ (es : List Event). reported ++ es) h.reported;
}

module _ (code : Listing) (st : RunState) (n : ℕ) (rs : StoredReleases) (first last : List Event) where
  abbrev end_reported : List Event
  end_reported = of_release (state_of code st) (ReleaseAt n) (λ (r : ReleaseOfRun). End st.unit r.handler r.number ∷ [])

  pub release_done : (activity : Activity) (value : Option Value) → rs ≡ status_set n Ended st.releases →
      last ≡ first ++ end_reported →
      IsStep code (job_ended (state_of code st) (ReleaseAt n) activity value) (record st { releases = rs }) first last
  unfolding job_ended state_of
  release_done activity value e t = record {
    state = ap (λ (x : StoredReleases). state_of code (record st { releases = x })) e ∙ status_is_seen code st n Ended;
    reported = t;
  }

  pub release_at_fault : (m : Contents) (activity : StoredActivity) (position : Position) (fault : RunFault)
      (middle : List Event) →
      ((s : State) → closed_all (with_memory s st.memory) (frames_of code activity.frames) ≡ with_memory s m) →
      rs ≡ status_set n Ended st.releases → middle ≡ first ++ Fault st.unit fault position ∷ [] →
      last ≡ middle ++ end_reported →
      IsStep code (fault_in (state_of code st) (ReleaseAt n) (activity_seen code activity) position fault)
      (record st { memory = m; releases = rs }) first last
  unfolding fault_in state_of
  release_at_fault m activity position fault middle closes e t u =
      let with_m : RunState = record st { memory = m } in
      record {
        state = ap (λ (x : StoredReleases). state_of code (record with_m { releases = x })) e
            ∙ (status_is_seen code with_m n Ended
            ∙ ap (λ (s : State). state_with_status s n EndedSeen) (sym (closes (state_of code st))));
        reported = u ∙ (ap (λ (es : List Event). es ++ end_reported) t
            ∙ append_assoc first (Fault st.unit fault position ∷ []) end_reported);
      }

-- one place further down
pub closed_next : (code : Listing) (s : State) (was now : Contents) (frames : List StoredFrame) (left : ℕ) →
    left < length frames →
    ((f : StoredFrame) → Some f ≡ slice_get frames left → now ≡ after_close was f.opened) →
    closed_all (with_memory s was) (frames_of code (reverse (take (suc left) frames)))
    ≡ closed_all (with_memory s now) (frames_of code (reverse (take left frames)))
closed_next code s was now frames left within h = go (slice_get frames left) refl
  where
    go : (o : Option StoredFrame) → slice_get frames left ≡ o →
        closed_all (with_memory s was) (frames_of code (reverse (take (suc left) frames)))
        ≡ closed_all (with_memory s now) (frames_of code (reverse (take left frames)))
    go None e = absurd (got_none frames left within e)
    go (Some f) e = closed_last code s was now (take (suc left) frames) (take left frames) f (take_one frames left f e)
        (h f (sym e))

-- the last of these frames is closed first
reversed_more : (frames : List StoredFrame) (left : ℕ) (f : StoredFrame) → slice_get frames left ≡ Some f →
    reverse (take (suc left) frames) ≡ f ∷ reverse (take left frames)
reversed_more frames left f e = ap reverse (take_one frames left f e) ∙ last_first (take left frames) f

pub closes_top : (m : Contents) (frames : List StoredFrame) (left : ℕ) (f : StoredFrame) →
    slice_get frames left ≡ Some f → CloseInOrder m (reverse (take (suc left) frames)) → ClosesLast m f.opened
closes_top m frames left f e h =
    (subst (λ (fs : List StoredFrame). CloseInOrder m fs) (reversed_more frames left f e) h).0

pub closes_next : (was now : Contents) (frames : List StoredFrame) (left : ℕ) → left < length frames →
    ((f : StoredFrame) → Some f ≡ slice_get frames left → now ≡ after_close was f.opened) →
    CloseInOrder was (reverse (take (suc left) frames)) → CloseInOrder now (reverse (take left frames))
closes_next was now frames left within h c = go (slice_get frames left) refl
  where
    go : (o : Option StoredFrame) → slice_get frames left ≡ o → CloseInOrder now (reverse (take left frames))
    go None e = absurd (got_none frames left within e)
    go (Some f) e =
        subst (λ (m : Contents). CloseInOrder m (reverse (take left frames))) (sym (h f (sym e)))
        (subst (λ (fs : List StoredFrame). CloseInOrder was fs) (reversed_more frames left f e) c).1
