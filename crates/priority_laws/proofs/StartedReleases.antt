-- Which releases are started, after one has another status, after one more waits, after waiting ones were dropped.
use Rattle.std.proofs.Common.{◌≡◌, ℕ, zero, suc, List, [], ◌∷◌, ◌++◌, Option, Some, None, refl, ap}
use Rattle.std.specs.Prelude.{slice_get, map}
use Rattle.scj_rules.specs.Words.{◌>>=◌}
use Rattle.scj_model.specs.State.{Activity, ReleaseStatus, Waits, Started, Ended, Dropped, Release, activity_in, is_waiting, changed}
use Rattle.scj_model.specs.Apply.{dropped_release}
use Rattle.priority_laws.specs.Started.{started_as, started_in, started_at}
use Rattle.priority_laws.proofs.AreaLists.{get_changed, get_changed_other}

abbrev pub with_status_of : ReleaseStatus → Release → Release
with_status_of status r = record r { status = status }

pub started_now : (rs : List Release) (p : ℕ) (r : Release) (activity : Activity) → slice_get rs p ≡ Some r →
    started_at (changed (λ r. record r { status = Started activity }) p rs) p ≡ Some (started_as r.handler activity)
unfolding started_at started_in activity_in
started_now rs p r activity e =
    ap (λ (o : Option Release). o >>= started_in) (get_changed (with_status_of (Started activity)) p rs r e)

pub ended_now : (rs : List Release) (p : ℕ) (r : Release) → slice_get rs p ≡ Some r →
    started_at (changed (λ r. record r { status = Ended }) p rs) p ≡ None
unfolding started_at started_in activity_in
ended_now rs p r e = ap (λ (o : Option Release). o >>= started_in) (get_changed (with_status_of Ended) p rs r e)

pub started_other : (rs : List Release) (p q : ℕ) (status : ReleaseStatus) → (p ≡ q → ⊥) →
    started_at (changed (λ r. record r { status = status }) p rs) q ≡ started_at rs q
unfolding started_at
started_other rs p q status n =
    ap (λ (o : Option Release). o >>= started_in) (get_changed_other (with_status_of status) p q rs n)

pub started_more : (rs : List Release) (w : Release) (q : ℕ) → started_in w ≡ None →
    started_at (rs ++ w ∷ []) q ≡ started_at rs q
unfolding started_at
started_more [] w zero h = h
started_more [] w (suc q) h = refl
started_more (r ∷ rs) w zero h = refl
started_more (r ∷ rs) w (suc q) h = started_more rs w q h

pub started_mapped : (f : Release → Release) (rs : List Release) (q : ℕ) →
    ((r : Release) → started_in (f r) ≡ started_in r) → started_at (map f rs) q ≡ started_at rs q
unfolding started_at
started_mapped f [] q h = refl
started_mapped f (r ∷ rs) zero h = h r
started_mapped f (r ∷ rs) (suc q) h = started_mapped f rs q h

abbrev release_with : ℕ → ℕ → ReleaseStatus → Release
release_with handler number status = record { handler = handler; number = number; status = status }

dropped_with : (handler number : ℕ) (status : ReleaseStatus) →
    started_in (dropped_release (release_with handler number status)) ≡ started_in (release_with handler number status)
unfolding started_in dropped_release activity_in is_waiting
dropped_with handler number Waits = refl
dropped_with handler number (Started activity) = refl
dropped_with handler number Ended = refl
dropped_with handler number Dropped = refl

pub started_dropped : (r : Release) → started_in (dropped_release r) ≡ started_in r
started_dropped r = dropped_with r.handler r.number r.status
