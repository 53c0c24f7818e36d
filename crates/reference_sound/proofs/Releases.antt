-- Releases that come and those that are dropped: the jobs that are under way stay as they are.
use Rattle.std.specs.Prelude.{Option, None, slice_get, map, if◌then◌else◌, ◌++◌}
use Rattle.std.proofs.Common.{◌≡◌, ℕ, zero, suc, List, [], ◌∷◌, refl, ap}
use Rattle.scj_rules.specs.Words.{◌>>=◌}
use Rattle.scj_model.specs.State.{Activity, ReleaseStatus, Waits, Started, Ended, Dropped, Release, activity_in, is_waiting}
use Rattle.scj_model.specs.Apply.{dropped_release}

abbrev pub activity_at : List Release → ℕ → Option Activity
activity_at releases n = slice_get releases n >>= (λ r. activity_in r.status)

pub release_comes : (rs : List Release) (x : Release) → activity_in x.status ≡ None → (n : ℕ) →
    activity_at (rs ++ x ∷ []) n ≡ activity_at rs n
release_comes [] x e zero = e
release_comes [] x e (suc n) = refl
release_comes (y ∷ rs) x e zero = refl
release_comes (y ∷ rs) x e (suc n) = release_comes rs x e n

pub waits_without : activity_in Waits ≡ None
unfolding activity_in
waits_without = refl

one_dropped : (r : Release) → activity_in (dropped_release r).status ≡ activity_in r.status
unfolding dropped_release is_waiting activity_in
one_dropped r = go r.status refl
  where
    go : (status : ReleaseStatus) → r.status ≡ status →
        activity_in (if is_waiting status then record r { status = Dropped } else r).status ≡ activity_in status
    go Waits e = refl
    go (Started activity) e = ap activity_in e
    go Ended e = ap activity_in e
    go Dropped e = ap activity_in e

pub releases_dropped : (rs : List Release) (n : ℕ) → activity_at (map dropped_release rs) n ≡ activity_at rs n
releases_dropped [] n = refl
releases_dropped (r ∷ rs) zero = one_dropped r
releases_dropped (r ∷ rs) (suc n) = releases_dropped rs n
