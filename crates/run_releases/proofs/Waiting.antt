-- How many releases of a handler wait, when the status of one becomes another with which it doesn't wait.
use Rattle.std.specs.Prelude.{Bool, true, false, ◌&&◌, ◌==◌, nat_lt, cond, drop, Option, Some, None, slice_get, slice_set, slice_index, if◌then◌else◌}
use Rattle.std.specs.List.{count_by, sum_by}
use Rattle.std.proofs.Common.{◌≡◌, ◌∙◌, ◌≤◌, ◌<◌, ℕ, ◌+◌, ◌-◌, List, refl, ap, sym, arith}
use Rattle.std.proofs.lemmas.Bool.Decides.{nat_tests}
use Rattle.std.proofs.lemmas.List.{drop-set-lt}
use Rattle.scj_rules.specs.Words.{◌>>=◌}
use Rattle.scj_model.specs.State.{changed}
use Rattle.run_releases.specs.declared.rows.Release.{Release as StoredRelease}
use Rattle.run_releases.specs.declared.rows.ReleaseStatus.{ReleaseStatus as StoredStatus}
use Rattle.run_releases.specs.Rows.{waits, with_status}
use Rattle.run_releases.specs.Releases.{waiting_count, waits_for}
use Rattle.run_releases.specs.Counts.{one_less, waiting_handler}
use Rattle.run_releases.proofs.Changes.{changed_nowhere, changed_there, sum_dropped}
use Rattle.run_releases.proofs.Counting.{and_false, and_true, itself, one_less_at}

handler_in : Bool → Option StoredRelease → Option ℕ
handler_in before found =
    if before then None
    else (found >>= (λ (r : StoredRelease). if waits r.status then Some r.handler else None))

module _ (earlier index : ℕ) (rows : List StoredRelease) (status : StoredStatus) (waiting : List ℕ)
    (none : waits status ≡ false)
    (each : (handler : ℕ) → slice_index waiting handler ≡ waiting_count earlier rows handler) where
  weight : ℕ → StoredRelease → ℕ
  weight k r = cond (waits_for k r) 1 0

  -- the sum with the other status, and what the release had in it
  other_sum : (k : ℕ) (r : StoredRelease) → slice_get rows index ≡ Some r → earlier ≤ index →
      waiting_count earlier (slice_set rows index (with_status status r)) k + cond (waits_for k r) 1 0
      ≡ waiting_count earlier rows k
  unfolding waiting_count weight
  other_sum k r e behind =
      sum_dropped (weight k) earlier index rows r (with_status status r) e behind
      ∙ (ap (λ b. sum_by (weight k) (drop earlier rows) + cond b 1 0) (ap (λ b. (r.handler == k) && b) none
      ∙ and_false (r.handler == k))
      ∙ omega arith)

  waited : (k : ℕ) (r : StoredRelease) → slice_get rows index ≡ Some r → earlier ≤ index → waits r.status ≡ true →
      slice_index (one_less (Some r.handler) waiting) k ≡ waiting_count earlier
      (slice_set rows index (with_status status r)) k
  waited k r e behind w =
      let here : ◌≡◌ {A = ℕ} (cond (waits_for r.handler r) 1 0) 1 = ap (λ b. cond ((r.handler == r.handler) && b) 1 0) w
      ∙ itself r.handler in
      let own : waiting_count earlier (slice_set rows index (with_status status r)) r.handler + cond
      (waits_for r.handler r) 1 0 ≡ waiting_count earlier rows r.handler = other_sum r.handler r e behind in
      let some : 0 < slice_index waiting r.handler = omega (arith, own, here, each r.handler) in
      let less : slice_index (slice_set waiting r.handler (slice_index waiting r.handler - 1)) k + cond
      (r.handler == k) 1 0 ≡ slice_index waiting k = one_less_at waiting r.handler k some in
      let sum : waiting_count earlier (slice_set rows index (with_status status r)) k + cond (waits_for k r) 1 0
      ≡ waiting_count earlier rows k = other_sum k r e behind in
      let same : ◌≡◌ {A = ℕ} (cond (waits_for k r) 1 0) (cond (r.handler == k) 1 0) =
      ap (λ b. cond ((r.handler == k) && b) 1 0) w ∙ ap (λ b. cond b 1 0) (and_true (r.handler == k)) in
      omega (arith, less, sum, same, each k)

  stays : (k : ℕ) (r : StoredRelease) → slice_get rows index ≡ Some r → earlier ≤ index → waits r.status ≡ false →
      slice_index waiting k ≡ waiting_count earlier (slice_set rows index (with_status status r)) k
  stays k r e behind w =
      let sum : waiting_count earlier (slice_set rows index (with_status status r)) k + cond (waits_for k r) 1 0
      ≡ waiting_count earlier rows k = other_sum k r e behind in
      let none_here : ◌≡◌ {A = ℕ} (cond (waits_for k r) 1 0) 0 = ap (λ b. cond ((r.handler == k) && b) 1 0) w
      ∙ ap (λ b. cond b 1 0) (and_false (r.handler == k)) in
      omega (arith, sum, none_here, each k)

  before_these : (k : ℕ) (r : StoredRelease) → index < earlier →
      slice_index waiting k ≡ waiting_count earlier (slice_set rows index (with_status status r)) k
  unfolding waiting_count
  before_these k r before =
      each k ∙ ap (count_by (waits_for k)) (sym (drop-set-lt earlier rows index (with_status status r) before))

  counts_with : ℕ → Option ℕ → ℕ
  counts_with k handler = slice_index (one_less handler waiting) k

  left_there : (k : ℕ) (r : StoredRelease) → slice_get rows index ≡ Some r →
      counts_with k (waiting_handler rows earlier index) ≡ waiting_count earlier
      (slice_set rows index (with_status status r)) k
  unfolding counts_with handler_in
  left_there k r e = go (nat_lt index earlier) refl
    where
      found : (b : Bool) → waits r.status ≡ b → earlier ≤ index →
          counts_with k (if b then Some r.handler else None) ≡ waiting_count earlier
          (slice_set rows index (with_status status r)) k
      found true w behind = waited k r e behind w
      found false w behind = stays k r e behind w

      go : (b : Bool) → nat_lt index earlier ≡ b →
          counts_with k (waiting_handler rows earlier index) ≡ waiting_count earlier
          (slice_set rows index (with_status status r)) k
      go true t =
          let before : index < earlier = grind (arith, nat_tests) in
          ap (λ b. counts_with k (handler_in b (slice_get rows index))) t ∙ before_these k r before
      go false t =
          let behind : earlier ≤ index = grind (arith, nat_tests) in
          ap (λ b. counts_with k (handler_in b (slice_get rows index))) t
          ∙ (ap (λ o. counts_with k (handler_in false o)) e ∙ found (waits r.status) refl behind)

  pub waiting_left : (k : ℕ) → slice_index (one_less (waiting_handler rows earlier index) waiting) k
      ≡ waiting_count earlier (changed (with_status status) index rows) k
  unfolding counts_with handler_in
  waiting_left k = go (slice_get rows index) refl
    where
      nobody : (b : Bool) → counts_with k (handler_in b None) ≡ slice_index waiting k
      nobody true = refl
      nobody false = refl

      go : (o : Option StoredRelease) → slice_get rows index ≡ o →
          counts_with k (waiting_handler rows earlier index) ≡ waiting_count earlier
          (changed (with_status status) index rows) k
      go None e =
          ap (λ o. counts_with k (handler_in (nat_lt index earlier) o)) e
          ∙ (nobody (nat_lt index earlier)
          ∙ (each k ∙ ap (λ xs. waiting_count earlier xs k) (sym (changed_nowhere (with_status status) index rows e))))
      go (Some r) e =
          left_there k r e
          ∙ ap (λ xs. waiting_count earlier xs k) (sym (changed_there (with_status status) index rows r e))
