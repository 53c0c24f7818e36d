-- What is counted beside the releases stays right at each change of them.
use Rattle.std.specs.Prelude.{true, false, ◌&&◌, ◌==◌, cond, drop, slice_set, slice_index, filter, not}
use Rattle.std.specs.List.{count_by, fold}
use Rattle.std.proofs.Common.{◌≡◌, ◌∙◌, ◌<◌, ℕ, ◌+◌, List, [], ◌∷◌, ◌++◌, length, map, refl, ap, sym, arith, length-append}
use Rattle.std.proofs.lemmas.List.{length-map, drop-map, drop_all}
use Rattle.scj_rules.specs.Words.{holds}
use Rattle.scj_model.specs.State.{changed}
use Rattle.scj_model.specs.Arrivals.{numbers_where}
use Rattle.run_releases.specs.declared.rows.Release.{Release as StoredRelease}
use Rattle.run_releases.specs.declared.rows.ReleaseStatus.{ReleaseStatus as StoredStatus}
use Rattle.run_releases.specs.declared.rows.ReleaseStatus.TheVariants.{Waits, Started, Ended, Dropped}
use Rattle.run_releases.specs.Rows.{dropped_row, dropped_status, emptied_row, emptied_status, is_live, waits, with_status}
use Rattle.run_releases.specs.Releases.{count_of, is_of, waiting_row, waiting_count, waits_for}
use Rattle.run_releases.specs.Counts.{AreCounted, is_live_at, live_indices, one_less, row_is_live, waiting_handler}
use Rattle.run_releases.proofs.Changes.{length_changed, sum_kept}
use Rattle.run_releases.proofs.Waiting.{waiting_left}
use Rattle.run_releases.proofs.Counting.{and_false, and_true, count_mapped, count_none, count_push, one_more_at}
use Rattle.run_releases.proofs.ByPlace.{changed_all, from_first, kept_there, numbers_changed, numbers_ended, numbers_push}

pub nothing_counted : AreCounted [] [] [] 0 []
unfolding count_of live_indices numbers_where waiting_count
nothing_counted =
    record { all_live = refl; each_taken = λ handler. refl; each_waiting = λ handler. refl; behind = omega arith }

-- the numbers may be kept in other lists that read the same
pub same_counted : {live taken waiting taken' waiting' : List ℕ} {earlier : ℕ} {rows : List StoredRelease} →
    ((k : ℕ) → slice_index taken' k ≡ slice_index taken k) →
    ((k : ℕ) → slice_index waiting' k ≡ slice_index waiting k) →
    AreCounted live taken waiting earlier rows → AreCounted live taken' waiting' earlier rows
same_counted same_taken same_waiting c =
    record {
      all_live = c.all_live;
      each_taken = λ handler. same_taken handler ∙ c.each_taken handler;
      each_waiting = λ handler. same_waiting handler ∙ c.each_waiting handler;
      behind = c.behind;
    }

-- ---- one more that waits

pub taken_counted : (live taken waiting : List ℕ) (earlier : ℕ) (rows : List StoredRelease)
    (handler number waits_now : ℕ) →
    handler < length taken → handler < length waiting →
    number ≡ slice_index taken handler + 1 → waits_now ≡ slice_index waiting handler + 1 →
    AreCounted live taken waiting earlier rows →
    AreCounted (live ++ length rows ∷ []) (slice_set taken handler number) (slice_set waiting handler waits_now) earlier
    (rows ++ waiting_row handler number ∷ [])
unfolding count_of live_indices waiting_count
taken_counted live taken waiting earlier rows handler number waits_now in_taken in_waiting next more c =
    record {
      all_live =
          ap (λ indices. indices ++ length rows ∷ []) c.all_live
          ∙ (ap (λ n. numbers_where row_is_live 0 rows ++ n ∷ []) (let e : length rows ≡ 0 + length rows = omega arith in
          e)
          ∙ sym (numbers_push row_is_live 0 rows (waiting_row handler number) refl));
      each_taken = λ k.
          one_more_at taken handler number k in_taken next
          ∙ (ap (λ n. n + cond (handler == k) 1 0) (c.each_taken k)
          ∙ sym (count_push (is_of k) earlier rows (waiting_row handler number) c.behind));
      each_waiting = λ k.
          one_more_at waiting handler waits_now k in_waiting more
          ∙ (ap (λ n. n + cond (handler == k) 1 0) (c.each_waiting k)
          ∙ (ap (λ b. count_by (waits_for k) (drop earlier rows) + cond b 1 0) (sym (and_true (handler == k)))
          ∙ sym (count_push (waits_for k) earlier rows (waiting_row handler number) c.behind)));
      behind = omega (arith, c.behind, length-append rows (waiting_row handler number ∷ []));
    }

-- ---- another mission

pub mission_counted : (live taken waiting : List ℕ) (earlier : ℕ) (rows : List StoredRelease) →
    AreCounted live taken waiting earlier rows → AreCounted live [] [] (length rows) rows
unfolding count_of waiting_count
mission_counted live taken waiting earlier rows c =
    record {
      all_live = c.all_live;
      each_taken = λ handler. sym (ap (count_by (is_of handler)) none);
      each_waiting = λ handler. sym (ap (count_by (waits_for handler)) none);
      behind = omega arith;
    }
  where
    none : drop (length rows) rows ≡ []
    none = drop_all (length rows) rows (omega arith)

-- ---- those that wait are dropped

dropped_waits : (status : StoredStatus) → waits (dropped_status status) ≡ false
dropped_waits Waits = refl
dropped_waits (Started activity) = refl
dropped_waits Ended = refl
dropped_waits Dropped = refl

over_stays : (status : StoredStatus) → is_live status ≡ false → is_live (dropped_status status) ≡ false
over_stays Waits over = cc
over_stays (Started activity) over = cc
over_stays Ended over = refl
over_stays Dropped over = refl

over_is_same : (status : StoredStatus) → is_live status ≡ false → dropped_status status ≡ status
over_is_same Waits over = cc
over_is_same (Started activity) over = cc
over_is_same Ended over = refl
over_is_same Dropped over = refl

-- a change at each live place is one of all
pub dropped_everywhere : (rows : List StoredRelease) →
    fold (λ (some : List StoredRelease) (index : ℕ). changed dropped_row index some) rows (live_indices rows)
    ≡ map dropped_row rows
unfolding live_indices
dropped_everywhere rows =
    changed_all row_is_live dropped_row 0 [] rows refl
    (λ r over. ap (λ status. with_status status r) (over_is_same r.status over))

pub dropped_counted : (live taken waiting : List ℕ) (earlier : ℕ) (rows : List StoredRelease) →
    AreCounted live taken waiting earlier rows →
    AreCounted (filter (is_live_at (map dropped_row rows)) live) taken [] earlier (map dropped_row rows)
unfolding count_of live_indices waiting_count
dropped_counted live taken waiting earlier rows c =
    record {
      all_live =
          ap (filter (is_live_at (map dropped_row rows))) c.all_live
          ∙ kept_there row_is_live dropped_row (map dropped_row rows) 0 rows (from_first (map dropped_row rows))
          (λ r over. over_stays r.status over);
      each_taken = λ handler.
          c.each_taken handler
          ∙ sym (ap (count_by (is_of handler)) (drop-map dropped_row earlier rows)
          ∙ count_mapped (is_of handler) (is_of handler) dropped_row (λ r. refl) (drop earlier rows));
      each_waiting = λ handler.
          sym (ap (count_by (waits_for handler)) (drop-map dropped_row earlier rows)
          ∙ (count_mapped (waits_for handler) (λ r. false) dropped_row
          (λ r. ap (λ b. (r.handler == handler) && b) (dropped_waits r.status) ∙ and_false (r.handler == handler))
          (drop earlier rows)
          ∙ count_none (λ r. false) (drop earlier rows) (λ r. refl)));
      behind = omega (arith, c.behind, length-map rows dropped_row);
    }

-- ---- one is put under way or ends

taken_left : (earlier index : ℕ) (rows : List StoredRelease) (f : StoredRelease → StoredRelease) →
    ((r : StoredRelease) → (f r).handler ≡ r.handler) →
    (k : ℕ) → count_of earlier rows k ≡ count_of earlier (changed f index rows) k
unfolding count_of
taken_left earlier index rows f same k =
    sym (sum_kept (λ (r : StoredRelease). cond (is_of k r) 1 0) f earlier index rows
    (λ r. ap (λ n. cond (n == k) 1 0) (same r)))

-- a live release is put under way
pub put_counted : (live taken waiting : List ℕ) (earlier : ℕ) (rows : List StoredRelease) (index : ℕ)
    (status : StoredStatus) →
    is_live_at rows index ≡ true → is_live status ≡ true → waits status ≡ false →
    AreCounted live taken waiting earlier rows →
    AreCounted live taken (one_less (waiting_handler rows earlier index) waiting) earlier
    (changed (with_status status) index rows)
unfolding live_indices
put_counted live taken waiting earlier rows index status was is none c =
    record {
      all_live =
          c.all_live
          ∙ sym
          (numbers_changed row_is_live (with_status status) index rows
          (λ r e. is ∙ sym (ap (λ o. holds o row_is_live) (sym e) ∙ was)));
      each_taken = λ k. c.each_taken k ∙ taken_left earlier index rows (with_status status) (λ r. refl) k;
      each_waiting = waiting_left earlier index rows status waiting none c.each_waiting;
      behind = omega (arith, c.behind, length_changed (with_status status) index rows);
    }

-- a release ends
pub ended_counted : (live taken waiting : List ℕ) (earlier : ℕ) (rows : List StoredRelease) (index : ℕ) →
    AreCounted live taken waiting earlier rows →
    AreCounted (filter (λ other. not (other == index)) live) taken
    (one_less (waiting_handler rows earlier index) waiting) earlier (changed (with_status Ended) index rows)
unfolding live_indices
ended_counted live taken waiting earlier rows index c =
    record {
      all_live =
          ap (filter (λ other. not (other == index))) c.all_live
          ∙ sym (numbers_ended row_is_live (with_status Ended) index rows (λ r. refl));
      each_taken = λ k. c.each_taken k ∙ taken_left earlier index rows (with_status Ended) (λ r. refl) k;
      each_waiting = waiting_left earlier index rows Ended waiting refl c.each_waiting;
      behind = omega (arith, c.behind, length_changed (with_status Ended) index rows);
    }

-- ---- the activity of one is taken out

emptied_waits : (status : StoredStatus) → waits (emptied_status status) ≡ waits status
emptied_waits Waits = refl
emptied_waits (Started activity) = refl
emptied_waits Ended = refl
emptied_waits Dropped = refl

emptied_live : (status : StoredStatus) → is_live (emptied_status status) ≡ is_live status
emptied_live Waits = refl
emptied_live (Started activity) = refl
emptied_live Ended = refl
emptied_live Dropped = refl

pub emptied_counted : (live taken waiting : List ℕ) (earlier : ℕ) (rows : List StoredRelease) (index : ℕ) →
    AreCounted live taken waiting earlier rows → AreCounted live taken waiting earlier (changed emptied_row index rows)
unfolding live_indices waiting_count
emptied_counted live taken waiting earlier rows index c =
    record {
      all_live = c.all_live ∙ sym (numbers_changed row_is_live emptied_row index rows (λ r e. emptied_live r.status));
      each_taken = λ k. c.each_taken k ∙ taken_left earlier index rows emptied_row (λ r. refl) k;
      each_waiting = λ k.
          c.each_waiting k
          ∙ sym (sum_kept (λ (r : StoredRelease). cond (waits_for k r) 1 0) emptied_row earlier index rows
          (λ r. ap (λ b. cond ((r.handler == k) && b) 1 0) (emptied_waits r.status)));
      behind = omega (arith, c.behind, length_changed emptied_row index rows);
    }
