-- The choice among the live releases is the choice of the definitions.
use Rattle.std.specs.Prelude.{Bool, true, false, Option, Some, None, option_map, option_to_list, slice_index, if◌then◌else◌}
use Rattle.std.proofs.Common.{◌≡◌, ◌∙◌, ◌≤◌, ◌<◌, ℕ, ◌+◌, List, [], ◌∷◌, ◌++◌, length, drop, map, refl, ap, sym, arith}
use Rattle.std.proofs.lemmas.List.{drop_all, drop_more}
use Rattle.scj_rules.specs.Words.{◌>>=◌}
use Rattle.scj_model.specs.declared.handlers.HandlerRow.{HandlerRow}
use Rattle.op_list.specs.Listed.{Listing}
use Rattle.scj_model.specs.State.{State}
use Rattle.scj_model.specs.Arrivals.{numbers_where}
use Rattle.scj_model.specs.Choice.{Candidate, candidate, candidates_from, most_urgent}
use Rattle.run_releases.specs.declared.rows.Release.{Release as StoredRelease}
use Rattle.run_releases.specs.declared.rows.ReleaseStatus.{ReleaseStatus as StoredStatus}
use Rattle.run_releases.specs.declared.rows.ReleaseStatus.TheVariants.{Waits, Started, Ended, Dropped}
use Rattle.run_releases.specs.Rows.{is_live, release_seen, status_seen}
use Rattle.run_releases.specs.Counts.{live_indices, row_is_live}
use Rattle.run_releases.specs.Choosing.{candidate_at, candidate_by, candidates_at, chosen_among, preferred}
use Rattle.run_releases.proofs.ByPlace.{IsFrom, are_next, from_first, is_first}

-- one more candidate in front
preferred_first : (o : Option Candidate) (cs : List Candidate) → most_urgent (option_to_list o ++ cs) ≡ preferred o
    (most_urgent cs)
unfolding most_urgent
preferred_first None cs = refl
preferred_first (Some c) cs = go (most_urgent cs) refl
  where
    go : (later : Option Candidate) → most_urgent cs ≡ later →
        most_urgent (c ∷ cs) ≡ preferred (Some c) (most_urgent cs)
    go None e =
        ap (λ o. elim o as (λ z. Option Candidate) [ None ↦ Some c | Some later ↦ preferred (Some c) (Some later) ]) e
        ∙ ap (preferred (Some c)) (sym e)
    go (Some later) e =
        ap (λ o. elim o as (λ z. Option Candidate) [ None ↦ Some c | Some later ↦ preferred (Some c) (Some later) ]) e
        ∙ ap (preferred (Some c)) (sym e)

-- none are left behind the last one
pub none_behind : (registry : List HandlerRow) (rows : List StoredRelease) (indices : List ℕ) (left : ℕ) →
    length indices ≤ left →
    None ≡ most_urgent (candidates_at registry rows (drop left indices))
unfolding candidates_at most_urgent
none_behind registry rows indices left past =
    ap (λ ps. most_urgent (candidates_at registry rows ps)) (sym (drop_all left indices past))

-- one more place from the last to the first
pub one_before : (registry : List HandlerRow) (rows : List StoredRelease) (indices : List ℕ) (left after : ℕ)
    (found : Option Candidate) →
    left < length indices → after ≡ left + 1 → found ≡ most_urgent (candidates_at registry rows (drop after indices)) →
    preferred (candidate_at registry rows (slice_index indices left)) found ≡ most_urgent
    (candidates_at registry rows (drop left indices))
unfolding candidates_at
one_before registry rows indices left after found within next e =
    ap (preferred (candidate_at registry rows (slice_index indices left))) e
    ∙ (sym
    (preferred_first (candidate_at registry rows (slice_index indices left))
    (candidates_at registry rows (drop after indices)))
    ∙ (ap (λ n. most_urgent (candidates_at registry rows (slice_index indices left ∷ drop n indices))) next
    ∙ ap (λ ps. most_urgent (candidates_at registry rows ps)) (sym (drop_more indices left 0 within))))

-- all places are seen
pub all_chosen : (registry : List HandlerRow) (rows : List StoredRelease) (indices : List ℕ) (left : ℕ)
    (found : Option Candidate) →
    left ≤ 0 → found ≡ most_urgent (candidates_at registry rows (drop left indices)) →
    option_map (λ (c : Candidate). c.index) found ≡ chosen_among registry rows indices
unfolding chosen_among
all_chosen registry rows indices left found none e =
    let first : left ≡ 0 = omega arith in
    ap (option_map (λ (c : Candidate). c.index))
    (e ∙ ap (λ n. most_urgent (candidates_at registry rows (drop n indices))) first)

-- ---- the candidates of a state

seen_candidate : (code : Listing) (s : State) (index handler number : ℕ) (status : StoredStatus) →
    candidate s index (record { handler = handler; number = number; status = status_seen code status })
    ≡ candidate_by s.registry index handler status
unfolding candidate
seen_candidate code s index handler number Waits = refl
seen_candidate code s index handler number (Started activity) = refl
seen_candidate code s index handler number Ended = refl
seen_candidate code s index handler number Dropped = refl

over_is_none : (registry : List HandlerRow) (index handler : ℕ) (status : StoredStatus) → is_live status ≡ false →
    candidate_by registry index handler status ≡ None
over_is_none registry index handler Waits over = cc
over_is_none registry index handler (Started activity) over = cc
over_is_none registry index handler Ended over = refl
over_is_none registry index handler Dropped over = refl

candidates_seen : (code : Listing) (s : State) (rows : List StoredRelease) (n : ℕ) (xs : List StoredRelease) →
    IsFrom rows n xs →
    candidates_at s.registry rows (numbers_where row_is_live n xs) ≡ candidates_from s n (map (release_seen code) xs)
unfolding candidates_at candidates_from numbers_where
candidates_seen code s rows n [] h = refl
candidates_seen code s rows n (x ∷ xs) h =
    go (candidates_seen code s rows (n + 1) xs (are_next h)) (is_live x.status) refl
  where
    here : candidates_at s.registry rows (numbers_where row_is_live (n + 1) xs) ≡ candidates_from s (n + 1)
        (map (release_seen code) xs) →
        option_to_list (candidate_by s.registry n x.handler x.status)
        ++ candidates_at s.registry rows (numbers_where row_is_live (n + 1) xs)
        ≡ candidates_from s n (map (release_seen code) (x ∷ xs))
    here rest =
        ap (λ o. option_to_list o ++ candidates_at s.registry rows (numbers_where row_is_live (n + 1) xs))
        (sym (seen_candidate code s n x.handler x.number x.status))
        ∙ ap (λ cs. option_to_list (candidate s n (release_seen code x)) ++ cs) rest

    go : candidates_at s.registry rows (numbers_where row_is_live (n + 1) xs) ≡ candidates_from s (n + 1)
        (map (release_seen code) xs) →
        (b : Bool) → is_live x.status ≡ b →
        candidates_at s.registry rows ((if b then n ∷ [] else []) ++ numbers_where row_is_live (n + 1) xs)
        ≡ candidates_from s n (map (release_seen code) (x ∷ xs))
    go rest true e =
        ap (λ o. option_to_list (o >>= (λ (r : StoredRelease). candidate_by s.registry n r.handler r.status))
        ++ candidates_at s.registry rows (numbers_where row_is_live (n + 1) xs)) (is_first h)
        ∙ here rest
    go rest false e =
        ap (λ o. option_to_list o ++ candidates_at s.registry rows (numbers_where row_is_live (n + 1) xs))
        (sym (over_is_none s.registry n x.handler x.status e))
        ∙ here rest

pub chosen_seen : (code : Listing) (s : State) (rows : List StoredRelease) →
    chosen_among s.registry rows (live_indices rows) ≡ option_map (λ (c : Candidate). c.index)
    (most_urgent (candidates_from s 0 (map (release_seen code) rows)))
unfolding chosen_among live_indices
chosen_seen code s rows =
    ap (λ cs. option_map (λ (c : Candidate). c.index) (most_urgent cs))
    (candidates_seen code s rows 0 rows (from_first rows))
