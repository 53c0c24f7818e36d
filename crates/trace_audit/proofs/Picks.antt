-- The most urgent release is the one with the greatest key.
use Rattle.std.proofs.Common.{◌≡◌, ℕ, ◌+◌, ◌<◌, ◌≤◌, ◌==◌, Bool, true, false, ◌||◌, List, [], ◌∷◌, length, Option, None, Some, refl, sym, ap, ◌∙◌, subst, arith, inl, inr, ◌⊎◌}
use Rattle.std.specs.Prelude.{IfNone, IfSome, slice_get, option_map, slice_index_or}
use Rattle.std.proofs.lemmas.Bool.Decides.{nat_tests}
use Rattle.std.proofs.lemmas.Option.{slice_get_within}
use Rattle.std.proofs.Math.Nat.{eq-or-lt_of_le}
use Rattle.std.proofs.lemmas.List.Elements.{All-head, All-tail}
use Rattle.std.proofs.lemmas.List.Sorted.{length_permutation, list_any-IsPermutation, le_from_greatest}
use Rattle.scj_model.specs.Choice.{Candidate, most_urgent}
use Rattle.std.specs.BinaryHeap.{IsUpperBound}
use Rattle.std.specs.List.{All}
use Rattle.std.specs.List.Sorted.{IsPermutation}
use Rattle.std.specs.Ordering.{nat_cmp}
use Rattle.scj_rules.specs.Words.{holds}
use Rattle.trace_audit.specs.declared.releases.Release.{Release}
use Rattle.trace_audit.specs.Replay.{Releases, candidates_from, picked_index}
use Rattle.trace_audit.specs.Index.{HasKeys, is_current, is_among_keys, is_rank, key_of, index_in, indices_end, rank_of, rank_in}
use Rattle.trace_audit.proofs.Urgent.{Found, IsBest, IsOf, behind, best_is_picked, is_of_some, weight}

-- ---- by keys

-- where a test holds of what may be there, it is there
record Held {A : Type 0} (o : Option A) (test : A → Bool) : Type 0 where
  value : A
  is : o ≡ Some value
  holds_of : test value ≡ true

held : {A : Type 0} (o : Option A) (test : A → Bool) → holds o test ≡ true → Held o test
held None test h = absurd (cc (h))
held (Some x) test h = record { value = x; is = refl; holds_of = h }

rank_is : (rank : ℕ) (o : Option ℕ) → is_rank rank o ≡ true → o ≡ Some rank
rank_is rank None h = absurd (cc (h))
rank_is rank (Some n) h = let e : n ≡ rank = grind (arith, nat_tests) in ap (λ (k : ℕ). Some k) e

is_rank_same : (rank : ℕ) → is_rank rank (Some rank) ≡ true
is_rank_same rank = grind (arith, nat_tests)

among_first : (P : ℕ → Type 0) (k x : ℕ) (keys : List ℕ) → P k → (is_among_keys x keys ≡ true → P x) → (b : Bool) →
    (k == x) ≡ b → (b || is_among_keys x keys) ≡ true → P x
among_first P k x keys here behind true t among =
    let e : k ≡ x = grind (arith, nat_tests) in
    subst P e here
among_first P k x keys here behind false t among = behind among

among_all : (P : ℕ → Type 0) (keys : List ℕ) (x : ℕ) → All P keys → is_among_keys x keys ≡ true → P x
among_all P [] x all among = absurd (cc (among))
among_all P (k ∷ keys) x all among =
    among_first P k x keys (All-head P k keys all) (λ h. among_all P keys x (All-tail P k keys all) h) (k == x) refl among

key_parts : (key : ℕ) → key_of (rank_in key) (index_in key) ≡ key
key_parts key = omega arith

rank_of_key : (rank index : ℕ) → index < indices_end → rank_in (key_of rank index) ≡ rank
rank_of_key rank index h = omega arith

place_of_key : (rank index : ℕ) → index < indices_end → index_in (key_of rank index) ≡ index
place_of_key rank index h = let e : rank_in (key_of rank index) ≡ rank = rank_of_key rank index h in omega arith

-- a key that isn't greater belongs to a lower rank, or to the same one at a later place
less_urgent : (n rank q index : ℕ) → q < indices_end → index < indices_end → key_of n q ≤ key_of rank index →
    (n < rank) ⊎ ((n ≡ rank) × (index ≤ q))
less_urgent n rank q index hq hp h = by_order (eq-or-lt_of_le (let k : n ≤ rank = omega arith in k))
  where
    by_order : (n ≡ rank) ⊎ (n < rank) → (n < rank) ⊎ ((n ≡ rank) × (index ≤ q))
    by_order (inl e) = inr (e, omega arith)
    by_order (inr l) = inl l

pub picked_by_key : (all : Releases) (keys : List ℕ) (key : ℕ) → HasKeys all keys → IsUpperBound nat_cmp key keys →
    is_current all key ≡ true → picked_index all ≡ Some (index_in key)
unfolding picked_index
picked_by_key all keys key has above current =
    let held : Held (slice_get all.releases (index_in key)) (λ r. is_rank (rank_in key) (rank_of all.handlers r)) =
    held (slice_get all.releases (index_in key)) (λ r. is_rank (rank_in key) (rank_of all.handlers r)) current in
    let found : Found (most_urgent (candidates_from all.handlers 0 all.releases)) (0 + index_in key) (rank_in key) =
    best_is_picked all.handlers 0 all.releases (index_in key) (rank_in key) held.value held.is
    (rank_is (rank_in key) (rank_of all.handlers held.value) held.holds_of) best in
    let at : found.candidate.index ≡ index_in key = let e = found.at in omega (arith, e) in
    ap (option_map (λ (c : Candidate). c.index)) found.is ∙ ap (λ (n : ℕ). Some n) at
  where
    within : (q : ℕ) (t : Release) → slice_get all.releases q ≡ Some t → q < indices_end
    within q t e =
        let f = has.few in
        let g : q < length all.releases = slice_get_within all.releases q t e in
        omega (arith, f, g)

    bound : All (λ y. y ≤ key) keys
    bound = le_from_greatest key keys above

    place_within : index_in key < indices_end
    place_within = omega arith

    best : IsBest all.handlers all.releases (index_in key) (rank_in key)
    best =
        record {
          is = λ q n t e f.
              less_urgent n (rank_in key) q (index_in key) (within q t e) place_within
              (let le : key_of n q ≤ key =
              among_all (λ y. y ≤ key) keys (key_of n q) bound (has.is q n t e f) in
              let parts : key_of (rank_in key) (index_in key) ≡ key = key_parts key in
              omega (arith, le, parts));
        }

pub none_picked : (all : Releases) (keys : List ℕ) → HasKeys all keys → keys ≡ [] → picked_index all ≡ None
unfolding picked_index
none_picked all keys has none = by_result (most_urgent (candidates_from all.handlers 0 all.releases)) refl
  where
    by_result : (o : Option Candidate) → most_urgent (candidates_from all.handlers 0 all.releases) ≡ o →
        option_map (λ (c : Candidate). c.index) (most_urgent (candidates_from all.handlers 0 all.releases)) ≡ None
    by_result None e = ap (option_map (λ (c : Candidate). c.index)) e
    by_result (Some c) e =
        let of : IsOf all.handlers all.releases c = is_of_some all.handlers 0 all.releases c e in
        let among : is_among_keys (key_of (weight c) of.index) keys ≡ true =
        has.is of.index (weight c) of.release of.there of.rank in
        let empty : is_among_keys (key_of (weight c) of.index) [] ≡ true =
        subst (λ (ks : List ℕ). is_among_keys (key_of (weight c) of.index) ks ≡ true) none among in
        absurd (cc (empty))

pub has_keys_popped : (all : Releases) (keys after : List ℕ) (key : ℕ) → HasKeys all keys →
    IsPermutation keys (key ∷ after) → is_current all key ≡ false → HasKeys all after
has_keys_popped all keys after key has popped stale =
    record {
      few = has.few;
      is = λ index rank r there ranked. by_test index rank r there ranked (key == key_of rank index) refl;
    }
  where
    current : (index rank : ℕ) (r : Release) → slice_get all.releases index ≡ Some r →
        rank_of all.handlers r ≡ Some rank → is_current all (key_of rank index) ≡ true
    current index rank r there ranked =
        let f = has.few in
        let g : index < length all.releases = slice_get_within all.releases index r there in
        let w : index < indices_end = omega (arith, f, g) in
        ap (λ (p : ℕ). holds (slice_get all.releases p)
        (λ t. is_rank (rank_in (key_of rank index)) (rank_of all.handlers t))) (place_of_key rank index w)
        ∙ (ap (λ (o : Option Release). holds o
        (λ t. is_rank (rank_in (key_of rank index)) (rank_of all.handlers t))) there
        ∙ (ap (λ (n : ℕ). is_rank n (rank_of all.handlers r)) (rank_of_key rank index w)
        ∙ (ap (is_rank rank) ranked ∙ is_rank_same rank)))

    by_test : (index rank : ℕ) (r : Release) → slice_get all.releases index ≡ Some r →
        rank_of all.handlers r ≡ Some rank → (b : Bool) → (key == key_of rank index) ≡ b →
        is_among_keys (key_of rank index) after ≡ true
    by_test index rank r there ranked true t =
        let e : key ≡ key_of rank index = grind (arith, nat_tests) in
        let c : is_current all key ≡ true =
        subst (λ (k : ℕ). is_current all k ≡ true) (sym e) (current index rank r there ranked) in
        absurd (cc (c, stale))
    by_test index rank r there ranked false t =
        let among : is_among_keys (key_of rank index) (key ∷ after) ≡ true =
        sym (list_any-IsPermutation (λ (k : ℕ). k == key_of rank index) keys (key ∷ after) popped)
        ∙ has.is index rank r there ranked in
        sym (ap (λ (b : Bool). b || is_among_keys (key_of rank index) after) t) ∙ among

-- once the greatest key is taken out
pub has_keys_after_pop : (all : Releases) (keys after : List ℕ) (key : ℕ) (o : Option ℕ) → HasKeys all keys →
    is_current all key ≡ false → key ≡ slice_index_or keys 0 key → IfSome o (λ x. x ≡ slice_index_or keys 0 x) →
    IfSome o (λ x. IsPermutation keys (x ∷ after)) → IfNone o (after ≡ keys) → HasKeys all after
has_keys_after_pop all keys after key None has stale first top moved same =
    subst (λ (ks : List ℕ). HasKeys all ks) (sym same) has
has_keys_after_pop all [] after key (Some x) has stale first top moved same =
    let e : length (x ∷ after) ≡ 0 = length_permutation [] (x ∷ after) moved in
    absurd (omega (arith, e))
has_keys_after_pop all (k ∷ keys) after key (Some x) has stale first top moved same =
    let e : x ≡ key = top ∙ sym first in
    has_keys_popped all (k ∷ keys) after key has
    (subst (λ (y : ℕ). IsPermutation (k ∷ keys) (y ∷ after)) e moved) stale

pub none_picked_at : (all : Releases) (keys : List ℕ) (n : ℕ) → HasKeys all keys → n ≡ length keys →
    (0 < n → ⊥) → picked_index all ≡ None
none_picked_at all [] n has e empty = none_picked all [] has refl
none_picked_at all (k ∷ keys) n has e empty = absurd (empty (omega (arith, e)))
