-- Reading tables of references, and a loop that looks for the first that passes.
use Rattle.std.proofs.Common.{◌≡◌, ℕ, zero, suc, ◌+◌, ◌-◌, ◌<◌, ◌≤◌, List, [], ◌∷◌, map, length, drop, get_or, Bool, true, false, nat_lt, Some, slice_get, Bor, refl, ap, arith, slice_index}
use Rattle.std.specs.Prelude.{find, EachIndex, ◌==◌}
use Rattle.std.specs.List.{list_all, starts_with}
use Rattle.std.proofs.lemmas.List.{drop_more}
use Rattle.std.proofs.lemmas.Bool.{and_parts, and_from, le-leb, ltb-true, cond-true, cond-false}
use Rattle.std.proofs.lemmas.Option.{get_or_from_slice_get}
use Rattle.scj_base.specs.Vocabulary.{signs}
use Rattle.scj_lexer.specs.declared.tables.TheConstants.{WORD_AT, SIGNS_FROM}
use Rattle.scj_lexer.specs.Tries.{hash_of, only_word_of, signs_from, is_sign_first, sign_of}

read_map : (rs : List (Bor (List ℕ))) (i : ℕ) (d : Bor (List ℕ)) → i < length rs →
    (get_or rs i d).now ≡ get_or (map (λ r. r.now) rs) i []
read_map [] i d h = absurd (omega arith)
read_map (r ∷ rs) zero d h = refl
read_map (r ∷ rs) (suc i) d h = read_map rs i d (omega arith)

pub read_through : (rs : List (Bor (List ℕ))) (xs : List (List ℕ)) (i : ℕ) (d : Bor (List ℕ)) →
    map (λ r. r.now) rs ≡ xs → i < length rs → (get_or rs i d).now ≡ get_or xs i []
read_through rs xs i d e h = rw (← e) (read_map rs i d h)

pub all_at : {X : Type 0} (p : X → Bool) (xs : List X) (i : ℕ) (d : X) → list_all p xs ≡ true → p d ≡ true →
    p (get_or xs i d) ≡ true
all_at p [] i d h e = e
all_at p (x ∷ xs) zero d h e = (and_parts _ _ h).0
all_at p (x ∷ xs) (suc i) d h e = all_at p xs i d (and_parts _ _ h).1 e

all_within : (p : ℕ → Bool) (xs : List ℕ) (k : ℕ) → list_all p xs ≡ true → k < length xs → p (get_or xs k 0) ≡ true
all_within p [] k h l = absurd (omega arith)
all_within p (x ∷ xs) zero h l = (and_parts _ _ h).0
all_within p (x ∷ xs) (suc k) h l = all_within p xs k (and_parts _ _ h).1 (omega arith)

words_all : list_all (λ n. nat_lt n 53) WORD_AT ≡ true
words_all = refl

signs_all : list_all (list_all (λ n. nat_lt n 50)) (map (λ r. r.now) SIGNS_FROM) ≡ true
signs_all = refl

pub only_word_in_range : (a b len : ℕ) → only_word_of a b len < 53
unfolding only_word_of
only_word_in_range a b len = ltb-true _ _ (all_at (λ n. nat_lt n 53) WORD_AT (hash_of a b len) 0 words_all refl)

pub signs_in_range : (b : ℕ) → EachIndex (signs_from b) (λ k. slice_index (signs_from b) k < 50)
unfolding signs_from
signs_in_range b =
    λ k l. ltb-true _ _
    (all_within (λ n. nat_lt n 50) (signs_from b) k
    (all_at (list_all (λ n. nat_lt n 50)) (map (λ r. r.now) SIGNS_FROM) (b - 33) [] signs_all refl) l)

pub find_yes : (p : ℕ → Bool) (xs : List ℕ) (i : ℕ) → i < length xs → p (get_or xs i 0) ≡ true →
    find p (drop i xs) ≡ Some (get_or xs i 0)
find_yes p xs i l h = rw (drop_more xs i 0 l) (cond-true _ _ _ h)

pub find_no : (p : ℕ → Bool) (xs : List ℕ) (i : ℕ) → i < length xs → p (get_or xs i 0) ≡ false →
    find p (drop i xs) ≡ find p (drop (i + 1) xs)
find_no p xs i l h = rw (drop_more xs i 0 l) (cond-false _ _ _ h)

pub is_sign_first_at : (w t : List ℕ) (n : ℕ) → slice_get signs n ≡ Some t → is_sign_first w n ≡ starts_with ◌==◌ w t
is_sign_first_at w t n e = ap (λ v. starts_with ◌==◌ w v) (get_or_from_slice_get signs n t [] e)

pub sign_of_is : (w : List ℕ) → 0 < length w → 33 ≤ get_or w 0 0 → get_or w 0 0 ≤ 126 →
    sign_of w ≡ find (is_sign_first w) (signs_from (get_or w 0 0))
unfolding sign_of
sign_of_is [] h l u = absurd (omega arith)
sign_of_is (b ∷ s) h l u = cond-true _ _ _ (and_from _ _ (le-leb _ _ l) (le-leb _ _ u))
