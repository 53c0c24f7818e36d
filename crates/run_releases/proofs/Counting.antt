-- Numbers of handlers that rise and fall by one, and how many elements pass a test.
use Rattle.std.specs.Prelude.{Bool, true, false, ◌&&◌, ◌==◌, nat_lt, cond, filter, slice_set, slice_index, drop}
use Rattle.std.specs.List.{count_by}
use Rattle.std.proofs.Common.{◌≡◌, ◌≢◌, ◌∙◌, ◌≤◌, ◌<◌, ℕ, ◌+◌, ◌-◌, List, [], ◌∷◌, ◌++◌, length, map, refl, ap, sym, arith, get_or-set_same, get_or-set_other}
use Rattle.std.proofs.lemmas.Bool.Decides.{nat_tests}
use Rattle.std.proofs.lemmas.List.{drop-append-le, get_or_past}
use Rattle.std.proofs.lemmas.List.Sums.{length-filter, sum_by-cons, sum_by_push}

-- ---- tests

pub and_true : (b : Bool) → (b && true) ≡ b
and_true true = refl
and_true false = refl

pub and_false : (b : Bool) → (b && false) ≡ false
and_false true = refl
and_false false = refl

-- a number is the same as itself
pub itself : (n : ℕ) → ◌≡◌ {A = ℕ} (cond ((n == n) && true) 1 0) 1
itself n = ap (λ b. cond b 1 0) (and_true (n == n)) ∙ go (n == n) refl
  where
    go : (b : Bool) → (n == n) ≡ b → ◌≡◌ {A = ℕ} (cond b 1 0) 1
    go true t = refl
    go false t = absurd (let no : n ≢ n = grind (arith, nat_tests) in no refl)

-- ---- how many pass a test

module _ {A : Type 0} where
  pub count_push : (test : A → Bool) (from : ℕ) (xs : List A) (x : A) → from ≤ length xs →
      count_by test (drop from (xs ++ x ∷ [])) ≡ count_by test (drop from xs) + cond (test x) 1 0
  count_push test from xs x behind =
      ap (count_by test) (drop-append-le from xs (x ∷ []) behind)
      ∙ sum_by_push (λ y. cond (test y) 1 0) (drop from xs) x

  pub count_none : (test : A → Bool) (xs : List A) → ((x : A) → test x ≡ false) → count_by test xs ≡ 0
  count_none test [] none = refl
  count_none test (x ∷ xs) none =
      sum_by-cons (λ y. cond (test y) 1 0) x xs ∙ rw (none x, count_none test xs none) refl

  count_filtered : (test other : A → Bool) (xs : List A) →
      count_by other (filter test xs) ≡ count_by (λ x. test x && other x) xs
  count_filtered test other [] = refl
  count_filtered test other (x ∷ xs) =
      here (count_filtered test other xs) (test x) ∙ sym (sum_by-cons (λ y. cond (test y && other y) 1 0) x xs)
    where
      here : count_by other (filter test xs) ≡ count_by (λ x. test x && other x) xs →
          (b : Bool) → count_by other (cond b (x ∷ filter test xs) (filter test xs)) ≡ cond
          (b && other x) 1 0 + count_by (λ x. test x && other x) xs
      here rest true = sum_by-cons (λ y. cond (other y) 1 0) x (filter test xs) ∙ ap (λ n. cond (other x) 1 0 + n) rest
      here rest false = rest ∙ omega arith

  pub count_both : (test other : A → Bool) (xs : List A) →
      length (filter other (filter test xs)) ≡ count_by (λ x. test x && other x) xs
  count_both test other xs = length-filter other (filter test xs) ∙ count_filtered test other xs

pub count_mapped : {A B : Type 0} (test : B → Bool) (before : A → Bool) (f : A → B) →
    ((x : A) → test (f x) ≡ before x) →
    (xs : List A) → count_by test (map f xs) ≡ count_by before xs
count_mapped test before f same [] = refl
count_mapped test before f same (x ∷ xs) =
    sum_by-cons (λ y. cond (test y) 1 0) (f x) (map f xs)
    ∙ (ap (λ b. cond b 1 0 + count_by test (map f xs)) (same x)
    ∙ (ap (λ n. cond (before x) 1 0 + n) (count_mapped test before f same xs)
    ∙ sym (sum_by-cons (λ y. cond (before y) 1 0) x xs)))

-- ---- a number that rises or falls by one

pub one_more_at : (numbers : List ℕ) (index number k : ℕ) → index < length numbers →
    number ≡ slice_index numbers index + 1 →
    slice_index (slice_set numbers index number) k ≡ slice_index numbers k + cond (index == k) 1 0
one_more_at numbers index number k there e = go (index == k) refl
  where
    go : (b : Bool) → (index == k) ≡ b →
        slice_index (slice_set numbers index number) k ≡ slice_index numbers k + cond b 1 0
    go true t =
        let s : k ≡ index = grind (arith, nat_tests) in
        rw s (get_or-set_same numbers index number 0 there ∙ e)
    go false t =
        let s : k ≢ index = (λ same. grind (arith, nat_tests)) in
        get_or-set_other numbers index k number 0 s ∙ omega arith

pub one_less_at : (numbers : List ℕ) (index k : ℕ) → 0 < slice_index numbers index →
    slice_index (slice_set numbers index (slice_index numbers index - 1)) k + cond (index == k) 1 0
    ≡ slice_index numbers k
one_less_at numbers index k some = go (index == k) refl
  where
    there : index < length numbers
    there = inside (nat_lt index (length numbers)) refl
      where
        inside : (b : Bool) → nat_lt index (length numbers) ≡ b → index < length numbers
        inside true t = grind (arith, nat_tests)
        inside false t =
            let past : length numbers ≤ index = grind (arith, nat_tests) in
            let none : slice_index numbers index ≡ 0 = get_or_past numbers index 0 past in
            absurd (omega (arith, none, some))

    go : (b : Bool) → (index == k) ≡ b →
        slice_index (slice_set numbers index (slice_index numbers index - 1)) k + cond b 1 0 ≡ slice_index numbers k
    go true t =
        let s : k ≡ index = grind (arith, nat_tests) in
        let h : slice_index (slice_set numbers index (slice_index numbers index - 1)) index ≡ slice_index numbers index
        - 1 = get_or-set_same numbers index (slice_index numbers index - 1) 0 there in
        rw s (omega (arith, h, some))
    go false t =
        let s : k ≢ index = (λ same. grind (arith, nat_tests)) in
        ap (λ n. n + 0) (get_or-set_other numbers index k (slice_index numbers index - 1) 0 s) ∙ omega arith
