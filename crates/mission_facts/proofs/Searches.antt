-- What is found along lists, and tests of all elements of a list.
use Rattle.std.proofs.Common.{arith, zero, suc, ◌<◌, length, subst, ◌==◌, ◌≡◌, ℕ, ◌+◌, List, [], ◌∷◌, ◌++◌, map, find, position, sym, ap, ◌∙◌, refl, Option, Some, None, Bool, true, false, ◌||◌, ◌&&◌, true≢false, ◌⊎◌, inl, inr, is_some, option_map, if◌then◌else◌}
use Rattle.std.specs.List.{list_any}
use Rattle.scj_rules.specs.Words.{along, is_among}
use Rattle.scj_rules.proofs.ChainLemmas.{or_cases, or_left, or_right, is_same_number}
use Rattle.accepted_laws.proofs.Fields.{In as Element, here as at_head, there as in_tail, position-cons}
use Rattle.accepted_facts.proofs.OverridingKinds.{or_false, and_true}
use Rattle.flow_facts.proofs.SlotScopes.{in_head}
use Rattle.scj_rules.specs.ClassRules.{numbers_from}

-- what is in a list and passes makes that one is found
pub found_there : {A : Type 0} (test : A → Bool) (x : A) (xs : List A) → Element x xs → test x ≡ true →
    (y : A) × (find test xs ≡ Some y)
found_there test x [] h t = elim h [ ]
found_there {A} test x (y ∷ xs) h t = go (test y) refl (found_there test x xs) (in_head x y xs h)
  where
    go : (b : Bool) → test y ≡ b → (Element x xs → test x ≡ true → (y : A) × (find test xs ≡ Some y)) →
        (y ≡ x) ⊎ Element x xs → (z : A) × (find test (y ∷ xs) ≡ Some z)
    go true e ih h = (y, rw e refl)
    go false e ih (inl s) = absurd (true≢false (sym t ∙ ap test (sym s) ∙ e))
    go false e ih (inr k) = (let q = ih k t in (q.0, rw e q.1))

pub along_there : {A B : Type 0} (f : A → Option B) (x : A) (y : B) (xs : List A) → Element x xs → f x ≡ Some y →
    (z : B) × (along f xs ≡ Some z)
unfolding along
along_there f x y [] h e = elim h [ ]
along_there {A} {B} f x y (w ∷ xs) h e = go (f w) refl (along_there f x y xs) (in_head x w xs h)
  where
    go : (o : Option B) → f w ≡ o → (Element x xs → f x ≡ Some y → (z : B) × (along f xs ≡ Some z)) →
        (w ≡ x) ⊎ Element x xs →
        (z : B) × ((elim o as (λ _. Option B) [ None ↦ along f xs | Some z ↦ Some z ]) ≡ Some z)
    go (Some z) s ih h = (z, refl)
    go None s ih (inl k) = absurd (let q : None ≡ Some y = sym s ∙ ap f k ∙ e in cc (q))
    go None s ih (inr k) = ih k e

pub any_there : (test : ℕ → Bool) (xs : List ℕ) → list_any test xs ≡ true → (x : ℕ) × Element x xs × (test x ≡ true)
any_there test [] e = absurd (true≢false (sym e))
any_there test (x ∷ xs) e = go (or_cases (test x) (list_any test xs) e) (any_there test xs)
  where
    go : (test x ≡ true) ⊎ (list_any test xs ≡ true) →
        (list_any test xs ≡ true → (y : ℕ) × Element y xs × (test y ≡ true)) →
        (y : ℕ) × Element y (x ∷ xs) × (test y ≡ true)
    go (inl h) ih = (x, at_head, h)
    go (inr h) ih = (let q = ih h in (q.0, in_tail q.1, q.2))

pub there_any : (test : ℕ → Bool) (x : ℕ) (xs : List ℕ) → Element x xs → test x ≡ true → list_any test xs ≡ true
there_any test x [] h e = elim h [ ]
there_any test x (y ∷ xs) h e = go (in_head x y xs h) (there_any test x xs)
  where
    go : (y ≡ x) ⊎ Element x xs → (Element x xs → test x ≡ true → list_any test xs ≡ true) →
        (test y || list_any test xs) ≡ true
    go (inl s) ih = or_left (test y) (list_any test xs) (ap test s ∙ e)
    go (inr k) ih = or_right (test y) (list_any test xs) (ih k e)

pub some_is : {A : Type 0} (o : Option A) → is_some o ≡ true → (x : A) × (o ≡ Some x)
some_is None e = absurd (true≢false (sym e))
some_is (Some x) e = (x, refl)

-- what no element passes, none does
pub none_passes : {A : Type 0} (test : A → Bool) (xs : List A) → list_any test xs ≡ false → (x : A) → Element x xs →
    test x ≡ false
none_passes test [] e x h = elim h [ ]
none_passes test (y ∷ xs) e x h =
    let parts = or_false (test y) (list_any test xs) e in
    go (in_head x y xs h) parts.0 (none_passes test xs parts.1 x)
  where
    go : (y ≡ x) ⊎ Element x xs → test y ≡ false → (Element x xs → test x ≡ false) → test x ≡ false
    go (inl s) f ih = ap test (sym s) ∙ f
    go (inr i) f ih = ih i

-- a test that all elements pass
unfoldable pub all_pass : {A : Type 0} → (A → Bool) → List A → Bool
all_pass test [] = true
all_pass test (x ∷ xs) = test x && all_pass test xs

pub each_passes : {A : Type 0} (test : A → Bool) (xs : List A) → all_pass test xs ≡ true → (x : A) → Element x xs →
    test x ≡ true
unfolding all_pass
each_passes test [] e x h = elim h [ ]
each_passes test (y ∷ xs) e x h =
    let parts = and_true (test y) (all_pass test xs) e in
    go (in_head x y xs h) parts.0 (each_passes test xs parts.1 x)
  where
    go : (y ≡ x) ⊎ Element x xs → test y ≡ true → (Element x xs → test x ≡ true) → test x ≡ true
    go (inl s) f ih = ap test (sym s) ∙ f
    go (inr i) f ih = ih i

pub in_map : {A B : Type 0} (f : A → B) (x : A) (xs : List A) → Element x xs → Element (f x) (map f xs)
in_map f x [] h = elim h [ ]
in_map f x (y ∷ xs) at_head = at_head
in_map f x (y ∷ xs) (in_tail h) = in_tail (in_map f x xs h)

pub in_back : {A : Type 0} (x : A) (xs ys : List A) → Element x ys → Element x (xs ++ ys)
in_back x [] ys h = h
in_back x (y ∷ xs) ys h = in_tail (in_back x xs ys h)

-- the position in a list is that in a longer one
pub position_front : {A : Type 0} (test : A → Bool) (xs ys : List A) (k : ℕ) → position test xs ≡ Some k →
    position test (xs ++ ys) ≡ Some k
position_front test [] ys k e = absurd (cc (e))
position_front test (x ∷ xs) ys k e =
    position-cons test x (xs ++ ys)
    ∙ go (test x) (position test xs) refl (sym (position-cons test x xs) ∙ e) (position_front test xs ys)
  where
    go : (b : Bool) (o : Option ℕ) → position test xs ≡ o →
        (if b then Some 0 else option_map (λ k. 1 + k) (position test xs)) ≡ Some k →
        ((j : ℕ) → position test xs ≡ Some j → position test (xs ++ ys) ≡ Some j) →
        (if b then Some 0 else option_map (λ k. 1 + k) (position test (xs ++ ys))) ≡ Some k
    go true o s e ih = e
    go false None s e ih = absurd (let z : None ≡ Some k = sym (ap (option_map (λ k. 1 + k)) s) ∙ e in cc (z))
    go false (Some j) s e ih =
        ap (option_map (λ k. 1 + k)) (ih j s) ∙ sym (ap (option_map (λ k. 1 + k)) s) ∙ e

-- what is found along a list is found along a longer one
pub along_front : {A B : Type 0} (f : A → Option B) (xs ys : List A) (y : B) → along f xs ≡ Some y →
    along f (xs ++ ys) ≡ Some y
unfolding along
along_front f [] ys y e = absurd (cc (e))
along_front {A} {B} f (x ∷ xs) ys y e = go (f x) e (along_front f xs ys y)
  where
    go : (o : Option B) → (elim o as (λ _. Option B) [ None ↦ along f xs | Some z ↦ Some z ]) ≡ Some y →
        (along f xs ≡ Some y → along f (xs ++ ys) ≡ Some y) →
        (elim o as (λ _. Option B) [ None ↦ along f (xs ++ ys) | Some z ↦ Some z ]) ≡ Some y
    go None e ih = ih e
    go (Some z) e ih = e

-- the numbers from one on
pub in_numbers : {A : Type 0} (from k : ℕ) (xs : List A) → k < length xs →
    is_among (from + k) (numbers_from from xs) ≡ true
unfolding numbers_from
in_numbers from k [] l = absurd (omega (arith, l))
in_numbers from zero (x ∷ xs) l =
    (let same : from + 0 ≡ from = omega arith in
    or_left ((from + 0) == from) (is_among (from + 0) (numbers_from (from + 1) xs))
    (is_same_number (from + 0) from same))
in_numbers from (suc k) (x ∷ xs) l =
    let same : (from + 1) + k ≡ from + suc k = omega arith in
    or_right ((from + suc k) == from) (is_among (from + suc k) (numbers_from (from + 1) xs))
    (subst (λ n. is_among n (numbers_from (from + 1) xs) ≡ true) same
    (in_numbers (from + 1) k xs (omega (arith, l))))
