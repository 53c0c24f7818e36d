-- Laws of sums and greatest values below a number.
use Rattle.std.proofs.Common.{◌≡◌, ℕ, zero, suc, ◌+◌, ◌*◌, ◌≤◌, ◌<◌, max, Bool, true, false, ◌⊎◌, inl, inr, refl, sym, ap, ◌∙◌, subst, arith}
use Rattle.std.proofs.lemmas.Bool.{cases_eq, cases_Bool}
use Rattle.response_bounds.specs.Sums.{sum_below, max_below}

pub sum_le : (f g : ℕ → ℕ) (n : ℕ) → ((k : ℕ) → k < n → f k ≤ g k) → sum_below f n ≤ sum_below g n
unfolding sum_below
sum_le f g zero h = omega arith
sum_le f g (suc n) h =
    let a : sum_below f n ≤ sum_below g n = sum_le f g n (λ k l. h k (omega (arith, l))) in
    let b : f n ≤ g n = h n (omega arith) in
    omega (arith, a, b)

pub sum_lt : (f g : ℕ → ℕ) (n q : ℕ) → ((k : ℕ) → k < n → f k ≤ g k) → q < n → f q < g q →
    sum_below f n < sum_below g n
unfolding sum_below
sum_lt f g zero q h l m = absurd (omega (arith, l))
sum_lt f g (suc n) q h l m = go (λ less. sum_lt f g n q (λ k l. h k (omega (arith, l))) less m) (cases_eq q n)
  where
    go : (q < n → sum_below f n < sum_below g n) → (q ≡ n) ⊎ (q ≡ n → ⊥) → sum_below f n + f n < sum_below g n + g n
    go more (inl e) =
        let a : sum_below f n ≤ sum_below g n = sum_le f g n (λ k l. h k (omega (arith, l))) in
        let b : f n < g n = subst (λ j. f j < g j) e m in
        omega (arith, a, b)
    go more (inr e) =
        let a : sum_below f n < sum_below g n = more (omega (arith, e, l)) in
        let b : f n ≤ g n = h n (omega arith) in
        omega (arith, a, b)

pub sum_zero : (f : ℕ → ℕ) (n : ℕ) → ((k : ℕ) → k < n → f k ≡ 0) → sum_below f n ≡ 0
unfolding sum_below
sum_zero f zero h = refl
sum_zero f (suc n) h =
    let a : sum_below f n ≡ 0 = sum_zero f n (λ k l. h k (omega (arith, l))) in
    let b : f n ≡ 0 = h n (omega arith) in
    omega (arith, a, b)

pub sum_at : (f : ℕ → ℕ) (n q : ℕ) → q < n → f q ≤ sum_below f n
unfolding sum_below
sum_at f zero q l = absurd (omega (arith, l))
sum_at f (suc n) q l = go (sum_at f n q) (cases_eq q n)
  where
    go : (q < n → f q ≤ sum_below f n) → (q ≡ n) ⊎ (q ≡ n → ⊥) → f q ≤ sum_below f n + f n
    go more (inl e) = let b : f q ≡ f n = ap f e in omega (arith, b)
    go more (inr e) = let a : f q ≤ sum_below f n = more (omega (arith, e, l)) in omega (arith, a)

pub sum_add : (f g : ℕ → ℕ) (n : ℕ) → sum_below (λ k. f k + g k) n ≡ sum_below f n + sum_below g n
unfolding sum_below
sum_add f g zero = refl
sum_add f g (suc n) =
    let a : sum_below (λ k. f k + g k) n ≡ sum_below f n + sum_below g n = sum_add f g n in
    omega (arith, a)

pub sum_swap : (f : ℕ → ℕ → ℕ) (n m : ℕ) →
    sum_below (λ p. sum_below (f p) m) n ≡ sum_below (λ k. sum_below (λ p. f p k) n) m
unfolding sum_below
sum_swap f zero m = sym (sum_zero (λ k. 0) m (λ k l. refl))
sum_swap f (suc n) m =
    let a : sum_below (λ p. sum_below (f p) m) n ≡ sum_below (λ k. sum_below (λ p. f p k) n) m = sum_swap f n m in
    let b : sum_below (λ k. sum_below (λ p. f p k) n + f n k) m ≡
    sum_below (λ k. sum_below (λ p. f p k) n) m + sum_below (f n) m =
    sum_add (λ k. sum_below (λ p. f p k) n) (f n) m in
    omega (arith, a, b)

pub sum_scale : (f : ℕ → ℕ) (c n : ℕ) → sum_below (λ k. f k * c) n ≡ sum_below f n * c
unfolding sum_below
sum_scale f c zero = omega arith
sum_scale f c (suc n) =
    let a : sum_below (λ k. f k * c) n ≡ sum_below f n * c = sum_scale f c n in
    grind (arith, a)

-- at most one of them is not 0
pub sum_single : (f : ℕ → ℕ) (b n : ℕ) → ((k : ℕ) → k < n → f k ≤ b) →
    ((k j : ℕ) → k < j → j < n → 0 < f k → 0 < f j → ⊥) → sum_below f n ≤ b
unfolding sum_below
sum_single f b zero h one = omega arith
sum_single f b (suc n) h one =
    go (sum_single f b n (λ k l. h k (omega (arith, l))) (λ k j l m. one k j l (omega (arith, m)))) (cases_eq (f n) 0)
  where
    go : sum_below f n ≤ b → (f n ≡ 0) ⊎ (f n ≡ 0 → ⊥) → sum_below f n + f n ≤ b
    go a (inl e) = omega (arith, a, e)
    go a (inr e) =
        let some : 0 < f n = omega (arith, e) in
        let none : sum_below f n ≡ 0 = sum_zero f n (λ k l. zero_from k l some) in
        let c : f n ≤ b = h n (omega arith) in
        omega (arith, none, c)
      where
        zero_from : (k : ℕ) → k < n → 0 < f n → f k ≡ 0
        zero_from k l some = by (cases_eq (f k) 0)
          where
            by : (f k ≡ 0) ⊎ (f k ≡ 0 → ⊥) → f k ≡ 0
            by (inl z) = z
            by (inr z) = absurd (one k n l (omega arith) (omega (arith, z)) some)

-- a sum that is not 0 has a term that is not
pub sum_some : (f : ℕ → ℕ) (n : ℕ) → 0 < sum_below f n → (k : ℕ) × (k < n) × (0 < f k)
unfolding sum_below
sum_some f zero h = absurd (omega (arith, h))
sum_some f (suc n) h = go (sum_some f n) (cases_eq (f n) 0)
  where
    go : (0 < sum_below f n → (k : ℕ) × (k < n) × (0 < f k)) → (f n ≡ 0) ⊎ (f n ≡ 0 → ⊥) →
        (k : ℕ) × (k < suc n) × (0 < f k)
    go more (inl e) =
        let r : (k : ℕ) × (k < n) × (0 < f k) = more (omega (arith, e, h)) in
        let l : r.0 < n = r.1 in
        (r.0, omega (arith, l), r.2)
    go more (inr e) = (n, omega arith, omega (arith, e))

pub max_at : (f : ℕ → ℕ) (n q : ℕ) → q < n → f q ≤ max_below f n
unfolding max_below
max_at f zero q l = absurd (omega (arith, l))
max_at f (suc n) q l = go (max_at f n q) (cases_eq q n)
  where
    go : (q < n → f q ≤ max_below f n) → (q ≡ n) ⊎ (q ≡ n → ⊥) → f q ≤ max (max_below f n) (f n)
    go more (inl e) = let b : f q ≡ f n = ap f e in omega (arith, b)
    go more (inr e) = let a : f q ≤ max_below f n = more (omega (arith, e, l)) in omega (arith, a)

-- the first, or none, that passes
pub find_below : (test : ℕ → Bool) (n : ℕ) →
    ((q : ℕ) × (q < n) × (test q ≡ true)) ⊎ ((q : ℕ) → q < n → test q ≡ false)
find_below test zero = inr (λ q l. absurd (omega (arith, l)))
find_below test (suc n) = go (find_below test n) (cases_Bool (test n))
  where
    go : (((q : ℕ) × (q < n) × (test q ≡ true)) ⊎ ((q : ℕ) → q < n → test q ≡ false)) →
        (test n ≡ true) ⊎ (test n ≡ false) →
        ((q : ℕ) × (q < suc n) × (test q ≡ true)) ⊎ ((q : ℕ) → q < suc n → test q ≡ false)
    go (inl r) b = inl (r.0, omega (arith, r.1), r.2)
    go (inr r) (inl b) = inl (n, omega arith, b)
    go (inr r) (inr b) = inr (λ q l. each q l (cases_eq q n))
      where
        each : (q : ℕ) → q < suc n → (q ≡ n) ⊎ (q ≡ n → ⊥) → test q ≡ false
        each q l (inl e) = ap test e ∙ b
        each q l (inr e) = r q (omega (arith, e, l))
