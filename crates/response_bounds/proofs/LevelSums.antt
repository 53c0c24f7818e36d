-- Further laws of sums and greatest values below a number.
use Rattle.std.proofs.Common.{◌≡◌, ℕ, zero, suc, ◌+◌, ◌≤◌, ◌<◌, ◌⊎◌, inl, inr, refl, ap, subst, arith}
use Rattle.std.proofs.lemmas.Bool.{cases_eq}
use Rattle.response_bounds.specs.Sums.{sum_below, max_below}
use Rattle.response_bounds.proofs.SumLemmas.{sum_le}

sum_same : (f g : ℕ → ℕ) (n : ℕ) → ((k : ℕ) → k < n → f k ≡ g k) → sum_below f n ≡ sum_below g n
unfolding sum_below
sum_same f g zero h = refl
sum_same f g (suc n) h =
    let a : sum_below f n ≡ sum_below g n = sum_same f g n (λ k l. h k (omega (arith, l))) in
    let b : f n ≡ g n = h n (omega arith) in
    omega (arith, a, b)

-- a sum is one of its terms and the sum of the others
pub sum_without : (f g : ℕ → ℕ) (n q : ℕ) → q < n → g q ≡ 0 → ((k : ℕ) → (k ≡ q → ⊥) → f k ≡ g k) →
    sum_below f n ≡ f q + sum_below g n
unfolding sum_below
sum_without f g zero q l z h = absurd (omega (arith, l))
sum_without f g (suc n) q l z h = go (λ less. sum_without f g n q less z h) (cases_eq q n)
  where
    go : (q < n → sum_below f n ≡ f q + sum_below g n) → (q ≡ n) ⊎ (q ≡ n → ⊥) →
        sum_below f n + f n ≡ f q + (sum_below g n + g n)
    go more (inl e) =
        let a : sum_below f n ≡ sum_below g n = sum_same f g n (λ k m. h k (λ s. absurd (omega (arith, m, s, e)))) in
        let b : f q ≡ f n = ap f e in
        let d : g q ≡ g n = ap g e in
        omega (arith, a, b, d, z)
    go more (inr e) =
        let a : sum_below f n ≡ f q + sum_below g n = more (omega (arith, e, l)) in
        let b : f n ≡ g n = h n (λ s. absurd (omega (arith, s, e))) in
        omega (arith, a, b)

-- where one term is greater by b, so is the sum
pub sum_more : (f g : ℕ → ℕ) (b n q : ℕ) → ((k : ℕ) → k < n → f k ≤ g k) → q < n → f q + b ≤ g q →
    sum_below f n + b ≤ sum_below g n
unfolding sum_below
sum_more f g b zero q h l m = absurd (omega (arith, l))
sum_more f g b (suc n) q h l m = go (λ less. sum_more f g b n q (λ k l. h k (omega (arith, l))) less m) (cases_eq q n)
  where
    go : (q < n → sum_below f n + b ≤ sum_below g n) → (q ≡ n) ⊎ (q ≡ n → ⊥) →
        sum_below f n + f n + b ≤ sum_below g n + g n
    go more (inl e) =
        let a : sum_below f n ≤ sum_below g n = sum_le f g n (λ k l. h k (omega (arith, l))) in
        let d : f n + b ≤ g n = subst (λ j. f j + b ≤ g j) e m in
        omega (arith, a, d)
    go more (inr e) =
        let a : sum_below f n + b ≤ sum_below g n = more (omega (arith, e, l)) in
        let d : f n ≤ g n = h n (omega arith) in
        omega (arith, a, d)

-- where each value fits beside w, so does the greatest one
pub max_fits : (f : ℕ → ℕ) (w d n : ℕ) → w ≤ d → ((k : ℕ) → k < n → f k + w ≤ d) → max_below f n + w ≤ d
unfolding max_below
max_fits f w d zero l h = omega (arith, l)
max_fits f w d (suc n) l h =
    let a : max_below f n + w ≤ d = max_fits f w d n l (λ k m. h k (omega (arith, m))) in
    let b : f n + w ≤ d = h n (omega arith) in
    omega (arith, a, b)
