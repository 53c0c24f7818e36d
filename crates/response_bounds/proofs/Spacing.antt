-- How many releases that lie a gap apart are ready in an interval.
use Rattle.std.proofs.Common.{◌≡◌, ℕ, zero, suc, ◌+◌, ◌*◌, ◌≤◌, ◌<◌, Bool, true, false, ◌⊎◌, inl, inr, refl, sym, ap, subst, arith}
use Rattle.std.proofs.lemmas.Bool.{cases_Bool}
use Rattle.std.proofs.Math.Nat.{add-mul, le-div_iff_mul-le}
use Rattle.response_bounds.specs.Sums.{sum_below, one_if, count_below}
use Rattle.response_bounds.specs.Rows.{releases_within}

-- the last number that passes lies so many gaps after the start
abbrev LastIsFar : (ℕ → Bool) → (ℕ → ℕ) → ℕ → ℕ → ℕ → Type 0
LastIsFar test ready g t0 n =
    (p : ℕ) × (p < n) × (test p ≡ true) × (t0 + count_below test n * g ≤ ready p + g)

last_is_far : (test : ℕ → Bool) (ready : ℕ → ℕ) (g t0 n : ℕ) →
    ((p q : ℕ) → p < q → q < n → test p ≡ true → test q ≡ true → ready p + g ≤ ready q) →
    ((p : ℕ) → p < n → test p ≡ true → t0 ≤ ready p) →
    (count_below test n ≡ 0) ⊎ LastIsFar test ready g t0 n
unfolding sum_below
last_is_far test ready g t0 zero apart after = inl refl
last_is_far test ready g t0 (suc n) apart after =
    go (last_is_far test ready g t0 n (λ p q l m. apart p q l (omega (arith, m))) (λ p l. after p (omega (arith, l))))
    (cases_Bool (test n))
  where
    go : (count_below test n ≡ 0) ⊎ LastIsFar test ready g t0 n → (test n ≡ true) ⊎ (test n ≡ false) →
        (count_below test n + one_if (test n) ≡ 0) ⊎
        ((p : ℕ) × (p < suc n) × (test p ≡ true) ×
        (t0 + (count_below test n + one_if (test n)) * g ≤ ready p + g))
    go (inl e) (inr f) =
        let z : one_if (test n) ≡ 0 = ap one_if f in
        inl (omega (arith, e, z))
    go (inr r) (inr f) =
        let z : one_if (test n) ≡ 0 = ap one_if f in
        let l : r.0 < n = r.1 in
        let same : count_below test n + one_if (test n) ≡ count_below test n = omega (arith, z) in
        inr (r.0, omega (arith, l), r.2, subst (λ c. t0 + c * g ≤ ready r.0 + g) (sym same) r.3)
    go (inl e) (inl f) =
        let z : one_if (test n) ≡ 1 = ap one_if f in
        let same : count_below test n + one_if (test n) ≡ 1 = omega (arith, e, z) in
        let a : t0 ≤ ready n = after n (omega arith) f in
        inr (n, omega arith, f, subst (λ c. t0 + c * g ≤ ready n + g) (sym same) (omega (arith, a)))
    go (inr r) (inl f) =
        let z : one_if (test n) ≡ 1 = ap one_if f in
        let l : r.0 < n = r.1 in
        let far : t0 + count_below test n * g ≤ ready r.0 + g = r.3 in
        let a : ready r.0 + g ≤ ready n = apart r.0 n l (omega arith) r.2 f in
        let same : count_below test n + one_if (test n) ≡ count_below test n + 1 = omega (arith, z) in
        let more : (count_below test n + 1) * g ≡ count_below test n * g + 1 * g = add-mul (count_below test n) 1 g in
        inr (n, omega arith, f, subst (λ c. t0 + c * g ≤ ready n + g) (sym same) (omega (arith, far, a, more)))

pub few_within : (test : ℕ → Bool) (ready : ℕ → ℕ) (g t0 x n : ℕ) → 1 ≤ g →
    ((p q : ℕ) → p < q → q < n → test p ≡ true → test q ≡ true → ready p + g ≤ ready q) →
    ((p : ℕ) → p < n → test p ≡ true → t0 ≤ ready p) →
    ((p : ℕ) → p < n → test p ≡ true → ready p < t0 + x) → count_below test n ≤ releases_within x g
few_within test ready g t0 x n some apart after before = go (last_is_far test ready g t0 n apart after)
  where
    go : (count_below test n ≡ 0) ⊎ LastIsFar test ready g t0 n → count_below test n ≤ releases_within x g
    go (inl e) = omega (arith, e)
    go (inr r) =
        let far : t0 + count_below test n * g ≤ ready r.0 + g = r.3 in
        let near : ready r.0 < t0 + x = before r.0 r.1 r.2 in
        (le-div_iff_mul-le some).1 (omega (arith, far, near, some))
