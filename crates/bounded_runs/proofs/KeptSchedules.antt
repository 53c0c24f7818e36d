-- What few facts of a schedule show that it keeps its rows: of each release the number of its operations, and of those
-- above its own priority.
use Rattle.std.proofs.Common.{◌≡◌, ◌≤◌, ◌<◌, ◌+◌, ℕ, zero, suc, Bool, true, false, ◌&&◌, List, ◌⊎◌, inl, inr, refl, sym, ap, ◌∙◌, subst, arith}
use Rattle.std.specs.Prelude.{nat_lt}
use Rattle.std.proofs.lemmas.Bool.{cases_Bool}
use Rattle.std.proofs.lemmas.Bool.Decides.{nat_tests}
use Rattle.response_bounds.specs.declared.rows.Declared.{Declared}
use Rattle.response_bounds.specs.Rows.{row_at}
use Rattle.response_bounds.specs.Schedule.{KeepsRows, Schedule, acts, operations, own}
use Rattle.response_bounds.specs.Sums.{one_if, sum_below}
use Rattle.response_bounds.proofs.SumLemmas.{sum_le}
use Rattle.bounded_runs.proofs.OneRelease.{sum_upto}

-- a release acts above its own priority
abbrev pub is_raised : List Declared → Schedule → ℕ → ℕ → Bool
is_raised rows c p k = acts c k p && nat_lt (own rows c p) (c.active k p)

-- what is known of the schedule in its units before n
pub record HasFacts (rows : List Declared) (n : ℕ) (c : Schedule) : Type 0 where
  pub there : (t p : ℕ) → t ≤ n → c.is_left t p ≡ true → p < c.places
  pub apart : (p q : ℕ) → p < q → q < c.places → c.row_of p ≡ c.row_of q → ⊥
  pub all : (p : ℕ) → p < c.places → sum_below (λ k. one_if (acts c k p)) n < (row_at rows (c.row_of p)).cost
  pub ceiling : (t p : ℕ) → t < n → p < c.places → c.active t p ≤ (row_at rows (c.row_of p)).ceiling
  pub raised : (p : ℕ) → p < c.places →
      sum_below (λ k. one_if (is_raised rows c p k)) n ≤ (row_at rows (c.row_of p)).section

-- sums of the same numbers
pub sum_same : (f g : ℕ → ℕ) (n : ℕ) → ((k : ℕ) → f k ≡ g k) → sum_below f n ≡ sum_below g n
unfolding sum_below
sum_same f g zero h = refl
sum_same f g (suc n) h =
    let a : sum_below f n ≡ sum_below g n = sum_same f g n h in
    let b : f n ≡ g n = h n in
    omega (arith, a, b)

-- the sum over a window is part of the one up to its end
window : (f : ℕ → ℕ) (a x : ℕ) → sum_below (λ k. f (a + k)) x ≤ sum_below f (a + x)
unfolding sum_below
window f a zero = omega arith
window f a (suc x) =
    let e : a + suc x ≡ suc (a + x) = omega arith in
    let l : sum_below (λ k. f (a + k)) x ≤ sum_below f (a + x) = window f a x in
    let m : sum_below (λ k. f (a + k)) x + f (a + x) ≤ sum_below f (a + x) + f (a + x) = omega (arith, l) in
    subst (λ (m : ℕ). sum_below (λ k. f (a + k)) x + f (a + x) ≤ sum_below f m) (sym e) m

pub keeps_rows : (rows : List Declared) (n : ℕ) (c : Schedule) → HasFacts rows n c → KeepsRows rows n c
keeps_rows rows n c h =
    record {
      gaps = λ p q l u e. absurd (h.apart p q l u e);
      costs = λ p t l u.
          (let a = h.all p l in
          let b = upto p t u in
          omega (arith, a, b));
      open_costs = λ p t l e.
          (let a = h.all p (h.there t p l e) in
          let b = upto p t l in
          omega (arith, a, b));
      ceilings = λ t p l e. h.ceiling t p l (h.there t p (omega (arith, l)) e);
      sections = λ p a x l u k.
          (let r = h.raised p l in
          let s = sections p a x u k in
          omega (arith, r, s));
    }
  where
    from_0 : (k : ℕ) → 0 + k ≡ k
    from_0 k = omega arith

    upto : (p t : ℕ) → t ≤ n → operations c p 0 t ≤ sum_below (λ k. one_if (acts c k p)) n
    upto p t l =
        let a : operations c p 0 t ≡ sum_below (λ k. one_if (acts c k p)) t =
        sum_same _ _ t (λ k. ap (λ (j : ℕ). one_if (acts c j p)) (from_0 k)) in
        let b = sum_upto (λ k. one_if (acts c k p)) t n l in
        omega (arith, a, b)

    each : (p a x k : ℕ) → (acts c (a + k) p ≡ true → own rows c p < c.active (a + k) p) →
        (acts c (a + k) p ≡ true) ⊎ (acts c (a + k) p ≡ false) →
        one_if (acts c (a + k) p) ≤ one_if (is_raised rows c p (a + k))
    each p a x k above (inr f) =
        let z : one_if (acts c (a + k) p) ≡ 0 = ap one_if f in
        omega (arith, z)
    each p a x k above (inl f) =
        let l : own rows c p < c.active (a + k) p = above f in
        let b : nat_lt (own rows c p) (c.active (a + k) p) ≡ true = grind (arith, nat_tests, l) in
        let e : is_raised rows c p (a + k) ≡ true =
        ap (λ (t : Bool). t && nat_lt (own rows c p) (c.active (a + k) p)) f ∙ b in
        let y : one_if (acts c (a + k) p) ≡ 1 = ap one_if f in
        let z : one_if (is_raised rows c p (a + k)) ≡ 1 = ap one_if e in
        omega (arith, y, z)

    sections : (p a x : ℕ) → a + x ≤ n →
        ((k : ℕ) → k < x → acts c (a + k) p ≡ true → own rows c p < c.active (a + k) p) →
        operations c p a x ≤ sum_below (λ k. one_if (is_raised rows c p k)) n
    sections p a x u above =
        let b : operations c p a x ≤ sum_below (λ k. one_if (is_raised rows c p (a + k))) x =
        sum_le _ _ x (λ k l. each p a x k (above k l) (cases_Bool (acts c (a + k) p))) in
        let w : sum_below (λ k. one_if (is_raised rows c p (a + k))) x ≤ sum_below (λ k. one_if (is_raised rows c p k)) (a + x) =
        window (λ k. one_if (is_raised rows c p k)) a x in
        let v : sum_below (λ k. one_if (is_raised rows c p k)) (a + x) ≤ sum_below (λ k. one_if (is_raised rows c p k)) n =
        sum_upto (λ k. one_if (is_raised rows c p k)) (a + x) n u in
        omega (arith, b, w, v)
