-- A schedule of one release that costs two operations, never above its own priority, stays within its row.
use Rattle.std.proofs.Common.{◌≡◌, ◌≤◌, ◌<◌, ◌+◌, ◌-◌, ℕ, zero, suc, true, false, List, [], ◌∷◌, ◌⊎◌, inl, inr, sym, ap, subst, arith}
use Rattle.std.proofs.lemmas.Bool.{cases_Bool}
use Rattle.response_bounds.specs.declared.rows.Declared.{Declared}
use Rattle.response_bounds.specs.Rows.{row_at}
use Rattle.response_bounds.specs.Schedule.{KeepsRows, Schedule, acts, operations, own}
use Rattle.response_bounds.specs.Sums.{one_if, sum_below}
use Rattle.response_bounds.proofs.SumLemmas.{sum_zero}

abbrev pub row : Declared
row = record { priority = 7; cost = 2; gap = 1000; section = 0; ceiling = 7 }

abbrev pub one_row : List Declared
one_row = row ∷ []

-- what is known of the schedule in its units before n
pub record IsSmall (n : ℕ) (c : Schedule) : Type 0 where
  pub places : c.places ≤ 1
  pub row_of : c.row_of 0 ≡ 0
  pub active : (s : ℕ) → s < n → c.active s 0 ≤ 7
  pub all : operations c 0 0 n ≤ 2
  pub left : (s p : ℕ) → s ≤ n → c.is_left s p ≡ true → (p ≡ 0) × (operations c 0 0 s < 2)

sum_more : (f : ℕ → ℕ) (s d : ℕ) → sum_below f s ≤ sum_below f (s + d)
unfolding sum_below
sum_more f s zero =
    let e : s + 0 ≡ s = omega arith in
    subst (λ k. sum_below f s ≤ sum_below f k) (sym e) (omega arith)
sum_more f s (suc d) =
    let e : s + suc d ≡ suc (s + d) = omega arith in
    let a : sum_below f s ≤ sum_below f (s + d) = sum_more f s d in
    subst (λ k. sum_below f s ≤ sum_below f k) (sym e) (omega (arith, a))

pub sum_upto : (f : ℕ → ℕ) (s n : ℕ) → s ≤ n → sum_below f s ≤ sum_below f n
sum_upto f s n l =
    let e : s + (n - s) ≡ n = omega (arith, l) in
    subst (λ k. sum_below f s ≤ sum_below f k) e (sum_more f s (n - s))

its_row : (c : Schedule) → c.row_of 0 ≡ 0 → row_at one_row (c.row_of 0) ≡ row
unfolding row_at
its_row c e = ap (row_at one_row) e

pub keeps_row : (n : ℕ) (c : Schedule) → IsSmall n c → KeepsRows one_row n c
keeps_row n c h =
    record {
      gaps = λ p q l u e. absurd (omega (arith, l, u, places));
      costs = λ p t l u. costs p t (none p l) u;
      open_costs = λ p t l e. left_costs p t (h.left t p l e);
      ceilings = λ t p l e. ceilings t p l (h.left t p (omega (arith, l)) e).0;
      sections = λ p a x l u k. sections p a x (none p l) u k;
    }
  where
    places : c.places ≤ 1
    places = h.places

    same : row_at one_row (c.row_of 0) ≡ row
    same = its_row c h.row_of

    none : (p : ℕ) → p < c.places → p ≡ 0
    none p l = omega (arith, l, places)

    costs : (p t : ℕ) → p ≡ 0 → t ≤ n → operations c p 0 t ≤ (row_at one_row (c.row_of p)).cost
    costs p t e l =
        subst (λ p. operations c p 0 t ≤ (row_at one_row (c.row_of p)).cost) (sym e)
        (subst (λ (r : Declared). operations c 0 0 t ≤ r.cost) (sym same) upto)
      where
        upto : operations c 0 0 t ≤ 2
        upto =
            let a : operations c 0 0 t ≤ operations c 0 0 n =
            sum_upto (λ k. one_if (acts c (0 + k) 0)) t n l in
            let b : operations c 0 0 n ≤ 2 = h.all in
            omega (arith, a, b)

    left_costs : (p t : ℕ) → (p ≡ 0) × (operations c 0 0 t < 2) → operations c p 0 t < (row_at one_row (c.row_of p)).cost
    left_costs p t r =
        subst (λ p. operations c p 0 t < (row_at one_row (c.row_of p)).cost) (sym r.0)
        (subst (λ (x : Declared). operations c 0 0 t < x.cost) (sym same) r.1)

    ceilings : (t p : ℕ) → t < n → p ≡ 0 → c.active t p ≤ (row_at one_row (c.row_of p)).ceiling
    ceilings t p l e =
        subst (λ p. c.active t p ≤ (row_at one_row (c.row_of p)).ceiling) (sym e)
        (subst (λ (x : Declared). c.active t 0 ≤ x.ceiling) (sym same) (h.active t l))

    sections : (p a x : ℕ) → p ≡ 0 → a + x ≤ n →
        ((k : ℕ) → k < x → acts c (a + k) p ≡ true → own one_row c p < c.active (a + k) p) →
        operations c p a x ≤ (row_at one_row (c.row_of p)).section
    sections p a x e u k =
        subst (λ p. operations c p a x ≤ (row_at one_row (c.row_of p)).section) (sym e)
        (subst (λ (r : Declared). operations c 0 a x ≤ r.section) (sym same) (none_raised (subst Raised e k)))
      where
        Raised : ℕ → Type 0
        Raised p = (k : ℕ) → k < x → acts c (a + k) p ≡ true → own one_row c p < c.active (a + k) p

        none_raised : Raised 0 → operations c 0 a x ≤ 0
        none_raised raised =
            let z : operations c 0 a x ≡ 0 =
            sum_zero (λ k. one_if (acts c (a + k) 0)) x (λ k l. each k l (cases_Bool (acts c (a + k) 0))) in
            omega (arith, z)
          where
            each : (k : ℕ) → k < x → (acts c (a + k) 0 ≡ true) ⊎ (acts c (a + k) 0 ≡ false) →
                one_if (acts c (a + k) 0) ≡ 0
            each k l (inr f) = ap one_if f
            each k l (inl f) =
                let low : c.active (a + k) 0 ≤ 7 = h.active (a + k) (omega (arith, u, l)) in
                let high : own one_row c 0 < c.active (a + k) 0 = raised k l f in
                let is : own one_row c 0 ≡ 7 = ap (λ (r : Declared). r.priority) same in
                absurd (omega (arith, low, high, is))
