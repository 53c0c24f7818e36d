-- Busy periods: one begins before each unit, and in it one acts in each unit.
use Rattle.std.proofs.Common.{◌≡◌, ℕ, zero, suc, ◌+◌, ◌-◌, ◌≤◌, ◌<◌, ◌==◌, Bool, true, false, not, ◌&&◌, ◌⊎◌, inl, inr, Option, Some, None, refl, sym, ap, ◌∙◌, subst, arith, List}
use Rattle.std.specs.Prelude.{nat_lt}
use Rattle.std.proofs.lemmas.Bool.{cases_eq, and_parts}
use Rattle.std.proofs.lemmas.Bool.Decides.{nat_tests}
use Rattle.response_bounds.specs.declared.rows.Declared.{Declared}
use Rattle.response_bounds.specs.Sums.{sum_below, one_if}
use Rattle.response_bounds.specs.Periods.{IsOld, Begins, Period}
use Rattle.response_bounds.specs.Schedule.{Schedule, acts, operations, own, Follows}
use Rattle.response_bounds.proofs.SumLemmas.{sum_le, sum_at, sum_swap, find_below}

test_old : List Declared → Schedule → ℕ → ℕ → ℕ → Bool
test_old rows c least s q = not (nat_lt (own rows c q) least) && (c.is_left s q && nat_lt (c.ready q) s)

tested : (a l r s : ℕ) (b : Bool) → (not (nat_lt a l) && (b && nat_lt r s)) ≡ true →
    (l ≤ a) × (b ≡ true) × (r < s)
tested a l r s b e =
    let x : (not (nat_lt a l) ≡ true) × ((b && nat_lt r s) ≡ true) = and_parts _ _ e in
    let y : (b ≡ true) × (nat_lt r s ≡ true) = and_parts _ _ x.1 in
    let u : not (nat_lt a l) ≡ true = x.0 in
    let v : nat_lt r s ≡ true = y.1 in
    (grind (arith, nat_tests), y.0, grind (arith, nat_tests))

untested : (a l r s : ℕ) (b : Bool) → (not (nat_lt a l) && (b && nat_lt r s)) ≡ false → l ≤ a → b ≡ true → s ≤ r
untested a l r s b e h f = grind (arith, nat_tests)

-- the busy period in which a unit lies
pub record BeginsBefore (rows : List Declared) (c : Schedule) (least r : ℕ) : Type 0 where
  pub t : ℕ
  pub upto : t ≤ r
  pub begins : Begins rows c least t
  pub busy : (s : ℕ) → t < s → s ≤ r → IsOld rows c least s

pub begin_before : (rows : List Declared) (n : ℕ) (c : Schedule) (least : ℕ) → Follows rows n c → (r : ℕ) → r ≤ n →
    BeginsBefore rows c least r
unfolding test_old
begin_before rows n c least h zero to =
    record {
      t = 0;
      upto = omega arith;
      begins = record { is = λ q l e. omega arith };
      busy = λ s a b. absurd (omega (arith, a, b));
    }
begin_before rows n c least h (suc r) to =
    go (begin_before rows n c least h r (omega (arith, to))) (find_below (test_old rows c least (suc r)) c.places)
  where
    go : BeginsBefore rows c least r →
        ((q : ℕ) × (q < c.places) × (test_old rows c least (suc r) q ≡ true))
        ⊎ ((q : ℕ) → q < c.places → test_old rows c least (suc r) q ≡ false) → BeginsBefore rows c least (suc r)
    go b (inl f) =
        let u : b.t ≤ r = b.upto in
        record {
          t = b.t;
          upto = omega (arith, u);
          begins = b.begins;
          busy = λ s a e. each s a e (cases_eq s (suc r));
        }
      where
        each : (s : ℕ) → b.t < s → s ≤ suc r → (s ≡ suc r) ⊎ (s ≡ suc r → ⊥) → IsOld rows c least s
        each s a e (inl same) =
            let x : (least ≤ own rows c f.0) × (c.is_left (suc r) f.0 ≡ true) × (c.ready f.0 < suc r) =
            tested (own rows c f.0) least (c.ready f.0) (suc r) (c.is_left (suc r) f.0) f.2 in
            subst (λ t. IsOld rows c least t) (sym same)
            (record { q = f.0; is_there = f.1; is_high = x.0; is_left = x.1; is_old = x.2 })
        each s a e (inr other) = b.busy s a (omega (arith, e, other))
    go b (inr none) =
        record {
          t = suc r;
          upto = omega arith;
          begins = record {
            is = λ q l e. untested (own rows c q) least (c.ready q) (suc r) (c.is_left (suc r) q)
                (none q (h.is_there (suc r) q to e)) l e;
          };
          busy = λ s a b. absurd (omega (arith, a, b));
        }

-- who is left was left in each unit since it was ready
pub left_since : (rows : List Declared) (n : ℕ) (c : Schedule) → Follows rows n c → (d t p : ℕ) → t + d ≤ n →
    c.is_left (t + d) p ≡ true → c.ready p ≤ t → c.is_left t p ≡ true
left_since rows n c h zero t p u e l =
    let same : t + 0 ≡ t = omega arith in
    subst (λ s. c.is_left s p ≡ true) same e
left_since rows n c h (suc d) t p u e l =
    let same : t + suc d ≡ (t + d) + 1 = omega arith in
    left_since rows n c h d t p (omega (arith, u))
    (h.stays (t + d) p (omega (arith, u)) (subst (λ s. c.is_left s p ≡ true) same e) (omega (arith, l))) l

pub left_at : (rows : List Declared) (n : ℕ) (c : Schedule) → Follows rows n c → (t s p : ℕ) → t ≤ s → s ≤ n →
    c.is_left s p ≡ true → c.ready p ≤ t → c.is_left t p ≡ true
left_at rows n c h t s p a u e l =
    let same : s ≡ t + (s - t) = omega (arith, a) in
    left_since rows n c h (s - t) t p (omega (arith, a, u)) (subst (λ k. c.is_left k p ≡ true) same e) l

-- in each of its units one of at least this priority is left
pub record IsHigh (rows : List Declared) (c : Schedule) (least s : ℕ) : Type 0 where
  pub q : ℕ
  pub is_there : q < c.places
  pub is_high : least ≤ own rows c q
  pub is_left : c.is_left s q ≡ true

pub high_left : (rows : List Declared) (n : ℕ) (c : Schedule) (least t x : ℕ) → Follows rows n c →
    Period rows n c least t x → (k : ℕ) → k < x → IsHigh rows c least (t + k)
high_left rows n c least t x h period k l =
    let old : IsOld rows c least (t + k + 1) = period.busy (t + k + 1) (omega arith) (omega (arith, l)) in
    let u : t + x ≤ n = period.upto in
    let before : c.ready old.q < t + k + 1 = old.is_old in
    record {
      q = old.q;
      is_there = old.is_there;
      is_high = old.is_high;
      is_left = h.stays (t + k) old.q (omega (arith, u, l)) old.is_left (omega (arith, before));
    }

-- who acts in it has at least this active priority
pub urgent : (rows : List Declared) (n : ℕ) (c : Schedule) (least t x : ℕ) → Follows rows n c →
    Period rows n c least t x → (k p : ℕ) → k < x → acts c (t + k) p ≡ true → least ≤ c.active (t + k) p
urgent rows n c least t x h period k p l e =
    let q : IsHigh rows c least (t + k) = high_left rows n c least t x h period k l in
    let u : t + x ≤ n = period.upto in
    let a : least ≤ own rows c q.q = q.is_high in
    let b : own rows c q.q ≤ c.active (t + k) q.q = h.at_least (t + k) q.q (omega (arith, u, l)) q.is_left in
    let d : c.active (t + k) q.q ≤ c.active (t + k) p =
    h.greatest (t + k) p q.q (omega (arith, u, l)) e q.is_left in
    omega (arith, a, b, d)

self_equal : (q : ℕ) → (q == q) ≡ true
self_equal q = grind (arith, nat_tests)

-- no unit of it is idle
pub one_acts : (rows : List Declared) (n : ℕ) (c : Schedule) (least t x : ℕ) → Follows rows n c →
    Period rows n c least t x → (k : ℕ) → k < x → (p : ℕ) × (p < c.places) × (acts c (t + k) p ≡ true)
one_acts rows n c least t x h period k l =
    let q : IsHigh rows c least (t + k) = high_left rows n c least t x h period k l in
    let u : t + x ≤ n = period.upto in
    let v : t + k < n = omega (arith, u, l) in
    let a : (p : ℕ) × (c.actor (t + k) ≡ Some p) = h.someone (t + k) q.q v q.is_left in
    let e : acts c (t + k) a.0 ≡ true =
    ap (λ (o : Option ℕ). elim o as (λ z. Bool) [ None ↦ false | Some r ↦ r == a.0 ]) a.1 ∙ self_equal a.0 in
    (a.0, h.is_there (t + k) a.0 (omega (arith, v)) (h.acts_left (t + k) a.0 v e), e)

sum_ones : (x : ℕ) → sum_below (λ k. 1) x ≡ x
unfolding sum_below
sum_ones zero = refl
sum_ones (suc x) = let a : sum_below (λ k. 1) x ≡ x = sum_ones x in omega (arith, a)

-- so as many operations are done in it as it has units
pub all_work : (rows : List Declared) (n : ℕ) (c : Schedule) (least t x : ℕ) → Follows rows n c →
    Period rows n c least t x → x ≤ sum_below (λ p. operations c p t x) c.places
all_work rows n c least t x h period =
    let f : ℕ → ℕ → ℕ = λ p k. one_if (acts c (t + k) p) in
    let a : sum_below (λ p. sum_below (f p) x) c.places ≡ sum_below (λ k. sum_below (λ p. f p k) c.places) x =
    sum_swap f c.places x in
    let b : sum_below (λ k. 1) x ≤ sum_below (λ k. sum_below (λ p. f p k) c.places) x =
    sum_le (λ k. 1) (λ k. sum_below (λ p. f p k) c.places) x (λ k l. one k (one_acts rows n c least t x h period k l)) in
    let e : sum_below (λ k. 1) x ≡ x = sum_ones x in
    omega (arith, a, b, e)
  where
    one : (k : ℕ) → (p : ℕ) × (p < c.places) × (acts c (t + k) p ≡ true) →
        1 ≤ sum_below (λ p. one_if (acts c (t + k) p)) c.places
    one k r =
        let a : one_if (acts c (t + k) r.0) ≤ sum_below (λ p. one_if (acts c (t + k) p)) c.places =
        sum_at (λ p. one_if (acts c (t + k) p)) c.places r.0 r.1 in
        let b : one_if (acts c (t + k) r.0) ≡ 1 = ap one_if r.2 in
        omega (arith, a, b)
