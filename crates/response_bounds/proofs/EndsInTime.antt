-- The response times of a schedule: w(i, x) <= x makes x a bound.
use Rattle.std.proofs.Common.{◌≡◌, ℕ, ◌+◌, ◌≤◌, ◌<◌, Bool, true, false, ◌⊎◌, inl, inr, if◌then◌else◌, ap, arith, List, length}
use Rattle.std.specs.Prelude.{nat_lt}
use Rattle.std.proofs.lemmas.Bool.{cases_lt, cases_Bool}
use Rattle.response_bounds.specs.declared.rows.Declared.{Declared}
use Rattle.response_bounds.specs.Sums.{sum_below}
use Rattle.response_bounds.specs.Responses.{IsBound}
use Rattle.response_bounds.specs.Rows.{row_at, other_work, blocking, demand}
use Rattle.response_bounds.specs.Schedule.{Schedule, operations, own, Follows, KeepsRows, EndsInTime}
use Rattle.response_bounds.proofs.SumLemmas.{sum_le, sum_add}
use Rattle.response_bounds.specs.Periods.{IsOld, Period, low_work, high_work, low_operations, high_operations}
use Rattle.response_bounds.proofs.BusyPeriods.{BeginsBefore, begin_before, left_at, all_work}
use Rattle.response_bounds.proofs.Blocking.{blocked}
use Rattle.response_bounds.proofs.Interference.{interfered}

-- as many operations are done in a busy period as it has units, by those of lower priority or by others
pub worked : (rows : List Declared) (n : ℕ) (c : Schedule) (least t x : ℕ) → Follows rows n c →
    Period rows n c least t x → x ≤ low_operations rows c least t x + high_operations rows c least t x
worked rows n c least t x h period =
    let a : x ≤ sum_below (λ p. operations c p t x) c.places = all_work rows n c least t x h period in
    let b : sum_below (λ p. operations c p t x) c.places
    ≤ sum_below (λ p. low_work rows c least t x p + high_work rows c least t x p) c.places =
    sum_le (λ p. operations c p t x) (λ p. low_work rows c least t x p + high_work rows c least t x p) c.places
    (λ p k. parts (nat_lt (own rows c p) least) (operations c p t x)) in
    let d : sum_below (λ p. low_work rows c least t x p + high_work rows c least t x p) c.places
    ≡ low_operations rows c least t x + high_operations rows c least t x =
    sum_add (low_work rows c least t x) (high_work rows c least t x) c.places in
    omega (arith, a, b, d)
  where
    parts : (b : Bool) (w : ℕ) → w ≤ (if b then w else 0) + (if b then 0 else w)
    parts true w = omega arith
    parts false w = omega arith

-- no busy period for row i lasts as many units
pub period_ends : (rows : List Declared) (n : ℕ) (c : Schedule) (i t x : ℕ) → Follows rows n c → KeepsRows rows n c →
    ((j : ℕ) → j < length rows → 1 ≤ (row_at rows j).gap) → IsBound rows i x →
    Period rows n c (row_at rows i).priority t x → ⊥
unfolding demand
period_ends rows n c i t x h keeps gaps bound period =
    let from : 1 ≤ x = bound.from in
    let serves : demand rows i x ≤ x = bound.serves in
    let a : x ≤ low_operations rows c (row_at rows i).priority t x + high_operations rows c (row_at rows i).priority t x =
    worked rows n c (row_at rows i).priority t x h period in
    let e : low_operations rows c (row_at rows i).priority t x ≤ blocking rows i =
    blocked rows n c i t x h keeps period (omega (arith, from)) in
    let f : high_operations rows c (row_at rows i).priority t x < (row_at rows i).cost + other_work rows i x =
    interfered rows n c i t x h keeps gaps period from bound.upto in
    omega (arith, a, e, f, serves)

pub ends_in_time : (rows : List Declared) (n : ℕ) (c : Schedule) → Follows rows n c → KeepsRows rows n c →
    ((j : ℕ) → j < length rows → 1 ≤ (row_at rows j).gap) → EndsInTime rows n c
ends_in_time rows n c h keeps gaps i x p bound there of upto = go (cases_Bool (c.is_left (c.ready p + x) p))
  where
    go : (c.is_left (c.ready p + x) p ≡ true) ⊎ (c.is_left (c.ready p + x) p ≡ false) →
        c.is_left (c.ready p + x) p ≡ false
    go (inr e) = e
    go (inl e) =
        absurd (period_ends rows n c i b.t x h keeps gaps bound
        (record { upto = omega (arith, before, upto); begins = b.begins; busy = busy }))
      where
        b : BeginsBefore rows c (row_at rows i).priority (c.ready p)
        b = begin_before rows n c (row_at rows i).priority h (c.ready p) (omega (arith, upto))

        before : b.t ≤ c.ready p
        before = b.upto

        busy : (s : ℕ) → b.t < s → s ≤ b.t + x → IsOld rows c (row_at rows i).priority s
        busy s l u = by (cases_lt (c.ready p) s)
          where
            high : (row_at rows i).priority ≤ own rows c p
            high = let a : own rows c p ≡ (row_at rows i).priority = ap (λ j. (row_at rows j).priority) of in omega (arith, a)

            by : (c.ready p < s) ⊎ (s ≤ c.ready p) → IsOld rows c (row_at rows i).priority s
            by (inr k) = b.busy s l k
            by (inl k) =
                record {
                  q = p;
                  is_there = there;
                  is_high = high;
                  is_left = left_at rows n c h s (c.ready p + x) p (omega (arith, u, before)) upto e (omega (arith, k));
                  is_old = k;
                }
