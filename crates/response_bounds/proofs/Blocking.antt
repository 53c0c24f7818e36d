-- In a busy period the releases of lower priority do at most B(i) operations: one of them alone does any, the one whose
-- active priority was raised when the period began, and these lie in one stretch.
use Rattle.std.proofs.Common.{◌≡◌, ℕ, zero, suc, ◌+◌, ◌≤◌, ◌<◌, Bool, true, false, not, ◌&&◌, ◌⊎◌, inl, inr, if◌then◌else◌, refl, sym, ap, subst, arith, List, length}
use Rattle.std.specs.Prelude.{nat_lt}
use Rattle.std.proofs.lemmas.Bool.{cases_eq, cases_lt, cases_Bool}
use Rattle.std.proofs.lemmas.Bool.Decides.{nat_tests}
use Rattle.response_bounds.specs.declared.rows.Declared.{Declared}
use Rattle.response_bounds.specs.Sums.{max_below, one_if}
use Rattle.response_bounds.specs.Rows.{row_at, section_over, blocking}
use Rattle.response_bounds.specs.Schedule.{Schedule, acts, operations, own, Follows, KeepsRows}
use Rattle.response_bounds.proofs.SumLemmas.{sum_single, sum_some, max_at}
use Rattle.response_bounds.specs.Periods.{Period, WasRaised, low_operations}
use Rattle.response_bounds.proofs.BusyPeriods.{urgent}

-- who is of lower priority was raised at the beginning, or is below
raised_or_below : (rows : List Declared) (n : ℕ) (c : Schedule) (least t x : ℕ) → Follows rows n c →
    Period rows n c least t x → (p : ℕ) → own rows c p < least → (k : ℕ) → k < x → c.is_left (t + k) p ≡ true →
    WasRaised c least t p ⊎ (c.active (t + k) p < least)
raised_or_below rows n c least t x h period p low zero l e = go (cases_lt (c.active t p) least)
  where
    same : t + 0 ≡ t
    same = omega arith

    go : (c.active t p < least) ⊎ (least ≤ c.active t p) → WasRaised c least t p ⊎ (c.active (t + 0) p < least)
    go (inl a) = inr (subst (λ s. c.active s p < least) (sym same) a)
    go (inr a) = inl (record { is_left = subst (λ s. c.is_left s p ≡ true) same e; is_raised = a })
raised_or_below rows n c least t x h period p low (suc k) l e =
    go (raised_or_below rows n c least t x h period p low k (omega (arith, l))) (cases_lt (t + k) (c.ready p))
  where
    upto : t + x ≤ n
    upto = period.upto

    same : t + suc k ≡ t + k + 1
    same = omega arith

    now : c.is_left (t + k + 1) p ≡ true
    now = subst (λ s. c.is_left s p ≡ true) same e

    go : (c.is_left (t + k) p ≡ true → WasRaised c least t p ⊎ (c.active (t + k) p < least)) →
        (t + k < c.ready p) ⊎ (c.ready p ≤ t + k) → WasRaised c least t p ⊎ (c.active (t + suc k) p < least)
    go more (inl late) =
        let a : c.ready p ≤ t + suc k = h.is_ready (t + suc k) p (omega (arith, upto, l)) e in
        let b : c.active (t + suc k) p ≡ own rows c p =
        h.fresh (t + suc k) p (omega (arith, upto, l)) e (omega (arith, a, late)) in
        inr (omega (arith, b, low))
    go more (inr early) =
        by (more (h.stays (t + k) p (omega (arith, upto, l)) now early)) (cases_Bool (acts c (t + k) p))
      where
        by : WasRaised c least t p ⊎ (c.active (t + k) p < least) →
            (acts c (t + k) p ≡ true) ⊎ (acts c (t + k) p ≡ false) →
            WasRaised c least t p ⊎ (c.active (t + suc k) p < least)
        by (inl w) b = inl w
        by (inr below) (inl b) =
            let a : least ≤ c.active (t + k) p =
            urgent rows n c least t x h period k p (omega (arith, l)) b in
            absurd (omega (arith, a, below))
        by (inr below) (inr b) =
            let a : c.active (t + k + 1) p ≡ c.active (t + k) p =
            h.kept (t + k) p (omega (arith, upto, l)) now early b in
            let d : c.active (t + suc k) p ≡ c.active (t + k + 1) p = ap (λ s. c.active s p) same in
            inr (omega (arith, a, below, d))

acts_once : (b : Bool) → 0 < one_if b → b ≡ true
acts_once true h = refl
acts_once false h = absurd (omega (arith, h))

-- who is of lower priority and does an operation was raised at the beginning
pub was_raised : (rows : List Declared) (n : ℕ) (c : Schedule) (least t x : ℕ) → Follows rows n c →
    Period rows n c least t x → (p : ℕ) → own rows c p < least → 0 < operations c p t x → WasRaised c least t p
was_raised rows n c least t x h period p low some =
    found (sum_some (λ k. one_if (acts c (t + k) p)) x some)
  where
    found : (k : ℕ) × (k < x) × (0 < one_if (acts c (t + k) p)) → WasRaised c least t p
    found r = go (raised_or_below rows n c least t x h period p low r.0 l
        (h.acts_left (t + r.0) p (omega (arith, upto, l)) act))
      where
        upto : t + x ≤ n
        upto = period.upto

        l : r.0 < x
        l = r.1

        act : acts c (t + r.0) p ≡ true
        act = acts_once (acts c (t + r.0) p) r.2

        go : WasRaised c least t p ⊎ (c.active (t + r.0) p < least) → WasRaised c least t p
        go (inl w) = w
        go (inr below) =
            let a : least ≤ c.active (t + r.0) p = urgent rows n c least t x h period r.0 p l act in
            absurd (omega (arith, a, below))

-- two that were raised are one
one_raised : (rows : List Declared) (n : ℕ) (c : Schedule) (least t p q : ℕ) → Follows rows n c → t < n →
    (p ≡ q → ⊥) → own rows c p < least → own rows c q < least → WasRaised c least t p → WasRaised c least t q → ⊥
one_raised rows n c least t p q h l other low_p low_q w v =
    go (h.in_turn t p q l w.is_left v.is_left other (omega (arith, low_p, a)) (omega (arith, low_q, b)))
  where
    a : least ≤ c.active t p
    a = w.is_raised

    b : least ≤ c.active t q
    b = v.is_raised

    go : (c.active t p < own rows c q) ⊎ (c.active t q < own rows c p) → ⊥
    go (inl e) = omega (arith, e, a, low_q)
    go (inr e) = omega (arith, e, b, low_p)

-- who does any is one
pub one_blocks : (rows : List Declared) (n : ℕ) (c : Schedule) (least t x p q : ℕ) → Follows rows n c →
    Period rows n c least t x → own rows c p < least → 0 < operations c p t x → own rows c q < least →
    0 < operations c q t x → p ≡ q
one_blocks rows n c least t x p q h period low_p some_p low_q some_q = go (cases_eq p q)
  where
    long : 0 < x
    long =
        let r : (k : ℕ) × (k < x) × (0 < one_if (acts c (t + k) p)) =
        sum_some (λ k. one_if (acts c (t + k) p)) x some_p in
        let l : r.0 < x = r.1 in
        omega (arith, l)

    go : (p ≡ q) ⊎ (p ≡ q → ⊥) → p ≡ q
    go (inl e) = e
    go (inr e) =
        let u : t + x ≤ n = period.upto in
        absurd (one_raised rows n c least t p q h (omega (arith, long, u)) e low_p low_q
        (was_raised rows n c least t x h period p low_p some_p)
        (was_raised rows n c least t x h period q low_q some_q))

section_counts : (rows : List Declared) (i j : ℕ) → (row_at rows j).priority < (row_at rows i).priority →
    (row_at rows i).priority ≤ (row_at rows j).ceiling → section_over rows i j ≡ (row_at rows j).section
unfolding section_over
section_counts rows i j low high =
    ap (λ b. if b then (row_at rows j).section else 0) (both (row_at rows j).priority (row_at rows j).ceiling (row_at rows i).priority low high)
  where
    both : (a b d : ℕ) → a < d → d ≤ b → (nat_lt a d && not (nat_lt b d)) ≡ true
    both a b d l u = grind (arith, nat_tests)

-- its operations are at most B(i)
low_at_most : (rows : List Declared) (n : ℕ) (c : Schedule) (i t x : ℕ) → Follows rows n c → KeepsRows rows n c →
    Period rows n c (row_at rows i).priority t x → 0 < x → (p : ℕ) → p < c.places → own rows c p < (row_at rows i).priority →
    operations c p t x ≤ blocking rows i
unfolding blocking
low_at_most rows n c i t x h keeps period long p there low = go (cases_eq (operations c p t x) 0)
  where
    upto : t + x ≤ n
    upto = period.upto

    go : (operations c p t x ≡ 0) ⊎ (operations c p t x ≡ 0 → ⊥) →
        operations c p t x ≤ max_below (section_over rows i) (length rows)
    go (inl e) = omega (arith, e)
    go (inr e) =
        let w : WasRaised c (row_at rows i).priority t p =
        was_raised rows n c (row_at rows i).priority t x h period p low (omega (arith, e)) in
        let a : (row_at rows i).priority ≤ c.active t p = w.is_raised in
        let b : c.active t p ≤ (row_at rows (c.row_of p)).ceiling =
        keeps.ceilings t p (omega (arith, upto, long)) w.is_left in
        let d : section_over rows i (c.row_of p) ≡ (row_at rows (c.row_of p)).section =
        section_counts rows i (c.row_of p) low (omega (arith, a, b)) in
        let f : operations c p t x ≤ (row_at rows (c.row_of p)).section =
        keeps.sections p t x there upto (λ k l act. above k l
        (urgent rows n c (row_at rows i).priority t x h period k p l act)) in
        let g : section_over rows i (c.row_of p) ≤ max_below (section_over rows i) (length rows) =
        max_at (section_over rows i) (length rows) (c.row_of p) (h.in_rows t p (omega (arith, upto)) w.is_left) in
        omega (arith, d, f, g)
      where
        above : (k : ℕ) → k < x → (row_at rows i).priority ≤ c.active (t + k) p → own rows c p < c.active (t + k) p
        above k l a = omega (arith, a, low)

-- all of them together do at most B(i)
pub blocked : (rows : List Declared) (n : ℕ) (c : Schedule) (i t x : ℕ) → Follows rows n c → KeepsRows rows n c →
    Period rows n c (row_at rows i).priority t x → 0 < x →
    low_operations rows c (row_at rows i).priority t x ≤ blocking rows i
blocked rows n c i t x h keeps period long =
    sum_single (λ p. if nat_lt (own rows c p) (row_at rows i).priority then operations c p t x else 0) (blocking rows i)
    c.places (λ p l. each p l (cases_Bool (nat_lt (own rows c p) (row_at rows i).priority)))
    (λ p q l k a b. two p q l (part p a) (part q b))
  where
    upto : t + x ≤ n
    upto = period.upto

    each : (p : ℕ) → p < c.places → (nat_lt (own rows c p) (row_at rows i).priority ≡ true)
        ⊎ (nat_lt (own rows c p) (row_at rows i).priority ≡ false) →
        (if nat_lt (own rows c p) (row_at rows i).priority then operations c p t x else 0) ≤ blocking rows i
    each p l (inl e) =
        let a : operations c p t x ≤ blocking rows i =
        low_at_most rows n c i t x h keeps period long p l (less (own rows c p) (row_at rows i).priority e) in
        let b : (if nat_lt (own rows c p) (row_at rows i).priority then operations c p t x else 0) ≡ operations c p t x =
        ap (λ b. if b then operations c p t x else 0) e in
        omega (arith, a, b)
      where
        less : (a b : ℕ) → nat_lt a b ≡ true → a < b
        less a b e = grind (arith, nat_tests)
    each p l (inr e) =
        let b : (if nat_lt (own rows c p) (row_at rows i).priority then operations c p t x else 0) ≡ 0 =
        ap (λ b. if b then operations c p t x else 0) e in
        omega (arith, b)

    part : (p : ℕ) → 0 < (if nat_lt (own rows c p) (row_at rows i).priority then operations c p t x else 0) →
        (own rows c p < (row_at rows i).priority) × (0 < operations c p t x)
    part p a = of (own rows c p) (row_at rows i).priority (operations c p t x) a
      where
        of : (a b w : ℕ) → 0 < (if nat_lt a b then w else 0) → (a < b) × (0 < w)
        of a b w h = go (cases_Bool (nat_lt a b))
          where
            go : (nat_lt a b ≡ true) ⊎ (nat_lt a b ≡ false) → (a < b) × (0 < w)
            go (inl e) = (grind (arith, nat_tests), subst (λ t. 0 < (if t then w else 0)) e h)
            go (inr e) =
                let bad : 0 < 0 = subst (λ t. 0 < (if t then w else 0)) e h in
                absurd (omega (arith, bad))

    two : (p q : ℕ) → p < q → (own rows c p < (row_at rows i).priority) × (0 < operations c p t x) →
        (own rows c q < (row_at rows i).priority) × (0 < operations c q t x) → ⊥
    two p q l a b =
        one_raised rows n c (row_at rows i).priority t p q h (omega (arith, upto, long)) (λ e. omega (arith, e, l)) a.0 b.0
        (was_raised rows n c (row_at rows i).priority t x h period p a.0 a.1)
        (was_raised rows n c (row_at rows i).priority t x h period q b.0 b.1)
