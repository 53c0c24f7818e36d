-- In a busy period the releases of at least the row's priority do fewer operations than those that are ready in it
-- cost.
use Rattle.std.proofs.Common.{◌≡◌, ℕ, zero, suc, ◌+◌, ◌-◌, ◌*◌, ◌/◌, ◌≤◌, ◌<◌, ◌==◌, Bool, true, false, not, ◌&&◌, ◌⊎◌, inl, inr, if◌then◌else◌, refl, sym, ap, ◌∙◌, subst, arith, List, length}
use Rattle.std.specs.Prelude.{nat_lt}
use Rattle.std.proofs.lemmas.Bool.{cases_eq, cases_lt, cases_Bool, and_parts}
use Rattle.std.proofs.lemmas.Bool.Decides.{nat_tests}
use Rattle.std.proofs.Math.Nat.{le-div_iff_mul-le, mul-le-mul_right}
use Rattle.response_bounds.specs.declared.rows.Declared.{Declared}
use Rattle.response_bounds.specs.Sums.{sum_below, one_if, count_below}
use Rattle.response_bounds.specs.Rows.{row_at, releases_within, work_over, other_work}
use Rattle.response_bounds.specs.Schedule.{Schedule, acts, operations, own, Follows, KeepsRows}
use Rattle.response_bounds.proofs.SumLemmas.{sum_le, sum_lt, sum_at, sum_add, sum_swap, sum_scale, sum_single, sum_some}
use Rattle.response_bounds.proofs.Spacing.{few_within}
use Rattle.response_bounds.specs.Periods.{IsOld, Period, high_work, high_operations}
use Rattle.response_bounds.proofs.BusyPeriods.{left_at}

-- a release is of the row, and ready in the x units from t on
abbrev pub in_window : Schedule → ℕ → ℕ → ℕ → ℕ → Bool
in_window c t x j p = (c.row_of p == j) && (not (nat_lt (c.ready p) t) && nat_lt (c.ready p) (t + x))

in_window_from : (r j a t b : ℕ) → r ≡ j → t ≤ a → a < b → ((r == j) && (not (nat_lt a t) && nat_lt a b)) ≡ true
in_window_from r j a t b e l u = grind (arith, nat_tests)

in_window_parts : (r j a t b : ℕ) → ((r == j) && (not (nat_lt a t) && nat_lt a b)) ≡ true →
    (r ≡ j) × (t ≤ a) × (a < b)
in_window_parts r j a t b h =
    let x : ((r == j) ≡ true) × ((not (nat_lt a t) && nat_lt a b) ≡ true) = and_parts _ _ h in
    let y : (not (nat_lt a t) ≡ true) × (nat_lt a b ≡ true) = and_parts _ _ x.1 in
    let u : (r == j) ≡ true = x.0 in
    let v : not (nat_lt a t) ≡ true = y.0 in
    let w : nat_lt a b ≡ true = y.1 in
    (grind (arith, nat_tests), grind (arith, nat_tests), grind (arith, nat_tests))

-- what a release of row j costs, if it is of at least this priority
pub high_cost : List Declared → ℕ → ℕ → ℕ
high_cost rows least j = if nat_lt (row_at rows j).priority least then 0 else (row_at rows j).cost

high_cost_is : (rows : List Declared) (least j : ℕ) → least ≤ (row_at rows j).priority → high_cost rows least j ≡ (row_at rows j).cost
unfolding high_cost
high_cost_is rows least j l = ap (λ b. if b then 0 else (row_at rows j).cost) (no (row_at rows j).priority least l)
  where
    no : (a b : ℕ) → b ≤ a → nat_lt a b ≡ false
    no a b l = grind (arith, nat_tests)

-- what a release may do in the window, as a sum over the rows
abbrev pub charge : List Declared → Schedule → ℕ → ℕ → ℕ → ℕ → ℕ
charge rows c least t x p = sum_below (λ j. one_if (in_window c t x j p) * high_cost rows least j) (length rows)

charged : (rows : List Declared) (n : ℕ) (c : Schedule) (least t x : ℕ) → Follows rows n c → (p s : ℕ) → s ≤ n →
    c.is_left s p ≡ true → least ≤ own rows c p → t ≤ c.ready p → c.ready p < t + x →
    (row_at rows (c.row_of p)).cost ≤ charge rows c least t x p
charged rows n c least t x h p s in_time there high from upto =
    let a : one_if (in_window c t x (c.row_of p) p) * high_cost rows least (c.row_of p) ≤ charge rows c least t x p =
    sum_at (λ j. one_if (in_window c t x j p) * high_cost rows least j) (length rows) (c.row_of p) (h.in_rows s p in_time there) in
    let b : one_if (in_window c t x (c.row_of p) p) ≡ 1 =
    ap one_if (in_window_from (c.row_of p) (c.row_of p) (c.ready p) t (t + x) refl from upto) in
    let d : high_cost rows least (c.row_of p) ≡ (row_at rows (c.row_of p)).cost = high_cost_is rows least (c.row_of p) high in
    let e : one_if (in_window c t x (c.row_of p) p) * high_cost rows least (c.row_of p)
    ≡ 1 * (row_at rows (c.row_of p)).cost =
    ap (λ k. k * high_cost rows least (c.row_of p)) b ∙ ap (λ k. 1 * k) d in
    omega (arith, a, e)

-- who of at least this priority acts in the period is ready in it
ready_in : (rows : List Declared) (n : ℕ) (c : Schedule) (least t x : ℕ) → Follows rows n c → Period rows n c least t x →
    (p : ℕ) → least ≤ own rows c p → (s : ℕ) → t ≤ s → s ≤ t + x → c.is_left s p ≡ true → t ≤ c.ready p
ready_in rows n c least t x h period p high s from to e = go (cases_lt (c.ready p) t)
  where
    upto : t + x ≤ n
    upto = period.upto

    go : (c.ready p < t) ⊎ (t ≤ c.ready p) → t ≤ c.ready p
    go (inr l) = l
    go (inl l) =
        period.begins.is p high
        (left_at rows n c h t s p from (omega (arith, upto, to)) e (omega (arith, l)))

acts_once : (b : Bool) → 0 < one_if b → b ≡ true
acts_once true h = refl
acts_once false h = absurd (omega (arith, h))

ready_acting : (rows : List Declared) (n : ℕ) (c : Schedule) (least t x : ℕ) → Follows rows n c →
    Period rows n c least t x → (p : ℕ) → least ≤ own rows c p → 0 < operations c p t x →
    (t ≤ c.ready p) × (c.ready p < t + x) × ((s : ℕ) × (s ≤ n) × (c.is_left s p ≡ true))
ready_acting rows n c least t x h period p high some =
    go (sum_some (λ k. one_if (acts c (t + k) p)) x some)
  where
    upto : t + x ≤ n
    upto = period.upto

    go : (k : ℕ) × (k < x) × (0 < one_if (acts c (t + k) p)) →
        (t ≤ c.ready p) × (c.ready p < t + x) × ((s : ℕ) × (s ≤ n) × (c.is_left s p ≡ true))
    go r =
        let l : r.0 < x = r.1 in
        let left : c.is_left (t + r.0) p ≡ true =
        h.acts_left (t + r.0) p (omega (arith, upto, l)) (acts_once (acts c (t + r.0) p) r.2) in
        let a : c.ready p ≤ t + r.0 = h.is_ready (t + r.0) p (omega (arith, upto, l)) left in (
          ready_in rows n c least t x h period p high (t + r.0) (omega arith) (omega (arith, l)) left,
          omega (arith, a, l),
          (t + r.0, omega (arith, upto, l), left),
        )

-- the operations in a window are among all
among_all : (test : ℕ → Bool) (a x : ℕ) → count_below (λ k. test (a + k)) x ≤ count_below (λ k. test (0 + k)) (a + x)
unfolding sum_below
among_all test a zero = omega arith
among_all test a (suc x) =
    let h : count_below (λ k. test (a + k)) x ≤ count_below (λ k. test (0 + k)) (a + x) = among_all test a x in
    let same : a + suc x ≡ suc (a + x) = omega arith in
    let here : 0 + (a + x) ≡ a + x = omega arith in
    let e : one_if (test (0 + (a + x))) ≡ one_if (test (a + x)) = ap (λ k. one_if (test k)) here in
    subst (λ z. count_below (λ k. test (a + k)) x + one_if (test (a + x)) ≤ count_below (λ k. test (0 + k)) z) (sym same)
    (omega (arith, h, e))

operations_among : (c : Schedule) (p a x : ℕ) → operations c p a x ≤ operations c p 0 (a + x)
operations_among c p a x = among_all (λ t. acts c t p) a x

at_most_charge : (rows : List Declared) (n : ℕ) (c : Schedule) (least t x : ℕ) → Follows rows n c → KeepsRows rows n c →
    Period rows n c least t x → (p : ℕ) → p < c.places → high_work rows c least t x p ≤ charge rows c least t x p
at_most_charge rows n c least t x h keeps period p there = go (cases_Bool (nat_lt (own rows c p) least))
  where
    high_of : (a b : ℕ) → nat_lt a b ≡ false → b ≤ a
    high_of a b e = grind (arith, nat_tests)

    some : least ≤ own rows c p → 0 < operations c p t x → operations c p t x ≤ charge rows c least t x p
    some high o =
        let r : (t ≤ c.ready p) × (c.ready p < t + x) × ((s : ℕ) × (s ≤ n) × (c.is_left s p ≡ true)) = ready_acting rows n c least t x h period p high o in
        let a : (row_at rows (c.row_of p)).cost ≤ charge rows c least t x p =
        charged rows n c least t x h p r.2.0 r.2.1 r.2.2 high r.0 r.1 in
        let b : operations c p 0 (t + x) ≤ (row_at rows (c.row_of p)).cost = keeps.costs p (t + x) there period.upto in
        let d : operations c p t x ≤ operations c p 0 (t + x) = operations_among c p t x in
        omega (arith, a, b, d)

    by : least ≤ own rows c p → (operations c p t x ≡ 0) ⊎ (operations c p t x ≡ 0 → ⊥) →
        operations c p t x ≤ charge rows c least t x p
    by high (inl e) = omega (arith, e)
    by high (inr e) = some high (omega (arith, e))

    go : (nat_lt (own rows c p) least ≡ true) ⊎ (nat_lt (own rows c p) least ≡ false) →
        high_work rows c least t x p ≤ charge rows c least t x p
    go (inl e) =
        let a : high_work rows c least t x p ≡ 0 = ap (λ b. if b then 0 else operations c p t x) e in
        omega (arith, a)
    go (inr e) =
        let a : high_work rows c least t x p ≡ operations c p t x = ap (λ b. if b then 0 else operations c p t x) e in
        let b : operations c p t x ≤ charge rows c least t x p =
        by (high_of (own rows c p) least e) (cases_eq (operations c p t x) 0) in
        omega (arith, a, b)

-- of who is left after it the operations are fewer
less_than_charge : (rows : List Declared) (n : ℕ) (c : Schedule) (least t x : ℕ) → Follows rows n c →
    KeepsRows rows n c → Period rows n c least t x → (old : IsOld rows c least (t + x)) →
    high_work rows c least t x old.q < charge rows c least t x old.q
less_than_charge rows n c least t x h keeps period old =
    let from : t ≤ c.ready old.q =
    ready_in rows n c least t x h period old.q old.is_high (t + x) (omega arith) (omega arith) old.is_left in
    let a : (row_at rows (c.row_of old.q)).cost ≤ charge rows c least t x old.q =
    charged rows n c least t x h old.q (t + x) period.upto old.is_left old.is_high from old.is_old in
    let b : operations c old.q 0 (t + x) < (row_at rows (c.row_of old.q)).cost =
    keeps.open_costs old.q (t + x) period.upto old.is_left in
    let d : operations c old.q t x ≤ operations c old.q 0 (t + x) = operations_among c old.q t x in
    let e : high_work rows c least t x old.q ≡ operations c old.q t x =
    ap (λ b. if b then 0 else operations c old.q t x) (no (own rows c old.q) least old.is_high) in
    omega (arith, a, b, d, e)
  where
    no : (a b : ℕ) → b ≤ a → nat_lt a b ≡ false
    no a b l = grind (arith, nat_tests)

-- ---- the charge by rows

abbrev pub row_work : List Declared → ℕ → ℕ → ℕ → ℕ
row_work rows least x j = releases_within x (row_at rows j).gap * high_cost rows least j

by_rows : (rows : List Declared) (n : ℕ) (c : Schedule) (least t x : ℕ) → KeepsRows rows n c →
    ((j : ℕ) → j < length rows → 1 ≤ (row_at rows j).gap) →
    sum_below (λ p. charge rows c least t x p) c.places ≤ sum_below (λ j. row_work rows least x j) (length rows)
by_rows rows n c least t x keeps gaps =
    let a : sum_below (λ p. charge rows c least t x p) c.places
    ≡ sum_below (λ j. sum_below (λ p. one_if (in_window c t x j p) * high_cost rows least j) c.places) (length rows) =
    sum_swap (λ p j. one_if (in_window c t x j p) * high_cost rows least j) c.places (length rows) in
    let b : sum_below (λ j. sum_below (λ p. one_if (in_window c t x j p) * high_cost rows least j) c.places) (length rows)
    ≤ sum_below (λ j. row_work rows least x j) (length rows) =
    sum_le (λ j. sum_below (λ p. one_if (in_window c t x j p) * high_cost rows least j) c.places)
    (λ j. row_work rows least x j) (length rows) one in
    omega (arith, a, b)
  where
    few : (j : ℕ) → j < length rows → count_below (in_window c t x j) c.places ≤ releases_within x (row_at rows j).gap
    few j l =
        few_within (in_window c t x j) c.ready (row_at rows j).gap t x c.places (gaps j l) apart
        (λ p k e. (in_window_parts (c.row_of p) j (c.ready p) t (t + x) e).1)
        (λ p k e. (in_window_parts (c.row_of p) j (c.ready p) t (t + x) e).2)
      where
        apart : (p q : ℕ) → p < q → q < c.places → in_window c t x j p ≡ true → in_window c t x j q ≡ true →
            c.ready p + (row_at rows j).gap ≤ c.ready q
        apart p q k u e f =
            let v : c.row_of p ≡ j = (in_window_parts (c.row_of p) j (c.ready p) t (t + x) e).0 in
            let w : c.row_of q ≡ j = (in_window_parts (c.row_of q) j (c.ready q) t (t + x) f).0 in
            subst (λ r. c.ready p + (row_at rows r).gap ≤ c.ready q) v (keeps.gaps p q k u (v ∙ sym w))

    one : (j : ℕ) → j < length rows →
        sum_below (λ p. one_if (in_window c t x j p) * high_cost rows least j) c.places ≤ row_work rows least x j
    one j l =
        let a : sum_below (λ p. one_if (in_window c t x j p) * high_cost rows least j) c.places
        ≡ count_below (in_window c t x j) c.places * high_cost rows least j =
        sum_scale (λ p. one_if (in_window c t x j p)) (high_cost rows least j) c.places in
        let b : count_below (in_window c t x j) c.places * high_cost rows least j ≤ row_work rows least x j =
        scaled (count_below (in_window c t x j) c.places) (releases_within x (row_at rows j).gap)
        (high_cost rows least j) (few j l) in
        omega (arith, a, b)
      where
        scaled : (a b k : ℕ) → a ≤ b → a * k ≤ b * k
        scaled a b k l = mul-le-mul_right k l

once : (x g : ℕ) → 1 ≤ x → x ≤ g → releases_within x g ≤ 1
once x g l u = go (cases_lt ((x + (g - 1)) / g) 2)
  where
    go : ((x + (g - 1)) / g < 2) ⊎ (2 ≤ (x + (g - 1)) / g) → (x + (g - 1)) / g ≤ 1
    go (inl h) = omega (arith, h)
    go (inr h) =
        let some : 0 < g = omega (arith, l, u) in
        let k : 2 * g ≤ x + (g - 1) = (le-div_iff_mul-le some).0 h in
        absurd (omega (arith, k, u, l))

-- the rows' work is that of w(i, x)
row_works : (rows : List Declared) (i x : ℕ) → 1 ≤ x → x ≤ (row_at rows i).gap →
    sum_below (λ j. row_work rows (row_at rows i).priority x j) (length rows) ≤ (row_at rows i).cost + sum_below (work_over rows i x) (length rows)
unfolding work_over high_cost
row_works rows i x l u =
    let a : sum_below (λ j. row_work rows (row_at rows i).priority x j) (length rows)
    ≤ sum_below (λ j. work_over rows i x j + (if j == i then (row_at rows i).cost else 0)) (length rows) =
    sum_le (λ j. row_work rows (row_at rows i).priority x j)
    (λ j. work_over rows i x j + (if j == i then (row_at rows i).cost else 0)) (length rows) (λ j k. one j) in
    let b : sum_below (λ j. work_over rows i x j + (if j == i then (row_at rows i).cost else 0)) (length rows)
    ≡ sum_below (work_over rows i x) (length rows) + sum_below (λ j. if j == i then (row_at rows i).cost else 0) (length rows) =
    sum_add (work_over rows i x) (λ j. if j == i then (row_at rows i).cost else 0) (length rows) in
    let d : sum_below (λ j. if j == i then (row_at rows i).cost else 0) (length rows) ≤ (row_at rows i).cost =
    sum_single (λ j. if j == i then (row_at rows i).cost else 0) (row_at rows i).cost (length rows)
    (λ j k. at_most (j == i) (row_at rows i).cost)
    (λ j k less to e f. apart j k less (is_it j (row_at rows i).cost e) (is_it k (row_at rows i).cost f)) in
    omega (arith, a, b, d)
  where
    at_most : (b : Bool) (w : ℕ) → (if b then w else 0) ≤ w
    at_most true w = omega arith
    at_most false w = omega arith

    is_it : (j w : ℕ) → 0 < (if j == i then w else 0) → j ≡ i
    is_it j w h = grind (arith, nat_tests)

    apart : (j k : ℕ) → j < k → j ≡ i → k ≡ i → ⊥
    apart j k less e f = omega arith

    by : (j k : ℕ) (low : Bool) (work cost : ℕ) → (j ≡ k → work * cost ≤ cost) →
        work * (if low then 0 else cost)
        ≤ (if not (j == k) then if not low then work * cost else 0 else 0) + (if j == k then cost else 0)
    by j k true work cost h = omega arith
    by j k false work cost h = go (cases_Bool (j == k))
      where
        same : (j k : ℕ) → (j == k) ≡ true → j ≡ k
        same j k e = grind (arith, nat_tests)

        go : ((j == k) ≡ true) ⊎ ((j == k) ≡ false) →
            work * cost ≤ (if not (j == k) then work * cost else 0) + (if j == k then cost else 0)
        go (inl e) =
            subst (λ b. work * cost ≤ (if not b then work * cost else 0) + (if b then cost else 0)) (sym e)
            (let a : work * cost ≤ cost = h (same j k e) in omega (arith, a))
        go (inr e) =
            subst (λ b. work * cost ≤ (if not b then work * cost else 0) + (if b then cost else 0)) (sym e)
            (omega arith)

    own_once : (j : ℕ) → j ≡ i → releases_within x (row_at rows j).gap * (row_at rows j).cost ≤ (row_at rows j).cost
    own_once j e =
        let a : releases_within x (row_at rows j).gap ≤ 1 =
        subst (λ k. releases_within x (row_at rows k).gap ≤ 1) (sym e) (once x (row_at rows i).gap l u) in
        let b : releases_within x (row_at rows j).gap * (row_at rows j).cost ≤ 1 * (row_at rows j).cost =
        mul-le-mul_right (row_at rows j).cost a in
        omega (arith, b)

    renamed : (j : ℕ) → (if j == i then (row_at rows j).cost else 0) ≡ (if j == i then (row_at rows i).cost else 0)
    renamed j = go (cases_eq j i)
      where
        no : (j i : ℕ) → (j ≡ i → ⊥) → (j == i) ≡ false
        no j i e = grind (arith, nat_tests)

        go : (j ≡ i) ⊎ (j ≡ i → ⊥) → (if j == i then (row_at rows j).cost else 0) ≡ (if j == i then (row_at rows i).cost else 0)
        go (inl e) = ap (λ k. if j == i then (row_at rows k).cost else 0) e
        go (inr e) =
            subst (λ b. (if b then (row_at rows j).cost else 0) ≡ (if b then (row_at rows i).cost else 0)) (sym (no j i e)) refl

    one : (j : ℕ) → row_work rows (row_at rows i).priority x j ≤ work_over rows i x j + (if j == i then (row_at rows i).cost else 0)
    one j =
        let a : row_work rows (row_at rows i).priority x j
        ≤ work_over rows i x j + (if j == i then (row_at rows j).cost else 0) =
        by j i (nat_lt (row_at rows j).priority (row_at rows i).priority) (releases_within x (row_at rows j).gap) (row_at rows j).cost (own_once j) in
        let b : (if j == i then (row_at rows j).cost else 0) ≡ (if j == i then (row_at rows i).cost else 0) = renamed j in
        omega (arith, a, b)

-- all of it: less than w(i, x) without B(i)
pub interfered : (rows : List Declared) (n : ℕ) (c : Schedule) (i t x : ℕ) → Follows rows n c → KeepsRows rows n c →
    ((j : ℕ) → j < length rows → 1 ≤ (row_at rows j).gap) → Period rows n c (row_at rows i).priority t x → 1 ≤ x → x ≤ (row_at rows i).gap →
    high_operations rows c (row_at rows i).priority t x < (row_at rows i).cost + other_work rows i x
unfolding other_work
interfered rows n c i t x h keeps gaps period l u =
    let old : IsOld rows c (row_at rows i).priority (t + x) = period.busy (t + x) (omega (arith, l)) (omega arith) in
    let a : sum_below (λ p. high_work rows c (row_at rows i).priority t x p) c.places
    < sum_below (λ p. charge rows c (row_at rows i).priority t x p) c.places =
    sum_lt (λ p. high_work rows c (row_at rows i).priority t x p) (λ p. charge rows c (row_at rows i).priority t x p) c.places old.q
    (λ p k. at_most_charge rows n c (row_at rows i).priority t x h keeps period p k) old.is_there
    (less_than_charge rows n c (row_at rows i).priority t x h keeps period old) in
    let b : sum_below (λ p. charge rows c (row_at rows i).priority t x p) c.places
    ≤ sum_below (λ j. row_work rows (row_at rows i).priority x j) (length rows) =
    by_rows rows n c (row_at rows i).priority t x keeps gaps in
    let d : sum_below (λ j. row_work rows (row_at rows i).priority x j) (length rows)
    ≤ (row_at rows i).cost + sum_below (work_over rows i x) (length rows) = row_works rows i x l u in
    omega (arith, a, b, d)
