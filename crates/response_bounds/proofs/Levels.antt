-- The demand of a level: it is that of each of its rows, it grows with the units, and lower levels have no smaller one.
use Rattle.std.proofs.Common.{◌≡◌, ℕ, ◌+◌, ◌-◌, ◌*◌, ◌/◌, ◌%◌, ◌≤◌, ◌<◌, ◌==◌, Bool, true, false, not, ◌&&◌, ◌⊎◌, inl, inr, List, length, if◌then◌else◌, refl, ap, ◌∙◌, arith}
use Rattle.std.specs.Prelude.{nat_lt}
use Rattle.std.proofs.Math.Nat.{le-div_iff_mul-le, div-lt_iff_lt-mul, mul-le-mul_right}
use Rattle.std.proofs.lemmas.Bool.{cases_Bool}
use Rattle.std.proofs.lemmas.Bool.Decides.{nat_tests}
use Rattle.response_bounds.specs.declared.rows.Declared.{Declared}
use Rattle.response_bounds.specs.Sums.{sum_below, max_below}
use Rattle.response_bounds.specs.Levels.{level_section_over, level_blocking, level_work_over, level_work, level_demand, added_over, added_at, NoneBelow, IsFirst}
use Rattle.response_bounds.specs.Responses.{IsBound, response_of}
use Rattle.response_bounds.specs.declared.responses.Response.TheVariants.{Bound, NoBound}
use Rattle.response_bounds.specs.Rows.{AreDeclared, IsDeclared, row_at, releases_within, section_over, work_over, other_work, blocking, demand, section_at, work_at}
use Rattle.response_bounds.proofs.LeastBounds.{least_is, none_is}
use Rattle.response_bounds.proofs.LevelSums.{sum_without, sum_more, max_fits}
use Rattle.response_bounds.proofs.Monotone.{gaps_of, row_there, within_mono}
use Rattle.response_bounds.proofs.SumLemmas.{sum_le, sum_add, max_at}

-- ---- a level and its rows

once : (x g : ℕ) → 1 ≤ x → x ≤ g → releases_within x g ≡ 1
once x g from upto =
    let some : 1 ≤ g = omega (arith, from, upto) in
    let a : 1 ≤ (x + (g - 1)) / g = (le-div_iff_mul-le some).1 (omega (arith, from, some)) in
    let b : (x + (g - 1)) / g < 2 = (div-lt_iff_lt-mul some).1 (omega (arith, upto, some)) in
    omega (arith, a, b)

own_none : (rows : List Declared) (i x : ℕ) → work_over rows i x i ≡ 0
unfolding work_over
own_none rows i x = pick (i == i) (same i)
  where
    same : (k : ℕ) → (k == k) ≡ true
    same k = grind (arith, nat_tests)

    pick : (b : Bool) → b ≡ true → (if not b then work_at (row_at rows i).priority (row_at rows i) x else 0) ≡ 0
    pick true e = refl
    pick false e = absurd (cc (e))

others_same : (rows : List Declared) (i x k : ℕ) → (k ≡ i → ⊥) →
    level_work_over rows (row_at rows i).priority x k ≡ work_over rows i x k
unfolding work_over level_work_over
others_same rows i x k d = pick (k == i) (other k i d)
  where
    other : (k i : ℕ) → (k ≡ i → ⊥) → (k == i) ≡ false
    other k i d = grind (arith, nat_tests)

    pick : (b : Bool) → b ≡ false →
        work_at (row_at rows i).priority (row_at rows k) x
        ≡ (if not b then work_at (row_at rows i).priority (row_at rows k) x else 0)
    pick true e = absurd (cc (e))
    pick false e = refl

own_cost : (rows : List Declared) (i x : ℕ) → 1 ≤ x → x ≤ (row_at rows i).gap →
    level_work_over rows (row_at rows i).priority x i ≡ (row_at rows i).cost
unfolding level_work_over
own_cost rows i x from upto =
    pick (nat_lt (row_at rows i).priority (row_at rows i).priority) (not_less (row_at rows i).priority)
  where
    not_less : (k : ℕ) → nat_lt k k ≡ false
    not_less k = grind (arith, nat_tests)

    one : (c : ℕ) → 1 * c ≡ c
    one c = omega arith

    pick : (b : Bool) → b ≡ false →
        (if not b then releases_within x (row_at rows i).gap * (row_at rows i).cost else 0) ≡ (row_at rows i).cost
    pick true e = absurd (cc (e))
    pick false e = ap (λ k. k * (row_at rows i).cost) (once x (row_at rows i).gap from upto) ∙ one (row_at rows i).cost

blocking_same : (rows : List Declared) (i : ℕ) → blocking rows i ≡ level_blocking rows (row_at rows i).priority
unfolding blocking level_blocking section_over level_section_over
blocking_same rows i = refl

-- in 1 to gap units a row demands what its level does
pub own_once : (rows : List Declared) (i x : ℕ) → i < length rows → 1 ≤ x → x ≤ (row_at rows i).gap →
    demand rows i x ≡ level_demand rows (row_at rows i).priority x
unfolding demand other_work level_demand level_work
own_once rows i x l from upto =
    let level : ℕ = (row_at rows i).priority in
    let a : sum_below (level_work_over rows level x) (length rows)
    ≡ level_work_over rows level x i + sum_below (work_over rows i x) (length rows) =
    sum_without (level_work_over rows level x) (work_over rows i x) (length rows) i l (own_none rows i x)
    (λ k d. others_same rows i x k d) in
    let b : level_work_over rows level x i ≡ (row_at rows i).cost = own_cost rows i x from upto in
    let d : blocking rows i ≡ level_blocking rows level = blocking_same rows i in
    omega (arith, a, b, d)

-- ---- more units

level_work_mono : (rows : List Declared) (level x y : ℕ) → ((j : ℕ) → 1 ≤ (row_at rows j).gap) → x ≤ y → (j : ℕ) →
    level_work_over rows level x j ≤ level_work_over rows level y j
unfolding level_work_over
level_work_mono rows level x y gaps l j = by (not (nat_lt (row_at rows j).priority level))
  where
    by : (b : Bool) →
        (if b then releases_within x (row_at rows j).gap * (row_at rows j).cost else 0)
        ≤ (if b then releases_within y (row_at rows j).gap * (row_at rows j).cost else 0)
    by true = mul-le-mul_right (row_at rows j).cost (within_mono x y (row_at rows j).gap (gaps j) l)
    by false = omega arith

pub level_mono : (rows : List Declared) (level x y : ℕ) → AreDeclared rows → x ≤ y →
    level_demand rows level x ≤ level_demand rows level y
unfolding level_demand level_work
level_mono rows level x y declared l =
    let a : sum_below (level_work_over rows level x) (length rows) ≤ sum_below (level_work_over rows level y) (length rows) =
    sum_le (level_work_over rows level x) (level_work_over rows level y) (length rows)
    (λ j k. level_work_mono rows level x y (gaps_of rows declared) l j) in
    omega (arith, a)

-- ---- one unit more

exact : (x g : ℕ) → 1 ≤ g → x % g ≡ 0 → x / g * g ≡ x
exact x g some e = search (arith, some, e)

one_more : (x g c : ℕ) → 1 ≤ g → (x % g == 0) ≡ true → releases_within x g * c + c ≤ releases_within (x + 1) g * c
one_more x g c some e = add (releases_within x g) (releases_within (x + 1) g) c further
  where
    none : (k : ℕ) → (k == 0) ≡ true → k ≡ 0
    none k e = grind (arith, nat_tests)

    further : releases_within x g + 1 ≤ releases_within (x + 1) g
    further =
        let whole : x / g * g ≡ x = exact x g some (none (x % g) e) in
        let spread : (x / g + 1) * g ≡ x / g * g + g = grind (arith) in
        let a : (x + (g - 1)) / g < x / g + 1 = (div-lt_iff_lt-mul some).1 (omega (arith, whole, spread, some)) in
        let b : x / g + 1 ≤ (x + 1 + (g - 1)) / g = (le-div_iff_mul-le some).1 (omega (arith, whole, spread, some)) in
        omega (arith, a, b)

    add : (a b c : ℕ) → a + 1 ≤ b → a * c + c ≤ b * c
    add a b c l =
        let d : (a + 1) * c ≤ b * c = mul-le-mul_right c l in
        let f : (a + 1) * c ≡ a * c + c = grind (arith) in
        omega (arith, d, f)

row_added : (rows : List Declared) (level x : ℕ) → ((j : ℕ) → 1 ≤ (row_at rows j).gap) → (j : ℕ) →
    level_work_over rows level x j + added_over rows level x j ≤ level_work_over rows level (x + 1) j
unfolding level_work_over added_over
row_added rows level x gaps j =
    by (not (nat_lt (row_at rows j).priority level)) (x % (row_at rows j).gap == 0) refl
  where
    by : (b d : Bool) → (x % (row_at rows j).gap == 0) ≡ d →
        (if b then releases_within x (row_at rows j).gap * (row_at rows j).cost else 0)
        + (if b then if d then (row_at rows j).cost else 0 else 0)
        ≤ (if b then releases_within (x + 1) (row_at rows j).gap * (row_at rows j).cost else 0)
    by true true e = one_more x (row_at rows j).gap (row_at rows j).cost (gaps j) e
    by true false e =
        let a : releases_within x (row_at rows j).gap * (row_at rows j).cost
        ≤ releases_within (x + 1) (row_at rows j).gap * (row_at rows j).cost =
        mul-le-mul_right (row_at rows j).cost (within_mono x (x + 1) (row_at rows j).gap (gaps j) (omega arith)) in
        omega (arith, a)
    by false d e = omega arith

pub demand_added : (rows : List Declared) (level x a : ℕ) → AreDeclared rows → a ≤ added_at rows level x →
    level_demand rows level x + a ≤ level_demand rows level (x + 1)
unfolding level_demand level_work added_at
demand_added rows level x a declared l =
    let f : ℕ → ℕ = level_work_over rows level x in
    let g : ℕ → ℕ = added_over rows level x in
    let b : sum_below (λ j. f j + g j) (length rows) ≤ sum_below (level_work_over rows level (x + 1)) (length rows) =
    sum_le (λ j. f j + g j) (level_work_over rows level (x + 1)) (length rows)
    (λ j k. row_added rows level x (gaps_of rows declared) j) in
    let d : sum_below (λ j. f j + g j) (length rows) ≡ sum_below f (length rows) + sum_below g (length rows) =
    sum_add f g (length rows) in
    omega (arith, b, d, l)

-- ---- a lower level

releases_some : (x g : ℕ) → 1 ≤ x → 1 ≤ g → 1 ≤ releases_within x g
releases_some x g from some = (le-div_iff_mul-le some).1 (omega (arith, from, some))

work_more : (p q x : ℕ) (row : Declared) → q ≤ p → work_at p row x ≤ work_at q row x
work_more p q x row l = by (nat_lt row.priority p) (nat_lt row.priority q) (less row.priority p q l)
  where
    less : (r p q : ℕ) → q ≤ p → nat_lt r q ≡ true → nat_lt r p ≡ true
    less r p q l e = grind (arith, nat_tests)

    by : (a b : Bool) → (b ≡ true → a ≡ true) →
        (if not a then releases_within x row.gap * row.cost else 0)
        ≤ (if not b then releases_within x row.gap * row.cost else 0)
    by true b h = omega arith
    by false true h = absurd (cc (h refl))
    by false false h = omega arith

-- of a row that blocks p: it blocks q as well, or its work counts at q alone
blocks_or_works : (p q x : ℕ) (row : Declared) → IsDeclared row → q ≤ p → 1 ≤ x →
    (section_at p row ≤ section_at q row) ⊎ (work_at p row x + section_at p row ≤ work_at q row x)
blocks_or_works p q x row h l from =
    by (nat_lt row.priority p) (nat_lt row.priority q) (nat_lt row.ceiling p) (nat_lt row.ceiling q)
    (lower row.ceiling p q l)
  where
    lower : (r p q : ℕ) → q ≤ p → nat_lt r q ≡ true → nat_lt r p ≡ true
    lower r p q l e = grind (arith, nat_tests)

    work : row.section ≤ releases_within x row.gap * row.cost
    work =
        let a : 1 ≤ releases_within x row.gap = releases_some x row.gap from h.gap_from in
        let b : 1 * row.cost ≤ releases_within x row.gap * row.cost = mul-le-mul_right row.cost a in
        let d : row.section ≤ row.cost = h.section_upto in
        omega (arith, b, d)

    by : (a b c d : Bool) → (d ≡ true → c ≡ true) →
        ((if a && not c then row.section else 0) ≤ (if b && not d then row.section else 0))
        ⊎ ((if not a then releases_within x row.gap * row.cost else 0) + (if a && not c then row.section else 0)
        ≤ (if not b then releases_within x row.gap * row.cost else 0))
    by false b c d k = inl (omega arith)
    by true b true d k = inl (omega arith)
    by true true false true k = absurd (cc (k refl))
    by true true false false k = inl (omega arith)
    by true false false d k = inr (omega (arith, work))

level_more : (rows : List Declared) (p q x j : ℕ) → q ≤ p → level_work_over rows p x j ≤ level_work_over rows q x j
unfolding level_work_over
level_more rows p q x j l = work_more p q x (row_at rows j) l

level_blocks : (rows : List Declared) (p q x j : ℕ) → AreDeclared rows → j < length rows → q ≤ p → 1 ≤ x →
    (level_section_over rows p j ≤ level_section_over rows q j)
    ⊎ (level_work_over rows p x j + level_section_over rows p j ≤ level_work_over rows q x j)
unfolding level_section_over level_work_over
level_blocks rows p q x j declared m l from = blocks_or_works p q x (row_at rows j) (row_there rows declared j m) l from

pub level_lower : (rows : List Declared) (p q x : ℕ) → AreDeclared rows → q ≤ p → 1 ≤ x →
    level_demand rows p x ≤ level_demand rows q x
unfolding level_demand level_blocking level_work
level_lower rows p q x declared l from =
    max_fits (level_section_over rows p) (sum_below (level_work_over rows p x) (length rows))
    (max_below (level_section_over rows q) (length rows) + sum_below (level_work_over rows q x) (length rows))
    (length rows) (omega (arith, works)) (λ j m. by j m (level_blocks rows p q x j declared m l from))
  where
    works : sum_below (level_work_over rows p x) (length rows) ≤ sum_below (level_work_over rows q x) (length rows)
    works = sum_le (level_work_over rows p x) (level_work_over rows q x) (length rows) (λ j k. level_more rows p q x j l)

    by : (j : ℕ) → j < length rows →
        (level_section_over rows p j ≤ level_section_over rows q j)
        ⊎ (level_work_over rows p x j + level_section_over rows p j ≤ level_work_over rows q x j) →
        level_section_over rows p j + sum_below (level_work_over rows p x) (length rows)
        ≤ max_below (level_section_over rows q) (length rows) + sum_below (level_work_over rows q x) (length rows)
    by j m (inl s) =
        let a : level_section_over rows q j ≤ max_below (level_section_over rows q) (length rows) =
        max_at (level_section_over rows q) (length rows) j m in
        omega (arith, s, a, works)
    by j m (inr s) =
        let a : sum_below (level_work_over rows p x) (length rows) + level_section_over rows p j
        ≤ sum_below (level_work_over rows q x) (length rows) =
        sum_more (level_work_over rows p x) (level_work_over rows q x) (level_section_over rows p j) (length rows) j
        (λ k o. level_more rows p q x k l) m s in
        omega (arith, a)

-- ---- numbers below which nothing serves

pub none_lower : (rows : List Declared) (p q x : ℕ) → AreDeclared rows → q ≤ p → NoneBelow rows p x → NoneBelow rows q x
none_lower rows p q x declared l h = record { fails = λ y from less. step y from less }
  where
    step : (y : ℕ) → 1 ≤ y → y < x → y < level_demand rows q y
    step y from less =
        let a : y < level_demand rows p y = h.fails y from less in
        let b : level_demand rows p y ≤ level_demand rows q y = level_lower rows p q y declared l from in
        omega (arith, a, b)

-- what is to be done in x units isn't done before
pub none_to_demand : (rows : List Declared) (level x : ℕ) → AreDeclared rows → NoneBelow rows level x →
    NoneBelow rows level (level_demand rows level x)
none_to_demand rows level x declared h = record { fails = λ y from less. step y from less (cases_Bool (nat_lt y x)) }
  where
    below : (y x : ℕ) → nat_lt y x ≡ true → y < x
    below y x e = grind (arith, nat_tests)

    above : (y x : ℕ) → nat_lt y x ≡ false → x ≤ y
    above y x e = grind (arith, nat_tests)

    step : (y : ℕ) → 1 ≤ y → y < level_demand rows level x → (nat_lt y x ≡ true) ⊎ (nat_lt y x ≡ false) →
        y < level_demand rows level y
    step y from less (inl e) = h.fails y from (below y x e)
    step y from less (inr e) =
        let a : level_demand rows level x ≤ level_demand rows level y = level_mono rows level x y declared (above y x e) in
        omega (arith, a, less)

pub none_further : (rows : List Declared) (level x more : ℕ) → NoneBelow rows level x →
    ((y : ℕ) → x ≤ y → y < more → y < level_demand rows level y) → NoneBelow rows level more
none_further rows level x more h g = record { fails = λ y from less. step y from less (cases_Bool (nat_lt y x)) }
  where
    below : (y x : ℕ) → nat_lt y x ≡ true → y < x
    below y x e = grind (arith, nat_tests)

    above : (y x : ℕ) → nat_lt y x ≡ false → x ≤ y
    above y x e = grind (arith, nat_tests)

    step : (y : ℕ) → 1 ≤ y → y < more → (nat_lt y x ≡ true) ⊎ (nat_lt y x ≡ false) → y < level_demand rows level y
    step y from less (inl e) = h.fails y from (below y x e)
    step y from less (inr e) = g y (above y x e) less

-- ---- the response of a row

none_before : (rows : List Declared) (i x y : ℕ) → NoneBelow rows (row_at rows i).priority x → IsBound rows i y → x ≤ y
none_before rows i x y h b = go (cases_Bool (nat_lt y x))
  where
    below : (y x : ℕ) → nat_lt y x ≡ true → y < x
    below y x e = grind (arith, nat_tests)

    above : (y x : ℕ) → nat_lt y x ≡ false → x ≤ y
    above y x e = grind (arith, nat_tests)

    go : (nat_lt y x ≡ true) ⊎ (nat_lt y x ≡ false) → x ≤ y
    go (inr e) = above y x e
    go (inl e) =
        let a : y < level_demand rows (row_at rows i).priority y = h.fails y b.from (below y x e) in
        let d : demand rows i y ≡ level_demand rows (row_at rows i).priority y = own_once rows i y b.is_row b.from b.upto in
        let f : demand rows i y ≤ y = b.serves in
        absurd (omega (arith, a, d, f))

pub first_bound : (rows : List Declared) (i x g : ℕ) → i < length rows → g ≡ (row_at rows i).gap →
    IsFirst rows (row_at rows i).priority x → x ≤ g → response_of rows i ≡ Bound x
first_bound rows i x g l e h upto = least_is rows i x bound (λ y b. none_before rows i x y h.none b)
  where
    within : x ≤ (row_at rows i).gap
    within = omega (arith, upto, e)

    bound : IsBound rows i x
    bound =
        let a : demand rows i x ≡ level_demand rows (row_at rows i).priority x = own_once rows i x l h.from within in
        let b : level_demand rows (row_at rows i).priority x ≤ x = h.serves i l refl within in
        record { is_row = l; from = h.from; upto = within; serves = omega (arith, a, b) }

pub first_none : (rows : List Declared) (i x g : ℕ) → i < length rows → g ≡ (row_at rows i).gap →
    IsFirst rows (row_at rows i).priority x → g < x → response_of rows i ≡ NoBound
first_none rows i x g l e h past = none_is rows i l (λ y b. step y b)
  where
    step : (y : ℕ) → IsBound rows i y → ⊥
    step y b =
        let a : x ≤ y = none_before rows i x y h.none b in
        let d : y ≤ (row_at rows i).gap = b.upto in
        absurd (omega (arith, a, d, e, past))
