-- Costs added into a list of units, and the units that are looked through by it.
use Rattle.std.proofs.Common.{◌≡◌, ℕ, zero, suc, ◌+◌, ◌%◌, ◌≤◌, ◌<◌, ◌==◌, Bool, true, false, not, ◌⊎◌, inl, inr, List, [], ◌∷◌, length, if◌then◌else◌, refl, sym, ap, ◌∙◌, subst, arith}
use Rattle.std.specs.Prelude.{nat_lt, slice_index, slice_index_or, slice_set}
use Rattle.std.proofs.lemmas.Bool.{cases_eq}
use Rattle.std.proofs.lemmas.Bool.Decides.{nat_tests}
use Rattle.std.proofs.lemmas.List.{get_or-set_same, get_or-set_other, get_or_default, length-set}
use Rattle.response_bounds.specs.declared.rows.Declared.{Declared}
use Rattle.response_bounds.specs.Sums.{sum_below}
use Rattle.response_bounds.specs.Levels.{added_in, added_over, added_at}
use Rattle.response_bounds.specs.Rows.{row_at}

-- what a row adds in the units before a place
abbrev pub added_before : Declared → ℕ → ℕ → ℕ → ℕ
added_before row from index k = if nat_lt k index then added_in row (from + k) else 0

added_more : (old now : List ℕ) (row : Declared) (from index next v : ℕ) → index < length now →
    v ≤ slice_index now index + row.cost → (from + index) % row.gap ≡ 0 → index < next →
    ((k : ℕ) → slice_index now k ≤ slice_index old k + added_before row from index k) →
    (k : ℕ) → slice_index (slice_set now index v) k ≤ slice_index old k + added_before row from next k
added_more old now row from index next v l u divides m h k = go (cases_eq k index)
  where
    less : (a b : ℕ) → a < b → nat_lt a b ≡ true
    less a b l = grind (arith, nat_tests)

    not_less : (k : ℕ) → nat_lt k k ≡ false
    not_less k = grind (arith, nat_tests)

    none : (k : ℕ) → k ≡ 0 → (k == 0) ≡ true
    none k e = grind (arith, nat_tests)

    before : added_before row from index index ≡ 0
    before = ap (λ b. if b then added_in row (from + index) else 0) (not_less index)

    after : added_before row from next index ≡ row.cost
    after =
        ap (λ b. if b then added_in row (from + index) else 0) (less index next m)
        ∙ ap (λ b. if b then row.cost else 0) (none ((from + index) % row.gap) divides)

    more : (k : ℕ) → added_before row from index k ≤ added_before row from next k
    more k = by (nat_lt k index) (nat_lt k next) (further k index next m)
      where
        further : (k index next : ℕ) → index < next → nat_lt k index ≡ true → nat_lt k next ≡ true
        further k index next m e = grind (arith, nat_tests)

        by : (a b : Bool) → (a ≡ true → b ≡ true) →
            (if a then added_in row (from + k) else 0) ≤ (if b then added_in row (from + k) else 0)
        by true true f = omega arith
        by true false f = absurd (cc (f refl))
        by false b f = omega arith

    go : (k ≡ index) ⊎ (k ≡ index → ⊥) →
        slice_index (slice_set now index v) k ≤ slice_index old k + added_before row from next k
    go (inl e) = subst (λ j. slice_index (slice_set now index v) j ≤ slice_index old j + added_before row from next j) (sym e) here
      where
        here : slice_index (slice_set now index v) index ≤ slice_index old index + added_before row from next index
        here =
            let a : slice_index (slice_set now index v) index ≡ v = get_or-set_same now index v 0 l in
            let b : slice_index now index ≤ slice_index old index + added_before row from index index = h index in
            omega (arith, a, b, before, after, u)
    go (inr e) =
        let a : slice_index (slice_set now index v) k ≡ slice_index now k = get_or-set_other now index k v 0 e in
        let b : slice_index now k ≤ slice_index old k + added_before row from index k = h k in
        let d : added_before row from index k ≤ added_before row from next k = more k in
        omega (arith, a, b, d)

next_divides : (a g : ℕ) → 1 ≤ g → a % g ≡ 0 → (a + g) % g ≡ 0
next_divides a g some e = search (arith, some, e)

-- a step of the strides of a row
pub stride : (old now : List ℕ) (row : Declared) (from index cell v : ℕ) → index < length now → length now ≡ length old →
    1 ≤ row.gap → cell ≡ slice_index_or now index cell → v ≤ cell + row.cost → (from + index) % row.gap ≡ 0 →
    ((k : ℕ) → slice_index now k ≤ slice_index old k + added_before row from index k) →
    (length (slice_set now index v) ≡ length old) × ((from + (index + row.gap)) % row.gap ≡ 0)
    × ((k : ℕ) → slice_index (slice_set now index v) k ≤ slice_index old k + added_before row from (index + row.gap) k)
stride old now row from index cell v l same some read u divides h = (
  length-set now index v ∙ same,
  subst (λ k. k % row.gap ≡ 0) (moved from index row.gap) (next_divides (from + index) row.gap some divides),
  added_more old now row from index (index + row.gap) v l fits divides (omega (arith, some)) h,
)
  where
    moved : (a b g : ℕ) → a + b + g ≡ a + (b + g)
    moved a b g = omega arith

    fits : v ≤ slice_index now index + row.cost
    fits =
        let a : slice_index_or now index cell ≡ slice_index now index = get_or_default now index cell 0 l in
        omega (arith, a, read, u)

pub row_read : (rows : List Declared) (k : ℕ) (d : Declared) → k < length rows → slice_index_or rows k d ≡ row_at rows k
unfolding row_at
row_read [] k d l = absurd (omega (arith, l))
row_read (row ∷ rows) zero d l = refl
row_read (row ∷ rows) (suc k) d l = row_read rows k d (omega (arith, l))

sum_next : (f : ℕ → ℕ) (n : ℕ) → sum_below f (n + 1) ≡ sum_below f n + f n
unfolding sum_below
sum_next f n = let e : n + 1 ≡ suc n = omega arith in ap (sum_below f) e

-- one row more in a list of units
row_more : (rows : List Declared) (level x row a b : ℕ) → level ≤ (row_at rows row).priority →
    a ≤ sum_below (added_over rows level x) row → b ≤ a + added_in (row_at rows row) x →
    b ≤ sum_below (added_over rows level x) (row + 1)
unfolding added_over
row_more rows level x row a b e l m =
    let next : sum_below (added_over rows level x) (row + 1)
    ≡ sum_below (added_over rows level x) row + added_over rows level x row = sum_next (added_over rows level x) row in
    let same : added_over rows level x row ≡ added_in (row_at rows row) x =
    ap (λ c. if not c then added_in (row_at rows row) x else 0) (high (row_at rows row).priority level e) in
    omega (arith, next, same, l, m)
  where
    high : (p q : ℕ) → q ≤ p → nat_lt p q ≡ false
    high p q l = grind (arith, nat_tests)

pub rows_more : (rows : List Declared) (level from row count : ℕ) (old now : List ℕ) (d : Declared) → row < length rows →
    level ≤ (slice_index_or rows row d).priority → length now ≡ length old → length old ≡ count →
    ((k : ℕ) → slice_index now k ≤ slice_index old k + added_in (slice_index_or rows row d) (from + k)) →
    ((k : ℕ) → slice_index old k ≤ sum_below (added_over rows level (from + k)) row) →
    (length now ≡ count) × ((k : ℕ) → slice_index now k ≤ sum_below (added_over rows level (from + k)) (row + 1))
rows_more rows level from row count old now d l high same all more old_fits =
    (same ∙ all, λ k. row_more rows level (from + k) row (slice_index old k) (slice_index now k) high_here (old_fits k) (here k))
  where
    read : slice_index_or rows row d ≡ row_at rows row
    read = row_read rows row d l

    high_here : level ≤ (row_at rows row).priority
    high_here = subst (λ (r : Declared). level ≤ r.priority) read high

    here : (k : ℕ) → slice_index now k ≤ slice_index old k + added_in (row_at rows row) (from + k)
    here k = subst (λ (r : Declared). slice_index now k ≤ slice_index old k + added_in r (from + k)) read (more k)

pub rows_less : (rows : List Declared) (level from row count : ℕ) (old : List ℕ) → length old ≡ count →
    ((k : ℕ) → slice_index old k ≤ sum_below (added_over rows level (from + k)) row) →
    (length old ≡ count) × ((k : ℕ) → slice_index old k ≤ sum_below (added_over rows level (from + k)) (row + 1))
rows_less rows level from row count old all h = (all, λ k. step k (h k))
  where
    step : (k : ℕ) → slice_index old k ≤ sum_below (added_over rows level (from + k)) row →
        slice_index old k ≤ sum_below (added_over rows level (from + k)) (row + 1)
    step k l =
        let next : sum_below (added_over rows level (from + k)) (row + 1)
        ≡ sum_below (added_over rows level (from + k)) row + added_over rows level (from + k) row =
        sum_next (added_over rows level (from + k)) row in
        omega (arith, next, l)

pub all_rows : (rows : List Declared) (level x n a : ℕ) → n ≡ length rows → a ≤ sum_below (added_over rows level x) n →
    a ≤ added_at rows level x
unfolding added_at
all_rows rows level x n a e l = subst (λ k. a ≤ sum_below (added_over rows level x) k) e l
