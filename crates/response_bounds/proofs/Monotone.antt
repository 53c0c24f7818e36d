-- More units have no smaller demand.
use Rattle.std.proofs.Common.{◌≡◌, ℕ, zero, suc, ◌+◌, ◌-◌, ◌*◌, ◌/◌, ◌≤◌, ◌<◌, ◌==◌, Bool, true, false, not, List, [], ◌∷◌, length, Option, Some, None, if◌then◌else◌, refl, arith}
use Rattle.std.specs.Prelude.{nat_lt, slice_get}
use Rattle.std.proofs.Math.Nat.{le-div_iff_mul-le, div-mul-le_self, mul-le-mul_right}
use Rattle.response_bounds.specs.declared.rows.Declared.{Declared}
use Rattle.response_bounds.specs.Sums.{sum_below}
use Rattle.response_bounds.specs.Rows.{AreDeclared, IsDeclared, no_row, row_at, releases_within, work_over, other_work, demand}
use Rattle.response_bounds.proofs.SumLemmas.{sum_le}

pub within_mono : (x y g : ℕ) → 1 ≤ g → x ≤ y → releases_within x g ≤ releases_within y g
within_mono x y g some l =
    let a : (x + (g - 1)) / g * g ≤ x + (g - 1) = div-mul-le_self (x + (g - 1)) g in
    (le-div_iff_mul-le some).1 (omega (arith, a, l))

work_mono : (rows : List Declared) (i x y : ℕ) → ((j : ℕ) → 1 ≤ (row_at rows j).gap) → x ≤ y → (j : ℕ) →
    work_over rows i x j ≤ work_over rows i y j
unfolding work_over
work_mono rows i x y gaps l j =
    by (not (j == i)) (not (nat_lt (row_at rows j).priority (row_at rows i).priority))
  where
    more : releases_within x (row_at rows j).gap * (row_at rows j).cost
        ≤ releases_within y (row_at rows j).gap * (row_at rows j).cost
    more = mul-le-mul_right (row_at rows j).cost (within_mono x y (row_at rows j).gap (gaps j) l)

    by : (a b : Bool) →
        (if a then if b then releases_within x (row_at rows j).gap * (row_at rows j).cost else 0 else 0)
        ≤ (if a then if b then releases_within y (row_at rows j).gap * (row_at rows j).cost else 0 else 0)
    by true true = more
    by true false = omega arith
    by false b = omega arith

pub demand_mono : (rows : List Declared) (i x y : ℕ) → ((j : ℕ) → 1 ≤ (row_at rows j).gap) → x ≤ y →
    demand rows i x ≤ demand rows i y
unfolding demand other_work
demand_mono rows i x y gaps l =
    let a : sum_below (work_over rows i x) (length rows) ≤ sum_below (work_over rows i y) (length rows) =
    sum_le (work_over rows i x) (work_over rows i y) (length rows) (λ j k. work_mono rows i x y gaps l j) in
    omega (arith, a)

pub gaps_of : (rows : List Declared) → AreDeclared rows → (j : ℕ) → 1 ≤ (row_at rows j).gap
unfolding row_at
gaps_of rows h j = go (slice_get rows j) (λ row e. (h.each j row e).gap_from)
  where
    go : (o : Option Declared) → ((row : Declared) → o ≡ Some row → 1 ≤ row.gap) →
        1 ≤ (elim o as (λ z. Declared) [ None ↦ no_row | Some row ↦ row ]).gap
    go None k = omega arith
    go (Some row) k = k row refl

-- the row at a place of the list
pub row_there : (rows : List Declared) → AreDeclared rows → (i : ℕ) → i < length rows → IsDeclared (row_at rows i)
unfolding row_at
row_there rows h i l = go rows i l (h.each i)
  where
    go : (rows : List Declared) (i : ℕ) → i < length rows →
        ((row : Declared) → slice_get rows i ≡ Some row → IsDeclared row) →
        IsDeclared (elim (slice_get rows i) as (λ z. Declared) [ None ↦ no_row | Some row ↦ row ])
    go [] i l k = absurd (omega (arith, l))
    go (row ∷ rows) zero l k = k row refl
    go (row ∷ rows) (suc i) l k = go rows i (omega (arith, l)) k
