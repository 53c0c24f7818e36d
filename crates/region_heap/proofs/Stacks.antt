-- Areas whose words follow one another.
use Rattle.std.specs.Prelude.{Some, slice_get}
use Rattle.std.specs.List.{sum_by}
use Rattle.std.proofs.Common.{◌≡◌, ◌∙◌, ℕ, zero, suc, ◌+◌, ◌-◌, ◌*◌, ◌<◌, ◌≤◌, List, [], ◌∷◌, ◌++◌, length, refl, ap, arith}
use Rattle.std.proofs.lemmas.List.Sums.{sum_by-cons}
use Rattle.region_heap.specs.declared.rows.AreaRow.{AreaRow}
use Rattle.region_heap.specs.Kept.{row_bytes}
use Rattle.region_heap.specs.Rows.{AreStacked, end_after}

-- the end is that of the last row
pub end_is_last : (start : ℕ) (rows : List AreaRow) (row : AreaRow) → slice_get rows (length rows - 1) ≡ Some row →
    end_after start rows ≡ row.end
end_is_last start [] row e = absurd (cc)
end_is_last start (x ∷ []) row e = let same : x ≡ row = cc in ap (λ (r : AreaRow). r.end) same
end_is_last start (x ∷ y ∷ rows) row e =
    let n : suc (length (y ∷ rows) - 1) ≡ length (x ∷ y ∷ rows) - 1 = omega arith in
    end_is_last x.end (y ∷ rows) row (ap (λ (k : ℕ). slice_get (x ∷ y ∷ rows) k) n ∙ e)

-- no area ends before its words begin
pub end_not_below : (start : ℕ) (rows : List AreaRow) → AreStacked start rows → start ≤ end_after start rows
end_not_below start [] s = omega arith
end_not_below start (x ∷ rows) s =
    let h : x.end ≤ end_after x.end rows = end_not_below x.end rows s.2 in
    omega (arith, h, s.0, s.1)

pub row_from : (start : ℕ) (rows : List AreaRow) (k : ℕ) (x : AreaRow) → AreStacked start rows →
    slice_get rows k ≡ Some x → (start ≤ x.start) × (x.start ≤ x.end) × (x.end ≤ end_after start rows)
row_from start [] k x s e = absurd (cc)
row_from start (y ∷ rows) zero x s e =
    let same : y ≡ x = cc in
    let h : y.end ≤ end_after y.end rows = end_not_below y.end rows s.2 in
    let a : y.start ≡ x.start = ap (λ (r : AreaRow). r.start) same in
    let b : y.end ≡ x.end = ap (λ (r : AreaRow). r.end) same in
    (omega (arith, a, s.0), omega (arith, a, b, s.1), omega (arith, b, h))
row_from start (y ∷ rows) (suc k) x s e =
    let h : (y.end ≤ x.start) × (x.start ≤ x.end) × (x.end ≤ end_after y.end rows) = row_from y.end rows k x s.2 e in
    (omega (arith, h.0, s.0, s.1), h.1, h.2)

-- an area ends before the next one begins
pub rows_apart : (start : ℕ) (rows : List AreaRow) (i j : ℕ) (x y : AreaRow) → AreStacked start rows → i < j →
    slice_get rows i ≡ Some x → slice_get rows j ≡ Some y → x.end ≤ y.start
rows_apart start [] i j x y s h ex ey = absurd (cc)
rows_apart start (z ∷ rows) i zero x y s h ex ey = absurd (omega (arith, h))
rows_apart start (z ∷ rows) zero (suc j) x y s h ex ey =
    let same : z ≡ x = cc in
    let a : z.end ≡ x.end = ap (λ (r : AreaRow). r.end) same in
    let f : (z.end ≤ y.start) × (y.start ≤ y.end) × (y.end ≤ end_after z.end rows) = row_from z.end rows j y s.2 ey in
    omega (arith, a, f.0)
rows_apart start (z ∷ rows) (suc i) (suc j) x y s h ex ey =
    rows_apart z.end rows i j x y s.2 (omega (arith, h)) ex ey

-- one more area, and one less
pub stacked_more : (start : ℕ) (rows : List AreaRow) (row : AreaRow) → AreStacked start rows →
    row.start ≡ end_after start rows → row.start ≤ row.end → AreStacked start (rows ++ row ∷ [])
stacked_more start [] row s e h = (e, h, tt)
stacked_more start (x ∷ rows) row s e h = (s.0, s.1, stacked_more x.end rows row s.2 e h)

pub end_more : (start : ℕ) (rows : List AreaRow) (row : AreaRow) → end_after start (rows ++ row ∷ []) ≡ row.end
end_more start [] row = refl
end_more start (x ∷ rows) row = end_more x.end rows row

pub stacked_less : (start : ℕ) (rows : List AreaRow) (row : AreaRow) → AreStacked start (rows ++ row ∷ []) →
    AreStacked start rows × (row.start ≡ end_after start rows)
stacked_less start [] row s = (tt, s.0)
stacked_less start (x ∷ rows) row s =
    let h : AreStacked x.end rows × (row.start ≡ end_after x.end rows) = stacked_less x.end rows row s.2 in
    ((s.0, s.1, h.0), h.1)

-- the bytes that are used of all areas are within the words
pub used_within : (start : ℕ) (rows : List AreaRow) → AreStacked start rows →
    ((k : ℕ) (x : AreaRow) → slice_get rows k ≡ Some x → x.mark ≤ x.end) →
    sum_by row_bytes rows + 8 * start ≤ 8 * end_after start rows
used_within start [] s h = omega arith
used_within start (x ∷ rows) s h =
    let rest : sum_by row_bytes rows + 8 * x.end ≤ 8 * end_after x.end rows =
    used_within x.end rows s.2 (λ k y e. h (suc k) y e) in
    let mark : x.mark ≤ x.end = h 0 x refl in
    let sum : sum_by row_bytes (x ∷ rows) ≡ row_bytes x + sum_by row_bytes rows = sum_by-cons row_bytes x rows in
    omega (arith, rest, mark, sum, s.0, s.1)
