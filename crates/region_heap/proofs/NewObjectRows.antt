-- The rows once an object is made.
use Rattle.std.specs.Prelude.{Some, slice_get, slice_set}
use Rattle.std.specs.List.{sum_by}
use Rattle.std.proofs.Common.{◌≡◌, ◌∙◌, ◌⊎◌, inl, inr, true, ℕ, zero, suc, ◌+◌, ◌<◌, ◌≤◌, List, [], ◌∷◌, ◌++◌, ap, sym, subst, arith, length-append}
use Rattle.region_heap.specs.declared.rows.AreaRow.{AreaRow}
use Rattle.region_heap.specs.declared.rows.ObjectRow.{ObjectRow}
use Rattle.region_heap.specs.Kept.{IsBased, IsRow, object_bytes, row_bytes, used_bytes}
use Rattle.region_heap.specs.Rows.{AreStacked, HasRow, end_after, object_rows}
use Rattle.region_heap.proofs.Lists.{get_before, same_or, set_get_other, three}
use Rattle.region_heap.proofs.ObjectRows.{row_more}
use Rattle.region_heap.proofs.Opening.{start_within}
use Rattle.region_heap.proofs.Sums.{sum_set, used_beside}
use Rattle.region_heap.proofs.NewObject.{Making, after, made, all, test, n, rows, listing, is_row, is_open, bytes, row_next, RowWas, here, there, was_row, next_is}

-- a row that has another mark
pub stacked_set : (start : ℕ) (rows : List AreaRow) (k : ℕ) (x y : AreaRow) → slice_get rows k ≡ Some x →
    y.start ≡ x.start → y.end ≡ x.end → AreStacked start rows →
    AreStacked start (slice_set rows k y) × (end_after start (slice_set rows k y) ≡ end_after start rows)
stacked_set start [] k x y e a b s = absurd (cc)
stacked_set start (z ∷ rows) zero x y e a b s =
    let same : z ≡ x = cc in
    let first : y.start ≡ z.start = a ∙ sym (ap (λ (r : AreaRow). r.start) same) in
    let last : y.end ≡ z.end = b ∙ sym (ap (λ (r : AreaRow). r.end) same) in (
      (first ∙ s.0, omega (arith, first, last, s.1), subst (λ (n : ℕ). AreStacked n rows) (sym last) s.2),
      ap (λ (n : ℕ). end_after n rows) last,
    )
stacked_set start (z ∷ rows) (suc k) x y e a b s =
    let h : AreStacked z.end (slice_set rows k y) × (end_after z.end (slice_set rows k y) ≡ end_after z.end rows) =
    stacked_set z.end rows k x y e a b s.2 in
    ((s.0, s.1, h.0), h.1)

module _ (making : Making) where
  row_still : (i : ℕ) (x : AreaRow) → (i ≡ making.k → ⊥) → slice_get making.areas i ≡ Some x → IsRow (after making).contents x
  row_still i x d e =
      let r : IsRow making.past.contents x = making.kept.rows i x e in
      let same : used_bytes ((all making) ++ (made making) ∷ []) x.area ≡ used_bytes (all making) x.area =
      used_beside (all making) x.area (made making) (λ s. other (three i making.k) s) in
      record {
        area = r.area;
        is = r.is;
        is_open = r.is_open;
        scope = r.scope;
        bytes = r.bytes;
        used = omega (arith, r.used, same);
        room = r.room;
        words = r.words;
      }
    where
      other : (i < making.k) ⊎ ((i ≡ making.k) ⊎ (making.k < i)) → making.area ≡ x.area → ⊥
      other (inl lt) s =
          let less : x.area < making.row.area = making.kept.in_order i making.k x making.row lt e making.is in
          omega (arith, less, s, making.of_area)
      other (inr (inl t)) s = d t
      other (inr (inr lt)) s =
          let less : making.row.area < x.area = making.kept.in_order making.k i making.row x lt making.is e in
          omega (arith, less, s, making.of_area)

  pub each_row : (i : ℕ) (x : AreaRow) → RowWas making i x → IsRow (after making).contents x
  each_row i x (here s e) = subst (λ (y : AreaRow). IsRow (after making).contents y) (sym e) (next_is making)
  each_row i x (there d e) = row_still i x d e

  pub has_row : (a : ℕ) → (test making) a ≡ true → HasRow (rows making) a
  has_row a t = go (same_or r.k making.k)
    where
      r : HasRow making.areas a
      r = making.kept.has_row a t

      go : (r.k ≡ making.k) ⊎ (r.k ≡ making.k → ⊥) → HasRow (rows making) a
      go (inl e) =
          let at : slice_get making.areas r.k ≡ Some making.row = ap (λ (z : ℕ). slice_get making.areas z) e ∙ making.is in
          let there : slice_get making.areas r.k ≡ Some r.is_row.row = r.is_row.is in
          let same : r.is_row.row ≡ making.row = cc in
          record {
            k = making.k;
            is_row = record {
              row = making.next;
              is = row_next making;
              of_area = making.same_area ∙ (ap (λ (z : AreaRow). z.area) (sym same) ∙ r.is_row.of_area);
            };
          }
      go (inr d) =
          record {
            k = r.k;
            is_row = record {
              row = r.is_row.row;
              is = set_get_other making.areas making.k r.k making.next d ∙ r.is_row.is;
              of_area = r.is_row.of_area;
            };
          }

  pub in_order : (i j : ℕ) (x y : AreaRow) → i < j → RowWas making i x → RowWas making j y → x.area < y.area
  in_order i j x y h wx wy =
      let a : (z : AreaRow) × (slice_get making.areas i ≡ Some z) × (x.area ≡ z.area) = was_row making i x wx in
      let b : (z : AreaRow) × (slice_get making.areas j ≡ Some z) × (y.area ≡ z.area) = was_row making j y wy in
      let less : a.0.area < b.0.area = making.kept.in_order i j a.0 b.0 h a.1 b.1 in
      omega (arith, less, a.2, b.2)

  more_based : (x : AreaRow) → IsBased making.objects x → IsBased (listing making) x
  more_based x b =
      record {
        within = omega (arith, b.within, length-append making.objects (record { number = n making; first = making.row.mark } ∷ []));
        below = λ i y lt e.
            b.below i y lt (sym (get_before making.objects (record { number = n making; first = making.row.mark }) i
            (omega (arith, lt, b.within))) ∙ e);
      }

  pub based : (i : ℕ) (x : AreaRow) → RowWas making i x → IsBased (listing making) x
  based i x (there d e) = more_based x (making.kept.based i x e)
  based i x (here s e) =
      let b : IsBased making.objects making.row = making.kept.based making.k making.row making.is in
      let c : IsBased making.objects making.next = record {
        within = omega (arith, b.within, making.same_base);
        below = λ j y lt f.
            let h : y.first < making.row.start = b.below j y (omega (arith, lt, making.same_base)) f in
            omega (arith, h, making.same_start);
      } in
      subst (λ (y : AreaRow). IsBased (listing making) y) (sym e) (more_based making.next c)

  pub stack : AreStacked 0 (rows making) × (end_after 0 (rows making) ≡ end_after 0 making.areas)
  stack = stacked_set 0 making.areas making.k making.row making.next making.is making.same_start making.same_end making.kept.stacked

  pub sums : sum_by row_bytes (rows making) ≡ sum_by row_bytes making.areas + object_bytes (made making)
  sums =
      let h : sum_by row_bytes (rows making) + row_bytes making.row ≡ sum_by row_bytes making.areas + row_bytes making.next =
      sum_set row_bytes making.areas making.k making.row making.next making.is in
      let start : making.row.start ≤ making.row.mark = start_within making.past.contents making.row (is_row making) in
      omega (arith, h, making.mark, making.same_start, start, bytes making)

  pub listed : (listing making) ≡ object_rows (test making) 0 ((all making) ++ (made making) ∷ []) (making.past.firsts ++ making.row.mark ∷ [])
  listed =
      let at : (n making) ≡ 0 + (n making) = omega arith in
      ap (λ (xs : List ObjectRow). xs ++ record { number = n making; first = making.row.mark } ∷ []) making.kept.listed
      ∙ (ap (λ (i : ℕ). object_rows (test making) 0 (all making) making.past.firsts ++ record { number = i; first = making.row.mark } ∷ []) at
      ∙ sym (row_more (test making) 0 (all making) making.past.firsts (made making) making.row.mark making.kept.firsts (is_open making)))
