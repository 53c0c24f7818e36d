-- Where live objects lie once an object is made.
use Rattle.std.specs.Prelude.{Some, None, slice_get, slice_index}
use Rattle.std.proofs.Common.{◌≡◌, ◌∙◌, ◌⊎◌, inl, inr, ℕ, ◌+◌, ◌<◌, ◌≤◌, [], ◌∷◌, ◌++◌, length, ap, sym, subst, arith}
use Rattle.scj_model.specs.State.{Object}
use Rattle.region_heap.specs.declared.rows.AreaRow.{AreaRow}
use Rattle.region_heap.specs.Kept.{LiesAt, LiesIn}
use Rattle.region_heap.proofs.Changing.{lies_still}
use Rattle.region_heap.proofs.Lists.{get_before, get_behind, get_last, same_or, set_get_other, three}
use Rattle.region_heap.proofs.Live.{open_within}
use Rattle.region_heap.proofs.Opening.{start_within}
use Rattle.region_heap.proofs.NewObject.{Making, after, made, all, n, rows, first_before, first_new, is_row, is_open, Was, old, new, row_next, apart_from_new}

module _ (making : Making) where
  pub laid : (p : ℕ) (o : Object) → Was making p o → LiesAt making.us (slice_index (after making).firsts p) o
  laid p o (old h l) =
      subst (λ (x : ℕ). LiesAt making.us x o) (sym (first_before making p h))
      (lies_still making.ws making.us (slice_index making.past.firsts p) o (making.kept.laid p o l) making.laid_out.within.long
      (λ j low high. making.laid_out.within.same j (beside j low high (apart_from_new making p o l))))
    where
      beside : (j : ℕ) → slice_index making.past.firsts p ≤ j → j < slice_index making.past.firsts p + 2 + length o.slots →
          (slice_index making.past.firsts p + 2 + length o.slots ≤ making.row.mark)
          ⊎ (making.row.mark + 2 + length making.slots ≤ slice_index making.past.firsts p) →
          (j < making.row.mark) ⊎ (making.row.mark + 2 + length making.slots ≤ j)
      beside j low high (inl z) = inl (omega (arith, high, z))
      beside j low high (inr z) = inr (omega (arith, low, z))
  laid p o (new e s) =
      subst (λ (x : Object). LiesAt making.us (slice_index (after making).firsts p) x) (sym s)
      (subst (λ (x : ℕ). LiesAt making.us (slice_index (after making).firsts x) (made making)) (sym e)
      (subst (λ (x : ℕ). LiesAt making.us x (made making)) (sym (first_new making)) making.laid_out.lies))

  -- an object that lay in a row lies in it
  placed_old : (first : ℕ) (o : Object) → LiesIn making.areas first o → LiesIn (rows making) first o
  placed_old first o h = go (same_or h.k making.k)
    where
      go : (h.k ≡ making.k) ⊎ (h.k ≡ making.k → ⊥) → LiesIn (rows making) first o
      go (inl e) =
          let at : slice_get making.areas h.k ≡ Some making.row = ap (λ (z : ℕ). slice_get making.areas z) e ∙ making.is in
          let there : slice_get making.areas h.k ≡ Some h.row = h.is in
          let same : h.row ≡ making.row = cc in
          record {
            k = making.k;
            row = making.next;
            is = row_next making;
            of_area = making.same_area ∙ (ap (λ (z : AreaRow). z.area) (sym same) ∙ h.of_area);
            start = omega (arith, h.start, making.same_start, ap (λ (z : AreaRow). z.start) same);
            mark = omega (arith, h.mark, making.mark, ap (λ (z : AreaRow). z.mark) same);
          }
      go (inr d) =
          record {
            k = h.k;
            row = h.row;
            is = set_get_other making.areas making.k h.k making.next d ∙ h.is;
            of_area = h.of_area;
            start = h.start;
            mark = h.mark;
          }

  placed_new : LiesIn (rows making) making.row.mark (made making)
  placed_new =
      let start : making.row.start ≤ making.row.mark = start_within making.past.contents making.row (is_row making) in
      record {
        k = making.k;
        row = making.next;
        is = row_next making;
        of_area = making.same_area ∙ making.of_area;
        start = omega (arith, making.same_start, start);
        mark = omega (arith, making.mark);
      }

  pub placed : (p : ℕ) (o : Object) → Was making p o → LiesIn (rows making) (slice_index (after making).firsts p) o
  placed p o (old h l) =
      subst (λ (x : ℕ). LiesIn (rows making) x o) (sym (first_before making p h))
      (placed_old (slice_index making.past.firsts p) o (making.kept.placed p o l))
  placed p o (new e s) =
      subst (λ (x : Object). LiesIn (rows making) (slice_index (after making).firsts p) x) (sym s)
      (subst (λ (x : ℕ). LiesIn (rows making) (slice_index (after making).firsts x) (made making)) (sym e)
      (subst (λ (x : ℕ). LiesIn (rows making) x (made making)) (sym (first_new making)) placed_new))

  pub apart : (p q : ℕ) (x y : Object) → p < q → Was making p x → Was making q y →
      (slice_index (after making).firsts p + 2 + length x.slots ≤ slice_index (after making).firsts q)
      ⊎ (slice_index (after making).firsts q + 2 + length y.slots ≤ slice_index (after making).firsts p)
  apart p q x y h (old hp lp) (old hq lq) = turn (making.kept.apart p q x y h lp lq)
    where
      turn : (slice_index making.past.firsts p + 2 + length x.slots ≤ slice_index making.past.firsts q)
          ⊎ (slice_index making.past.firsts q + 2 + length y.slots ≤ slice_index making.past.firsts p) →
          (slice_index (after making).firsts p + 2 + length x.slots ≤ slice_index (after making).firsts q)
          ⊎ (slice_index (after making).firsts q + 2 + length y.slots ≤ slice_index (after making).firsts p)
      turn (inl z) = inl (omega (arith, z, first_before making p hp, first_before making q hq))
      turn (inr z) = inr (omega (arith, z, first_before making p hp, first_before making q hq))
  apart p q x y h (old hp lp) (new e s) = turn (apart_from_new making p x lp)
    where
      at_q : slice_index (after making).firsts q ≡ making.row.mark
      at_q = ap (λ (z : ℕ). slice_index (after making).firsts z) e ∙ (first_new making)

      count : length y.slots ≡ length making.slots
      count = ap (λ (z : Object). length z.slots) s

      turn : (slice_index making.past.firsts p + 2 + length x.slots ≤ making.row.mark)
          ⊎ (making.row.mark + 2 + length making.slots ≤ slice_index making.past.firsts p) →
          (slice_index (after making).firsts p + 2 + length x.slots ≤ slice_index (after making).firsts q)
          ⊎ (slice_index (after making).firsts q + 2 + length y.slots ≤ slice_index (after making).firsts p)
      turn (inl z) = inl (omega (arith, z, first_before making p hp, at_q))
      turn (inr z) = inr (omega (arith, z, first_before making p hp, at_q, count))
  apart p q x y h (new e s) (old hq lq) = absurd (omega (arith, h, e, hq))
  apart p q x y h (new e s) (new t u) = absurd (omega (arith, h, e, t))

  pub inside : (p : ℕ) (o : Object) → slice_get ((all making) ++ (made making) ∷ []) p ≡ Some o → o.area < length making.past.contents.areas
  inside p o e = go (three p (n making))
    where
      there : making.area < length making.past.contents.areas
      there = open_within making.past.contents making.area (is_open making)

      go : (p < (n making)) ⊎ ((p ≡ (n making)) ⊎ ((n making) < p)) → o.area < length making.past.contents.areas
      go (inl h) = making.kept.inside p o (sym (get_before (all making) (made making) p h) ∙ e)
      go (inr (inl s)) =
          let last : slice_get ((all making) ++ (made making) ∷ []) p ≡ Some (made making) =
          ap (λ (x : ℕ). slice_get ((all making) ++ (made making) ∷ []) x) s ∙ get_last (all making) (made making) in
          let same : (made making) ≡ o = cc in
          let at : making.area ≡ o.area = ap (λ (z : Object). z.area) same in
          omega (arith, there, at)
      go (inr (inr h)) =
          let none : slice_get ((all making) ++ (made making) ∷ []) p ≡ None = get_behind (all making) (made making) p h in
          absurd (cc)
