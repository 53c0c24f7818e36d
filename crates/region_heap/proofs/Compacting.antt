-- Rows are moved down as far as they are kept.
use Rattle.std.specs.Prelude.{Some, cond, filter, nat_lt, slice_get, slice_set, take}
use Rattle.std.proofs.Common.{◌≡◌, ◌∙◌, Bool, true, false, ℕ, zero, suc, ◌+◌, ◌<◌, ◌≤◌, List, [], ◌∷◌, ◌++◌, length, refl, ap, sym, arith, length-set}
use Rattle.std.proofs.lemmas.Bool.Decides.{nat_tests}
use Rattle.std.proofs.lemmas.List.{take_all}
use Rattle.std.proofs.lemmas.List.Elements.{filter-append}
use Rattle.region_heap.specs.declared.rows.ObjectRow.{ObjectRow}
use Rattle.region_heap.specs.MovedRows.{AreMovedDown}
use Rattle.region_heap.specs.Rows.{begins_below}
use Rattle.region_heap.proofs.Lists.{get_within, set_get_other}

-- one more of the first elements
pub take_one : {A : Type 0} (xs : List A) (i : ℕ) (x : A) → slice_get xs i ≡ Some x →
    take (suc i) xs ≡ take i xs ++ x ∷ []
take_one [] i x e = absurd (cc)
take_one (y ∷ xs) zero x e = let same : y ≡ x = cc in ap (λ z. z ∷ []) same
take_one (y ∷ xs) (suc i) x e = ap (λ zs. y ∷ zs) (take_one xs i x e)

pub take_set : {A : Type 0} (xs : List A) (k : ℕ) (x : A) → k < length xs →
    take (suc k) (slice_set xs k x) ≡ take k xs ++ x ∷ []
take_set [] k x h = absurd (omega (arith, h))
take_set (y ∷ xs) zero x h = refl
take_set (y ∷ xs) (suc k) x h = ap (λ zs. y ∷ zs) (take_set xs k x (omega (arith, h)))

module _ (start : ℕ) where
  abbrev below : List ObjectRow → List ObjectRow
  below rows = filter (begins_below start) rows

  one : (x : ObjectRow) (b : Bool) → nat_lt x.first start ≡ b → below (x ∷ []) ≡ cond b (x ∷ []) []
  one x b e = ap (λ (z : Bool). cond z (x ∷ []) []) e

  -- one more row is kept
  pub row_kept : (all now : List ObjectRow) (i k : ℕ) (x : ObjectRow) → k < length now → slice_get all i ≡ Some x →
      take k now ≡ below (take i all) → nat_lt x.first start ≡ true →
      take (k + 1) (slice_set now k x) ≡ below (take (i + 1) all)
  row_kept all now i k x h e so_far t =
      let next : suc k ≡ k + 1 = omega arith in
      let after : suc i ≡ i + 1 = omega arith in
      ap (λ (n : ℕ). take n (slice_set now k x)) (sym next)
      ∙ (take_set now k x h
      ∙ (ap (λ (xs : List ObjectRow). xs ++ x ∷ []) so_far
      ∙ (ap (λ (xs : List ObjectRow). below (take i all) ++ xs) (sym (one x true t))
      ∙ (sym (filter-append (begins_below start) (take i all) (x ∷ []))
      ∙ (ap below (sym (take_one all i x e)) ∙ ap (λ (n : ℕ). below (take n all)) after)))))

  -- one more row isn't
  pub row_given_up : (all now : List ObjectRow) (i k : ℕ) (x : ObjectRow) → slice_get all i ≡ Some x →
      take k now ≡ below (take i all) → nat_lt x.first start ≡ false → take k now ≡ below (take (i + 1) all)
  row_given_up all now i k x e so_far t =
      let after : suc i ≡ i + 1 = omega arith in
      so_far
      ∙ (append_none (below (take i all))
      ∙ (ap (λ (xs : List ObjectRow). below (take i all) ++ xs) (sym (one x false t))
      ∙ (sym (filter-append (begins_below start) (take i all) (x ∷ []))
      ∙ (ap below (sym (take_one all i x e)) ∙ ap (λ (n : ℕ). below (take n all)) after))))
    where
      append_none : (xs : List ObjectRow) → xs ≡ xs ++ []
      append_none [] = refl
      append_none (y ∷ xs) = ap (λ zs. y ∷ zs) (append_none xs)

  -- the first rows are all kept
  pub first_kept : (all : List ObjectRow) (base : ℕ) → base ≤ length all →
      ((i : ℕ) (x : ObjectRow) → i < base → slice_get all i ≡ Some x → nat_lt x.first start ≡ true) →
      take base all ≡ below (take base all)
  first_kept all zero h t = refl
  first_kept [] (suc base) h t = absurd (omega (arith, h))
  first_kept (x ∷ all) (suc base) h t =
      let here : nat_lt x.first start ≡ true = t 0 x (omega arith) refl in
      let rest : take base all ≡ below (take base all) =
      first_kept all base (omega (arith, h)) (λ i y lt e. t (suc i) y (omega (arith, lt)) e) in
      ap (λ zs. x ∷ zs) rest
      ∙ sym (ap (λ (b : Bool). cond b (x ∷ below (take base all)) (below (take base all))) here)

  -- ---- the loop

  pub move_none : (all : List ObjectRow) (base : ℕ) → base ≤ length all →
      ((i : ℕ) (x : ObjectRow) → i < base → slice_get all i ≡ Some x → x.first < start) →
      AreMovedDown start all all base base
  move_none all base h t =
      record {
        order = omega arith;
        most = h;
        long = refl;
        done = first_kept all base h (λ i x lt e. is_below x (t i x lt e));
        rest = λ j low. refl;
      }
    where
      is_below : (x : ObjectRow) → x.first < start → nat_lt x.first start ≡ true
      is_below x b = grind (arith, nat_tests)

  pub move_one : (all now : List ObjectRow) (i k : ℕ) (x : ObjectRow) → AreMovedDown start all now i k →
      slice_get now i ≡ Some x → x.first < start → AreMovedDown start all (slice_set now k x) (i + 1) (k + 1)
  move_one all now i k x m e b =
      let within : i < length now = get_within now i x e in
      let here : slice_get all i ≡ Some x = sym (m.rest i (omega arith)) ∙ e in
      let below : nat_lt x.first start ≡ true = grind (arith, nat_tests) in
      record {
        order = omega (arith, m.order);
        most = omega (arith, within, m.long);
        long = length-set now k x ∙ m.long;
        done = row_kept all now i k x (omega (arith, within, m.order)) here m.done below;
        rest = λ j low. set_get_other now k j x (λ s. omega (arith, s, low, m.order)) ∙ m.rest j (omega (arith, low));
      }

  pub pass_one : (all now : List ObjectRow) (i k : ℕ) (x : ObjectRow) → AreMovedDown start all now i k →
      slice_get now i ≡ Some x → start ≤ x.first → AreMovedDown start all now (i + 1) k
  pass_one all now i k x m e b =
      let within : i < length now = get_within now i x e in
      let here : slice_get all i ≡ Some x = sym (m.rest i (omega arith)) ∙ e in
      let above : nat_lt x.first start ≡ false = grind (arith, nat_tests) in
      record {
        order = omega (arith, m.order);
        most = omega (arith, within, m.long);
        long = m.long;
        done = row_given_up all now i k x here m.done above;
        rest = λ j low. m.rest j (omega (arith, low));
      }

  pub all_moved : (all now : List ObjectRow) (i k : ℕ) → AreMovedDown start all now i k → length all ≤ i →
      take k now ≡ filter (begins_below start) all
  all_moved all now i k m h = m.done ∙ ap below (take_all i all h)
