-- The rows of objects when an object changes, when an area is opened or closed, and how many there are.
use Rattle.std.specs.Prelude.{Option, Some, None, filter, cond, nat_lt, slice_get, slice_set, if◌then◌else◌}
use Rattle.std.specs.List.{sum_by}
use Rattle.std.proofs.Common.{◌≡◌, ◌∙◌, Bool, true, false, ℕ, zero, suc, ◌+◌, ◌*◌, ◌≤◌, List, [], ◌∷◌, length, refl, ap, sym, arith}
use Rattle.std.proofs.lemmas.List.Sums.{sum_by-cons}
use Rattle.scj_rules.specs.Layout.{size_with_slots}
use Rattle.scj_model.specs.State.{Object, changed}
use Rattle.region_heap.specs.declared.rows.ObjectRow.{ObjectRow}
use Rattle.region_heap.specs.Kept.{live_bytes, object_bytes}
use Rattle.region_heap.specs.Rows.{begins_below, object_rows}
use Rattle.region_heap.proofs.ObjectRows.{no_objects, no_firsts, no_row, one_row}

-- ---- an object that stays in its area

module _ (test : ℕ → Bool) where
  head_step : (n : ℕ) (o x : Object) (os us : List Object) (f : ℕ) (fs : List ℕ) → test x.area ≡ test o.area →
      object_rows test (n + 1) us fs ≡ object_rows test (n + 1) os fs →
      object_rows test n (x ∷ us) (f ∷ fs) ≡ object_rows test n (o ∷ os) (f ∷ fs)
  head_step n o x os us f fs same ih = go (test o.area) refl
    where
      go : (b : Bool) → test o.area ≡ b → object_rows test n (x ∷ us) (f ∷ fs) ≡ object_rows test n (o ∷ os) (f ∷ fs)
      go true t =
          one_row test n x us f fs (same ∙ t)
          ∙ (ap (λ (xs : List ObjectRow). record { number = n; first = f } ∷ xs) ih ∙ sym (one_row test n o os f fs t))
      go false t = no_row test n x us f fs (same ∙ t) ∙ (ih ∙ sym (no_row test n o os f fs t))

  pub rows_set : (n : ℕ) (os : List Object) (fs : List ℕ) (r : ℕ) (o x : Object) → slice_get os r ≡ Some o →
      x.area ≡ o.area → object_rows test n (slice_set os r x) fs ≡ object_rows test n os fs
  rows_set n [] fs r o x e s = absurd (cc)
  rows_set n (y ∷ os) [] zero o x e s = no_firsts test n x os ∙ sym (no_firsts test n y os)
  rows_set n (y ∷ os) [] (suc r) o x e s = no_firsts test n y (slice_set os r x) ∙ sym (no_firsts test n y os)
  rows_set n (y ∷ os) (f ∷ fs) zero o x e s =
      let same : y ≡ o = cc in
      let area : test x.area ≡ test y.area = ap test (s ∙ sym (ap (λ (z : Object). z.area) same)) in
      head_step n y x os os f fs area refl
  rows_set n (y ∷ os) (f ∷ fs) (suc r) o x e s =
      head_step n y y os (slice_set os r x) f fs refl (rows_set (n + 1) os fs r o x e s)

  pub rows_changed : (os : List Object) (fs : List ℕ) (r : ℕ) (change : Object → Object) →
      ((o : Object) → (change o).area ≡ o.area) → object_rows test 0 (changed change r os) fs ≡ object_rows test 0 os fs
  rows_changed os fs r change same = go (slice_get os r) refl
    where
      go : (x : Option Object) → slice_get os r ≡ x →
          object_rows test 0 (elim x as (λ z. List Object) [ None ↦ os | Some o ↦ slice_set os r (change o) ]) fs
          ≡ object_rows test 0 os fs
      go None e = refl
      go (Some o) e = rows_set 0 os fs r o (change o) e (same o)

  -- ---- how many there are

  count_step : (n : ℕ) (o : Object) (os : List Object) (f : ℕ) (fs : List ℕ) →
      16 * length (object_rows test (n + 1) os fs) ≤ sum_by (live_bytes test) os →
      16 * length (object_rows test n (o ∷ os) (f ∷ fs)) ≤ sum_by (live_bytes test) (o ∷ os)
  unfolding size_with_slots
  count_step n o os f fs ih = go (test o.area) refl
    where
      sum : sum_by (live_bytes test) (o ∷ os) ≡ live_bytes test o + sum_by (live_bytes test) os
      sum = sum_by-cons (live_bytes test) o os

      go : (b : Bool) → test o.area ≡ b →
          16 * length (object_rows test n (o ∷ os) (f ∷ fs)) ≤ sum_by (live_bytes test) (o ∷ os)
      go true t =
          let bytes : live_bytes test o ≡ 8 * (2 + length o.slots) =
          ap (λ (b : Bool). if b then object_bytes o else 0) t in
          let long : length (object_rows test n (o ∷ os) (f ∷ fs)) ≡ suc (length (object_rows test (n + 1) os fs)) =
          ap (λ (xs : List ObjectRow). length xs) (one_row test n o os f fs t) in
          omega (arith, sum, bytes, long, ih)
      go false t =
          let bytes : live_bytes test o ≡ 0 = ap (λ (b : Bool). if b then object_bytes o else 0) t in
          let long : length (object_rows test n (o ∷ os) (f ∷ fs)) ≡ length (object_rows test (n + 1) os fs) =
          ap (λ (xs : List ObjectRow). length xs) (no_row test n o os f fs t) in
          omega (arith, sum, bytes, long, ih)

  pub few_rows : (n : ℕ) (os : List Object) (fs : List ℕ) →
      16 * length (object_rows test n os fs) ≤ sum_by (live_bytes test) os
  few_rows n [] fs =
      let none : length (object_rows test n [] fs) ≡ 0 = ap (λ (xs : List ObjectRow). length xs) (no_objects test n
      fs) in
      omega (arith, none)
  few_rows n (o ∷ os) [] =
      let none : length (object_rows test n (o ∷ os) []) ≡ 0 =
      ap (λ (xs : List ObjectRow). length xs) (no_firsts test n o os) in
      omega (arith, none)
  few_rows n (o ∷ os) (f ∷ fs) = count_step n o os f fs (few_rows (n + 1) os fs)

-- ---- another test

-- the rows that are kept are those that begin below a word
module _ (test after : ℕ → Bool) (start : ℕ) where
  -- of an object, whether it stays open is whether it begins below the word
  pub record Splits (os : List Object) (fs : List ℕ) : Type 0 where
    pub kept : (p f : ℕ) (o : Object) → slice_get os p ≡ Some o → slice_get fs p ≡ Some f → test o.area ≡ true →
        after o.area ≡ nat_lt f start
    pub closed : (p : ℕ) (o : Object) → slice_get os p ≡ Some o → test o.area ≡ false → after o.area ≡ false

  abbrev below : List ObjectRow → List ObjectRow
  below rows = filter (begins_below start) rows

  abbrev row : ℕ → ℕ → ObjectRow
  row n f = record { number = n; first = f }

  split_step : (n : ℕ) (o : Object) (os : List Object) (f : ℕ) (fs : List ℕ) → Splits (o ∷ os) (f ∷ fs) →
      object_rows after (n + 1) os fs ≡ below (object_rows test (n + 1) os fs) →
      object_rows after n (o ∷ os) (f ∷ fs) ≡ below (object_rows test n (o ∷ os) (f ∷ fs))
  split_step n o os f fs s ih = go (test o.area) refl (nat_lt f start) refl
    where
      first_of : (b : Bool) → nat_lt f start ≡ b →
          below (row n f ∷ object_rows test (n + 1) os fs)
          ≡ cond b (row n f ∷ below (object_rows test (n + 1) os fs)) (below (object_rows test (n + 1) os fs))
      first_of b e =
          ap (λ (z : Bool). cond z (row n f ∷ below (object_rows test (n + 1) os fs)) (below (object_rows test
          (n + 1) os fs))) e

      go : (b : Bool) → test o.area ≡ b → (d : Bool) → nat_lt f start ≡ d →
          object_rows after n (o ∷ os) (f ∷ fs) ≡ below (object_rows test n (o ∷ os) (f ∷ fs))
      go true t true e =
          one_row after n o os f fs (s.kept 0 f o refl refl t ∙ e)
          ∙ (ap (λ (xs : List ObjectRow). row n f ∷ xs) ih
          ∙ (sym (first_of true e) ∙ ap below (sym (one_row test n o os f fs t))))
      go true t false e =
          no_row after n o os f fs (s.kept 0 f o refl refl t ∙ e)
          ∙ (ih ∙ (sym (first_of false e) ∙ ap below (sym (one_row test n o os f fs t))))
      go false t d e =
          no_row after n o os f fs (s.closed 0 o refl t) ∙ (ih ∙ ap below (sym (no_row test n o os f fs t)))

  pub rows_below : (n : ℕ) (os : List Object) (fs : List ℕ) → Splits os fs →
      object_rows after n os fs ≡ below (object_rows test n os fs)
  rows_below n [] fs s = no_objects after n fs ∙ ap below (sym (no_objects test n fs))
  rows_below n (o ∷ os) [] s = no_firsts after n o os ∙ ap below (sym (no_firsts test n o os))
  rows_below n (o ∷ os) (f ∷ fs) s =
      split_step n o os f fs s
      (rows_below (n + 1) os fs
      (record { kept = λ p g x ex eg t. s.kept (suc p) g x ex eg t; closed = λ p x ex t. s.closed (suc p) x ex t }))

-- the same test for each object
module _ (test after : ℕ → Bool) where
  same_step : (n : ℕ) (o : Object) (os : List Object) (f : ℕ) (fs : List ℕ) → after o.area ≡ test o.area →
      object_rows after (n + 1) os fs ≡ object_rows test (n + 1) os fs →
      object_rows after n (o ∷ os) (f ∷ fs) ≡ object_rows test n (o ∷ os) (f ∷ fs)
  same_step n o os f fs same ih = go (test o.area) refl
    where
      go : (b : Bool) → test o.area ≡ b →
          object_rows after n (o ∷ os) (f ∷ fs) ≡ object_rows test n (o ∷ os) (f ∷ fs)
      go true t =
          one_row after n o os f fs (same ∙ t)
          ∙ (ap (λ (xs : List ObjectRow). record { number = n; first = f } ∷ xs) ih ∙ sym (one_row test n o os f fs t))
      go false t = no_row after n o os f fs (same ∙ t) ∙ (ih ∙ sym (no_row test n o os f fs t))

  pub rows_same : (n : ℕ) (os : List Object) (fs : List ℕ) →
      ((p : ℕ) (o : Object) → slice_get os p ≡ Some o → after o.area ≡ test o.area) →
      object_rows after n os fs ≡ object_rows test n os fs
  rows_same n [] fs h = no_objects after n fs ∙ sym (no_objects test n fs)
  rows_same n (o ∷ os) [] h = no_firsts after n o os ∙ sym (no_firsts test n o os)
  rows_same n (o ∷ os) (f ∷ fs) h =
      same_step n o os f fs (h 0 o refl) (rows_same (n + 1) os fs (λ p x e. h (suc p) x e))
