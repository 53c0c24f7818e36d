-- The bytes of objects and areas, when an object is made or changed and an area is opened or closed.
use Rattle.std.specs.Prelude.{Option, Some, None, slice_get, slice_set, if◌then◌else◌, ◌==◌}
use Rattle.std.specs.List.{sum_by}
use Rattle.std.proofs.Common.{◌≡◌, ◌≢◌, ◌∙◌, Bool, true, false, ℕ, zero, suc, ◌+◌, List, [], ◌∷◌, ◌++◌, refl, ap, sym, arith}
use Rattle.std.proofs.lemmas.Bool.Decides.{nat_tests}
use Rattle.std.proofs.lemmas.List.Sums.{sum_by-append, sum_by-cons}
use Rattle.scj_model.specs.State.{MemoryArea, Object, changed}
use Rattle.scj_model.specs.Memory.{rounded_up}
use Rattle.region_heap.specs.Contents.{closed_area, new_area}
use Rattle.region_heap.specs.Kept.{all_live_bytes, area_words, bytes_in, live_bytes, object_bytes, reserved_bytes, used_bytes}

-- ---- one element is another one

module _ {A : Type 0} (g : A → ℕ) where
  pub sum_set : (xs : List A) (i : ℕ) (x y : A) → slice_get xs i ≡ Some x →
      sum_by g (slice_set xs i y) + g x ≡ sum_by g xs + g y
  sum_set [] i x y e = absurd (cc)
  sum_set (z ∷ xs) zero x y e =
      let same : z ≡ x = cc in
      let weight : g z ≡ g x = ap g same in
      omega (arith, weight, sum_by-cons g y xs, sum_by-cons g z xs)
  sum_set (z ∷ xs) (suc i) x y e =
      let h : sum_by g (slice_set xs i y) + g x ≡ sum_by g xs + g y = sum_set xs i x y e in
      omega (arith, h, sum_by-cons g z (slice_set xs i y), sum_by-cons g z xs)

  pub sum_changed : (f : A → A) (r : ℕ) (xs : List A) → ((x : A) → slice_get xs r ≡ Some x → g (f x) ≡ g x) →
      sum_by g (changed f r xs) ≡ sum_by g xs
  sum_changed f r xs same = go (slice_get xs r) refl
    where
      go : (o : Option A) → slice_get xs r ≡ o →
          sum_by g (elim o as (λ z. List A) [ None ↦ xs | Some y ↦ slice_set xs r (f y) ]) ≡ sum_by g xs
      go None e = refl
      go (Some x) e =
          let h : sum_by g (slice_set xs r (f x)) + g x ≡ sum_by g xs + g (f x) = sum_set xs r x (f x) e in
          let s : g (f x) ≡ g x = same x e in
          omega (arith, h, s)

  pub sum_more : (xs : List A) (y : A) → sum_by g (xs ++ y ∷ []) ≡ sum_by g xs + g y
  sum_more xs y = omega (arith, sum_by-append g xs (y ∷ []), sum_by-cons g y [])

-- sums of weights that are the same for each element
pub sum_same : {A : Type 0} (g h : A → ℕ) (xs : List A) →
    ((i : ℕ) (x : A) → slice_get xs i ≡ Some x → g x ≡ h x) → sum_by g xs ≡ sum_by h xs
sum_same g h [] e = refl
sum_same g h (x ∷ xs) e =
    let rest : sum_by g xs ≡ sum_by h xs = sum_same g h xs (λ i y s. e (suc i) y s) in
    let here : g x ≡ h x = e 0 x refl in
    omega (arith, rest, here, sum_by-cons g x xs, sum_by-cons h x xs)

-- a sum of two weights
pub sum_of_two : {A : Type 0} (f g h : A → ℕ) (xs : List A) →
    ((i : ℕ) (x : A) → slice_get xs i ≡ Some x → f x ≡ g x + h x) → sum_by f xs ≡ sum_by g xs + sum_by h xs
sum_of_two f g h [] e = refl
sum_of_two f g h (x ∷ xs) e =
    let rest : sum_by f xs ≡ sum_by g xs + sum_by h xs = sum_of_two f g h xs (λ i y s. e (suc i) y s) in
    let here : f x ≡ g x + h x = e 0 x refl in
    omega (arith, rest, here, sum_by-cons f x xs, sum_by-cons g x xs, sum_by-cons h x xs)

-- ---- areas

pub reserved_more : (areas : List MemoryArea) (scope : ℕ) (parent : Option ℕ) (bytes : ℕ) →
    reserved_bytes (areas ++ new_area scope parent bytes ∷ []) ≡ reserved_bytes areas + rounded_up bytes
unfolding reserved_bytes
reserved_more areas scope parent bytes = sum_more area_words areas (new_area scope parent bytes)

pub reserved_less : (areas : List MemoryArea) (a : ℕ) (x : MemoryArea) → slice_get areas a ≡ Some x →
    x.is_open ≡ true → reserved_bytes (changed closed_area a areas) + rounded_up x.bytes ≡ reserved_bytes areas
unfolding reserved_bytes
reserved_less areas a x e t =
    let h : sum_by area_words (slice_set areas a (closed_area x)) + area_words x ≡ sum_by area_words areas + 0 =
    sum_set area_words areas a x (closed_area x) e in
    let s : sum_by area_words (changed closed_area a areas) ≡ sum_by area_words (slice_set areas a (closed_area x)) =
    ap (λ (o : Option MemoryArea). sum_by area_words
    (elim o as (λ z. List MemoryArea) [ None ↦ areas | Some y ↦ slice_set areas a (closed_area y) ])) e in
    let w : area_words x ≡ rounded_up x.bytes = ap (λ (b : Bool). if b then rounded_up x.bytes else 0) t in
    omega (arith, h, s, w)

-- ---- objects

module _ (objects : List Object) where
  -- one more object of an area, and of another one
  pub used_more : (a : ℕ) (o : Object) → o.area ≡ a →
      used_bytes (objects ++ o ∷ []) a ≡ used_bytes objects a + object_bytes o
  unfolding used_bytes
  used_more a o e =
      let t : (o.area == a) ≡ true = grind (arith, nat_tests) in
      let b : bytes_in a o ≡ object_bytes o = ap (λ (z : Bool). if z then object_bytes o else 0) t in
      omega (arith, sum_more (bytes_in a) objects o, b)

  pub used_beside : (a : ℕ) (o : Object) → o.area ≢ a → used_bytes (objects ++ o ∷ []) a ≡ used_bytes objects a
  unfolding used_bytes
  used_beside a o d =
      let t : (o.area == a) ≡ false = grind (arith, nat_tests) in
      let b : bytes_in a o ≡ 0 = ap (λ (z : Bool). if z then object_bytes o else 0) t in
      omega (arith, sum_more (bytes_in a) objects o, b)

  pub live_more : (test : ℕ → Bool) (o : Object) → test o.area ≡ true →
      all_live_bytes test (objects ++ o ∷ []) ≡ all_live_bytes test objects + object_bytes o
  unfolding all_live_bytes
  live_more test o t =
      let b : live_bytes test o ≡ object_bytes o = ap (λ (z : Bool). if z then object_bytes o else 0) t in
      omega (arith, sum_more (live_bytes test) objects o, b)

  -- no object lies in the area
  pub used_none : (a : ℕ) → ((p : ℕ) (o : Object) → slice_get objects p ≡ Some o → o.area ≢ a) →
      used_bytes objects a ≡ 0
  unfolding used_bytes
  used_none a h = go objects h
    where
      go : (os : List Object) → ((p : ℕ) (o : Object) → slice_get os p ≡ Some o → o.area ≢ a) →
          sum_by (bytes_in a) os ≡ 0
      go [] d = refl
      go (o ∷ os) d =
          let rest : sum_by (bytes_in a) os ≡ 0 = go os (λ p x e. d (suc p) x e) in
          let other : o.area ≢ a = d 0 o refl in
          let t : (o.area == a) ≡ false = grind (arith, nat_tests) in
          let b : bytes_in a o ≡ 0 = ap (λ (z : Bool). if z then object_bytes o else 0) t in
          omega (arith, rest, b, sum_by-cons (bytes_in a) o os)

  -- what is live after an area closes, and what lay in it
  pub live_less : (test after : ℕ → Bool) (a : ℕ) → test a ≡ true → after a ≡ false →
      ((b : ℕ) → b ≢ a → after b ≡ test b) →
      all_live_bytes after objects + used_bytes objects a ≡ all_live_bytes test objects
  unfolding all_live_bytes used_bytes
  live_less test after a opened shut same =
      sym (sum_of_two (live_bytes test) (live_bytes after) (bytes_in a) objects (λ i o e. one o (o.area == a) refl))
    where
      one : (o : Object) (b : Bool) → (o.area == a) ≡ b → live_bytes test o ≡ live_bytes after o + bytes_in a o
      one o true t =
          let e : o.area ≡ a = grind (arith, nat_tests) in
          let x : live_bytes test o ≡ object_bytes o =
          ap (λ (z : Bool). if z then object_bytes o else 0) (ap test e ∙ opened) in
          let y : live_bytes after o ≡ 0 = ap (λ (z : Bool). if z then object_bytes o else 0) (ap after e ∙ shut) in
          let z : bytes_in a o ≡ object_bytes o = ap (λ (w : Bool). if w then object_bytes o else 0) t in
          omega (arith, x, y, z)
      one o false t =
          let d : o.area ≢ a = (λ e. grind (arith, nat_tests)) in
          let x : live_bytes after o ≡ live_bytes test o =
          ap (λ (z : Bool). if z then object_bytes o else 0) (same o.area d) in
          let z : bytes_in a o ≡ 0 = ap (λ (w : Bool). if w then object_bytes o else 0) t in
          omega (arith, x, z)

  pub live_same : (test after : ℕ → Bool) →
      ((p : ℕ) (o : Object) → slice_get objects p ≡ Some o → after o.area ≡ test o.area) →
      all_live_bytes after objects ≡ all_live_bytes test objects
  unfolding all_live_bytes
  live_same test after same =
      sum_same (live_bytes after) (live_bytes test) objects
      (λ p o e. ap (λ (z : Bool). if z then object_bytes o else 0) (same p o e))

  -- an object is changed that keeps its area, and if it is live its number of slots
  module _ (test : ℕ → Bool) (r : ℕ) (change : Object → Object) (area : (o : Object) → (change o).area ≡ o.area)
      (long : (o : Object) → slice_get objects r ≡ Some o → test o.area ≡ true →
      object_bytes (change o) ≡ object_bytes o)
    where
      pub used_changed : (a : ℕ) → test a ≡ true → used_bytes (changed change r objects) a ≡ used_bytes objects a
      unfolding used_bytes
      used_changed a opened = sum_changed (bytes_in a) change r objects (λ o e. one o e (o.area == a) refl)
        where
          one : (o : Object) → slice_get objects r ≡ Some o → (b : Bool) → (o.area == a) ≡ b →
              bytes_in a (change o) ≡ bytes_in a o
          one o e true t =
              let is : o.area ≡ a = grind (arith, nat_tests) in
              let bytes : object_bytes (change o) ≡ object_bytes o = long o e (ap test is ∙ opened) in
              ap (λ (n : ℕ). if n == a then object_bytes (change o) else 0) (area o)
              ∙ ap (λ (n : ℕ). if o.area == a then n else 0) bytes
          one o e false t =
              ap (λ (n : ℕ). if n == a then object_bytes (change o) else 0) (area o)
              ∙ (ap (λ (z : Bool). if z then object_bytes (change o) else 0) t
              ∙ sym (ap (λ (z : Bool). if z then object_bytes o else 0) t))

      pub live_changed : all_live_bytes test (changed change r objects) ≡ all_live_bytes test objects
      unfolding all_live_bytes
      live_changed = sum_changed (live_bytes test) change r objects (λ o e. one o e (test o.area) refl)
        where
          one : (o : Object) → slice_get objects r ≡ Some o → (b : Bool) → test o.area ≡ b →
              live_bytes test (change o) ≡ live_bytes test o
          one o e true t =
              ap (λ (n : ℕ). if test n then object_bytes (change o) else 0) (area o)
              ∙ ap (λ (n : ℕ). if test o.area then n else 0) (long o e t)
          one o e false t =
              ap (λ (n : ℕ). if test n then object_bytes (change o) else 0) (area o)
              ∙ (ap (λ (z : Bool). if z then object_bytes (change o) else 0) t
              ∙ sym (ap (λ (z : Bool). if z then object_bytes o else 0) t))
