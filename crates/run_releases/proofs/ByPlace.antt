-- The places of the elements of which a test holds: after a change, and what is read by them.
use Rattle.std.specs.Prelude.{Bool, true, false, not, ◌||◌, ◌==◌, Option, Some, None, slice_get, slice_set, filter, cond, if◌then◌else◌}
use Rattle.std.specs.List.{flat_map, fold, list_any}
use Rattle.std.proofs.Common.{◌≡◌, ◌∙◌, ◌<◌, ℕ, ◌+◌, zero, suc, List, [], ◌∷◌, ◌++◌, length, map, refl, ap, sym, arith, append_assoc}
use Rattle.std.proofs.lemmas.Bool.Decides.{nat_tests}
use Rattle.std.proofs.lemmas.List.{length_push}
use Rattle.std.proofs.lemmas.Option.{slice_get_within}
use Rattle.scj_rules.specs.Words.{holds}
use Rattle.scj_model.specs.State.{changed}
use Rattle.scj_model.specs.Arrivals.{numbers_where}
use Rattle.run_releases.proofs.Changes.{changed_nowhere, changed_there}

-- the rows from a place on are these
pub record IsFrom {A : Type 0} (rows : List A) (index : ℕ) (xs : List A) : Type 0 where
  pub at : (k : ℕ) → slice_get rows (index + k) ≡ slice_get xs k

module _ {A : Type 0} where
  pub from_first : (rows : List A) → IsFrom rows 0 rows
  from_first rows = record { at = λ k. ap (slice_get rows) (let e : 0 + k ≡ k = omega arith in e) }

  pub is_first : {rows : List A} {index : ℕ} {x : A} {xs : List A} → IsFrom rows index (x ∷ xs) →
      slice_get rows index ≡ Some x
  is_first {rows} {index} h = ap (slice_get rows) (let e : index ≡ index + 0 = omega arith in e) ∙ h.at 0

  pub are_next : {rows : List A} {index : ℕ} {x : A} {xs : List A} → IsFrom rows index (x ∷ xs) →
      IsFrom rows (index + 1) xs
  are_next {rows} {index} h =
      record {
        at = λ k. ap (slice_get rows) (let e : (index + 1) + k ≡ index + suc k = omega arith in e)
            ∙ h.at (suc k);
      }

  -- ---- one more element, and another one at a place

  pub numbers_push : (test : A → Bool) (n : ℕ) (xs : List A) (x : A) → test x ≡ true →
      numbers_where test n (xs ++ x ∷ []) ≡ numbers_where test n xs ++ (n + length xs) ∷ []
  unfolding numbers_where
  numbers_push test n [] x e =
      rw e (ap (λ k. k ∷ []) (let s : n ≡ n + 0 = omega arith in s))
  numbers_push test n (y ∷ xs) x e =
      let next : (n + 1) + length xs ≡ n + suc (length xs) = omega arith in
      ap (λ zs. (if test y then n ∷ [] else []) ++ zs) (numbers_push test (n + 1) xs x e)
      ∙ (sym (append_assoc (if test y then n ∷ [] else []) (numbers_where test (n + 1) xs) (((n + 1) + length xs) ∷ []))
      ∙ ap (λ k. ((if test y then n ∷ [] else []) ++ numbers_where test (n + 1) xs) ++ k ∷ []) next)

  pub numbers_set : (test : A → Bool) (n index : ℕ) (xs : List A) (x y : A) → slice_get xs index ≡ Some x →
      test y ≡ test x →
      numbers_where test n (slice_set xs index y) ≡ numbers_where test n xs
  unfolding numbers_where
  numbers_set test n index [] x y e same = refl
  numbers_set test n zero (z ∷ xs) x y e same =
      let s : z ≡ x = cc in
      let t : test y ≡ test z = same ∙ ap test (sym s) in
      ap (λ b. (if b then n ∷ [] else []) ++ numbers_where test (n + 1) xs) t
  numbers_set test n (suc index) (z ∷ xs) x y e same =
      ap (λ zs. (if test z then n ∷ [] else []) ++ zs) (numbers_set test (n + 1) index xs x y e same)

  pub numbers_changed : (test : A → Bool) (f : A → A) (index : ℕ) (xs : List A) →
      ((x : A) → slice_get xs index ≡ Some x → test (f x) ≡ test x) →
      numbers_where test 0 (changed f index xs) ≡ numbers_where test 0 xs
  numbers_changed test f index xs same = go (slice_get xs index) refl
    where
      go : (o : Option A) → slice_get xs index ≡ o → numbers_where test 0 (changed f index xs) ≡ numbers_where test 0 xs
      go None e = ap (numbers_where test 0) (changed_nowhere f index xs e)
      go (Some x) e =
          ap (numbers_where test 0) (changed_there f index xs x e) ∙ numbers_set test 0 index xs x (f x) e (same x e)

  -- a number below all of them isn't among them
  numbers_above : (test : A → Bool) (m n : ℕ) (xs : List A) → m < n →
      filter (λ other. not (other == m)) (numbers_where test n xs) ≡ numbers_where test n xs
  unfolding numbers_where
  numbers_above test m n [] below = refl
  numbers_above test m n (x ∷ xs) below = go (grind (arith, nat_tests)) (numbers_above test m (n + 1) xs (omega arith))
      (test x)
    where
      go : not (n == m) ≡ true → filter (λ other. not (other == m)) (numbers_where test (n + 1) xs) ≡ numbers_where test
          (n + 1) xs →
          (b : Bool) → filter (λ other. not (other == m)) ((if b then n ∷ [] else []) ++ numbers_where test (n + 1) xs)
          ≡ (if b then n ∷ [] else []) ++ numbers_where test (n + 1) xs
      go other rest true =
          ap (λ b. cond b (n ∷ filter (λ other. not (other == m)) (numbers_where test (n + 1) xs))
          (filter (λ other. not (other == m)) (numbers_where test (n + 1) xs))) other ∙ ap (λ zs. n ∷ zs) rest
      go other rest false = rest

  -- nor is one past the end
  numbers_below : (test : A → Bool) (m n index : ℕ) (xs : List A) → m ≡ n + index → slice_get xs index ≡ None →
      filter (λ other. not (other == m)) (numbers_where test n xs) ≡ numbers_where test n xs
  unfolding numbers_where
  numbers_below test m n index [] at none = refl
  numbers_below test m n zero (x ∷ xs) at none = absurd (cc)
  numbers_below test m n (suc index) (x ∷ xs) at none =
      go (grind (arith, nat_tests)) (numbers_below test m (n + 1) index xs (omega (arith, at)) none) (test x)
    where
      go : not (n == m) ≡ true → filter (λ other. not (other == m)) (numbers_where test (n + 1) xs) ≡ numbers_where test
          (n + 1) xs →
          (b : Bool) → filter (λ other. not (other == m)) ((if b then n ∷ [] else []) ++ numbers_where test (n + 1) xs)
          ≡ (if b then n ∷ [] else []) ++ numbers_where test (n + 1) xs
      go other rest true =
          ap (λ b. cond b (n ∷ filter (λ other. not (other == m)) (numbers_where test (n + 1) xs))
          (filter (λ other. not (other == m)) (numbers_where test (n + 1) xs))) other ∙ ap (λ zs. n ∷ zs) rest
      go other rest false = rest

  pub numbers_without : (test : A → Bool) (m n index : ℕ) (xs : List A) (y : A) → m ≡ n + index → test y ≡ false →
      index < length xs →
      numbers_where test n (slice_set xs index y) ≡ filter (λ other. not (other == m)) (numbers_where test n xs)
  unfolding numbers_where
  numbers_without test m n index [] y at e there = absurd (omega (arith, there))
  numbers_without test m n zero (x ∷ xs) y at e there =
      go (grind (arith, nat_tests)) (numbers_above test m (n + 1) xs (omega (arith, at))) (test x)
    where
      here : (if test y then n ∷ [] else []) ++ numbers_where test (n + 1) xs ≡ numbers_where test (n + 1) xs
      here = ap (λ b. (if b then n ∷ [] else []) ++ numbers_where test (n + 1) xs) e

      go : (n == m) ≡ true → filter (λ other. not (other == m)) (numbers_where test (n + 1) xs) ≡ numbers_where test
          (n + 1) xs →
          (b : Bool) → (if test y then n ∷ [] else []) ++ numbers_where test (n + 1) xs
          ≡ filter (λ other. not (other == m)) ((if b then n ∷ [] else []) ++ numbers_where test (n + 1) xs)
      go same rest true =
          here
          ∙ (sym rest
          ∙ ap (λ b. cond (not b) (n ∷ filter (λ other. not (other == m)) (numbers_where test (n + 1) xs))
          (filter (λ other. not (other == m)) (numbers_where test (n + 1) xs))) (sym same))
      go same rest false = here ∙ sym rest
  numbers_without test m n (suc index) (x ∷ xs) y at e there =
      go (grind (arith, nat_tests))
      (numbers_without test m (n + 1) index xs y (omega (arith, at)) e (omega (arith, there))) (test x)
    where
      go : not (n == m) ≡ true → numbers_where test (n + 1) (slice_set xs index y) ≡ filter (λ other. not (other == m))
          (numbers_where test (n + 1) xs) →
          (b : Bool) → (if b then n ∷ [] else []) ++ numbers_where test (n + 1) (slice_set xs index y)
          ≡ filter (λ other. not (other == m)) ((if b then n ∷ [] else []) ++ numbers_where test (n + 1) xs)
      go other rest true = ap (λ zs. n ∷ zs) rest
          ∙ ap (λ b. cond b (n ∷ filter (λ other. not (other == m)) (numbers_where test (n + 1) xs))
          (filter (λ other. not (other == m)) (numbers_where test (n + 1) xs))) (sym other)
      go other rest false = rest

  pub numbers_ended : (test : A → Bool) (f : A → A) (index : ℕ) (xs : List A) → ((x : A) → test (f x) ≡ false) →
      numbers_where test 0 (changed f index xs) ≡ filter (λ other. not (other == index)) (numbers_where test 0 xs)
  numbers_ended test f index xs ends = go (slice_get xs index) refl
    where
      go : (o : Option A) → slice_get xs index ≡ o → numbers_where test 0 (changed f index xs) ≡ filter
          (λ other. not (other == index)) (numbers_where test 0 xs)
      go None e =
          ap (numbers_where test 0) (changed_nowhere f index xs e)
          ∙ sym (numbers_below test index 0 index xs (omega arith) e)
      go (Some x) e =
          ap (numbers_where test 0) (changed_there f index xs x e)
          ∙ numbers_without test index 0 index xs (f x) (omega arith) (ends x) (slice_get_within xs index x e)

  -- ---- what is read by the places

  -- a test that holds of none but those
  pub any_there : (test chosen : A → Bool) (rows : List A) (n : ℕ) (xs : List A) → IsFrom rows n xs →
      ((x : A) → test x ≡ false → chosen x ≡ false) →
      list_any (λ index. holds (slice_get rows index) chosen) (numbers_where test n xs) ≡ list_any chosen xs
  unfolding numbers_where
  any_there test chosen rows n [] h none = refl
  any_there test chosen rows n (x ∷ xs) h none =
      go (any_there test chosen rows (n + 1) xs (are_next h) none) (test x) refl
    where
      go : list_any (λ index. holds (slice_get rows index) chosen) (numbers_where test (n + 1) xs) ≡ list_any chosen
          xs →
          (b : Bool) → test x ≡ b → list_any (λ index. holds (slice_get rows index) chosen)
          ((if b then n ∷ [] else []) ++ numbers_where test (n + 1) xs) ≡ (chosen x || list_any chosen xs)
      go rest true e =
          ap
          (λ o. holds o chosen || list_any (λ index. holds (slice_get rows index) chosen)
          (numbers_where test (n + 1) xs)) (is_first h) ∙ ap (λ b. chosen x || b) rest
      go rest false e = rest ∙ ap (λ b. b || list_any chosen xs) (sym (none x e))

  -- what is told of each, where nothing is told of the others
  pub reported_there : {B : Type 0} (test : A → Bool) (report : A → List B) (at : ℕ → List B) (rows : List A) (n : ℕ)
      (xs : List A) → IsFrom rows n xs →
      ((x : A) → test x ≡ false → report x ≡ []) →
      ((index : ℕ) (x : A) → slice_get rows index ≡ Some x → at index ≡ report x) →
      flat_map at (numbers_where test n xs) ≡ flat_map report xs
  unfolding numbers_where
  reported_there test report at rows n [] h none same = refl
  reported_there test report at rows n (x ∷ xs) h none same =
      go (reported_there test report at rows (n + 1) xs (are_next h) none same) (test x) refl
    where
      go : flat_map at (numbers_where test (n + 1) xs) ≡ flat_map report xs → (b : Bool) → test x ≡ b →
          flat_map at ((if b then n ∷ [] else []) ++ numbers_where test (n + 1) xs) ≡ report x ++ flat_map report xs
      go rest true e = ap (λ zs. zs ++ flat_map at (numbers_where test (n + 1) xs)) (same n x (is_first h))
          ∙ ap (λ zs. report x ++ zs) rest
      go rest false e = rest ∙ ap (λ zs. zs ++ flat_map report xs) (sym (none x e))

  -- those that stay when all elements are others
  pub kept_there : (test : A → Bool) (f : A → A) (rows : List A) (n : ℕ) (xs : List A) → IsFrom rows n (map f xs) →
      ((x : A) → test x ≡ false → test (f x) ≡ false) →
      filter (λ index. holds (slice_get rows index) test) (numbers_where test n xs) ≡ numbers_where test n (map f xs)
  unfolding numbers_where
  kept_there test f rows n [] h none = refl
  kept_there test f rows n (x ∷ xs) h none = go (kept_there test f rows (n + 1) xs (are_next h) none) (test x) refl
    where
      first : holds (slice_get rows n) test ≡ test (f x)
      first = ap (λ o. holds o test) (is_first h)

      here : filter (λ index. holds (slice_get rows index) test) (numbers_where test (n + 1) xs) ≡ numbers_where test
          (n + 1) (map f xs) →
          (b : Bool) → cond b (n ∷ filter (λ index. holds (slice_get rows index) test) (numbers_where test (n + 1) xs))
          (filter (λ index. holds (slice_get rows index) test) (numbers_where test (n + 1) xs))
          ≡ (if b then n ∷ [] else []) ++ numbers_where test (n + 1) (map f xs)
      here rest true = ap (λ zs. n ∷ zs) rest
      here rest false = rest

      go : filter (λ index. holds (slice_get rows index) test) (numbers_where test (n + 1) xs) ≡ numbers_where test
          (n + 1) (map f xs) →
          (b : Bool) → test x ≡ b → filter (λ index. holds (slice_get rows index) test)
          ((if b then n ∷ [] else []) ++ numbers_where test (n + 1) xs)
          ≡ (if test (f x) then n ∷ [] else []) ++ numbers_where test (n + 1) (map f xs)
      go rest true e =
          ap (λ b. cond b (n ∷ filter (λ index. holds (slice_get rows index) test) (numbers_where test (n + 1) xs))
          (filter (λ index. holds (slice_get rows index) test) (numbers_where test (n + 1) xs))) first
          ∙ here rest (test (f x))
      go rest false e = rest ∙ ap (λ b. (if b then n ∷ [] else []) ++ numbers_where test (n + 1) (map f xs))
          (sym (none x e))

  -- a change at each of them is one of all elements, where it leaves the others
  changed_here : (f : A → A) (ys : List A) (x : A) (xs : List A) → changed f (length ys) (ys ++ x ∷ xs) ≡ ys ++ f x ∷ xs
  changed_here f ys x xs = changed_there f (length ys) (ys ++ x ∷ xs) x (got ys) ∙ put ys
    where
      got : (ys : List A) → slice_get (ys ++ x ∷ xs) (length ys) ≡ Some x
      got [] = refl
      got (y ∷ ys) = got ys

      put : (ys : List A) → slice_set (ys ++ x ∷ xs) (length ys) (f x) ≡ ys ++ f x ∷ xs
      put [] = refl
      put (y ∷ ys) = ap (λ zs. y ∷ zs) (put ys)

  pub changed_all : (test : A → Bool) (f : A → A) (n : ℕ) (ys xs : List A) → n ≡ length ys →
      ((x : A) → test x ≡ false → f x ≡ x) →
      fold (λ (some : List A) (index : ℕ). changed f index some) (ys ++ xs) (numbers_where test n xs) ≡ ys ++ map f xs
  unfolding numbers_where
  changed_all test f n ys [] at same = refl
  changed_all test f n ys (x ∷ xs) at same =
      go (changed_all test f (n + 1) (ys ++ f x ∷ []) xs (omega (arith, at, length_push ys (f x))) same) (test x) refl
    where
      put_in : (zs : List A) → (ys ++ f x ∷ []) ++ zs ≡ ys ++ f x ∷ zs
      put_in zs = append_assoc ys (f x ∷ []) zs

      go : fold (λ (some : List A) (index : ℕ). changed f index some) ((ys ++ f x ∷ []) ++ xs)
          (numbers_where test (n + 1) xs) ≡ (ys ++ f x ∷ []) ++ map f xs →
          (b : Bool) → test x ≡ b → fold (λ (some : List A) (index : ℕ). changed f index some) (ys ++ x ∷ xs)
          ((if b then n ∷ [] else []) ++ numbers_where test (n + 1) xs) ≡ ys ++ f x ∷ map f xs
      go rest true e =
          ap (λ index. fold (λ (some : List A) (index : ℕ). changed f index some) (changed f index (ys ++ x ∷ xs))
          (numbers_where test (n + 1) xs)) at
          ∙ (ap (λ zs. fold (λ (some : List A) (index : ℕ). changed f index some) zs (numbers_where test (n + 1) xs))
          (changed_here f ys x xs ∙ sym (put_in xs))
          ∙ (rest ∙ put_in (map f xs)))
      go rest false e =
          ap (λ zs. fold (λ (some : List A) (index : ℕ). changed f index some) zs (numbers_where test (n + 1) xs))
          (ap (λ z. ys ++ z ∷ xs) (sym (same x e)) ∙ sym (put_in xs))
          ∙ (rest ∙ put_in (map f xs))
