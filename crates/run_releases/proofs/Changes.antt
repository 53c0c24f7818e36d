-- Lists with a change at one place.
use Rattle.std.specs.Prelude.{Bool, true, false, Option, Some, None, slice_get, slice_set, drop, option_map, nat_lt}
use Rattle.std.specs.List.{sum_by}
use Rattle.std.proofs.Common.{◌≡◌, ◌∙◌, ◌≤◌, ◌<◌, ℕ, ◌+◌, ◌-◌, zero, suc, [], ◌∷◌, List, length, map, get_or, refl, ap, sym, arith, length-set, length-drop}
use Rattle.std.proofs.lemmas.Bool.Decides.{nat_tests}
use Rattle.std.proofs.lemmas.List.{drop-set-lt, drop-set-add, get_or-drop, map-set, set-set}
use Rattle.std.proofs.lemmas.List.Sums.{sum_by-set}
use Rattle.std.proofs.lemmas.Option.{slice_get-map, slice_get_within, get_or_from_slice_get}
use Rattle.scj_model.specs.State.{changed}

module _ {A : Type 0} where
  got_set : (xs : List A) (index : ℕ) (y : A) → index < length xs → slice_get (slice_set xs index y) index ≡ Some y
  got_set [] index y within = absurd (omega (arith, within))
  got_set (x ∷ xs) zero y within = refl
  got_set (x ∷ xs) (suc index) y within = got_set xs index y (omega (arith, within))

  pub changed_there : (f : A → A) (index : ℕ) (xs : List A) (x : A) → slice_get xs index ≡ Some x →
      changed f index xs ≡ slice_set xs index (f x)
  changed_there f index xs x e =
      ap (λ (o : Option A). elim o as (λ z. List A) [ None ↦ xs | Some y ↦ slice_set xs index (f y) ]) e

  pub changed_nowhere : (f : A → A) (index : ℕ) (xs : List A) → slice_get xs index ≡ None → changed f index xs ≡ xs
  changed_nowhere f index xs e =
      ap (λ (o : Option A). elim o as (λ z. List A) [ None ↦ xs | Some y ↦ slice_set xs index (f y) ]) e

  pub length_changed : (f : A → A) (index : ℕ) (xs : List A) → length (changed f index xs) ≡ length xs
  length_changed f index xs = go (slice_get xs index)
    where
      go : (o : Option A) → length (elim o as (λ z. List A) [ None ↦ xs | Some y ↦ slice_set xs index (f y) ])
          ≡ length xs
      go None = refl
      go (Some y) = length-set xs index (f y)

  -- two changes at a place are one
  pub changed_twice : (f g : A → A) (index : ℕ) (xs : List A) →
      changed f index (changed g index xs) ≡ changed (λ x. f (g x)) index xs
  changed_twice f g index xs = go (slice_get xs index) refl
    where
      go : (o : Option A) → slice_get xs index ≡ o →
          changed f index (changed g index xs) ≡ changed (λ x. f (g x)) index xs
      go None e =
          ap (changed f index) (changed_nowhere g index xs e)
          ∙ (changed_nowhere f index xs e ∙ sym (changed_nowhere (λ x. f (g x)) index xs e))
      go (Some x) e =
          ap (changed f index) (changed_there g index xs x e)
          ∙ (changed_there f index (slice_set xs index (g x)) (g x)
          (got_set xs index (g x) (slice_get_within xs index x e))
          ∙ (set-set xs index (g x) (f (g x)) ∙ sym (changed_there (λ x. f (g x)) index xs x e)))

  -- a sum over the elements from a place on, when one of them is another
  pub sum_dropped : (g : A → ℕ) (from index : ℕ) (xs : List A) (x y : A) → slice_get xs index ≡ Some x → from ≤ index →
      sum_by g (drop from (slice_set xs index y)) + g x ≡ sum_by g (drop from xs) + g y
  sum_dropped g from index xs x y e behind =
      let within : index < length xs = slice_get_within xs index x e in
      let at : from + (index - from) ≡ index = omega arith in
      let there : index - from < length (drop from xs) = omega (arith, length-drop from xs) in
      let cut : drop from (slice_set xs index y) ≡ slice_set (drop from xs) (index - from) y =
      ap (λ n. drop from (slice_set xs n y)) (sym at) ∙ drop-set-add from xs (index - from) y in
      let was : get_or (drop from xs) (index - from) x ≡ x =
      get_or-drop from xs (index - from) x ∙ (ap (λ n. get_or xs n x) at ∙ get_or_from_slice_get xs index x x e) in
      ap (λ zs. sum_by g zs + g x) cut
      ∙ (ap (λ z. sum_by g (slice_set (drop from xs) (index - from) y) + g z) (sym was)
      ∙ sum_by-set g (drop from xs) (index - from) y x there)

  -- one that keeps its weight changes no sum
  pub sum_kept : (g : A → ℕ) (f : A → A) (from index : ℕ) (xs : List A) → ((x : A) → g (f x) ≡ g x) →
      sum_by g (drop from (changed f index xs)) ≡ sum_by g (drop from xs)
  sum_kept g f from index xs same = go (slice_get xs index) refl
    where
      there : (x : A) → slice_get xs index ≡ Some x → (b : Bool) → nat_lt index from ≡ b →
          sum_by g (drop from (slice_set xs index (f x))) ≡ sum_by g (drop from xs)
      there x e true t =
          let before : index < from = grind (arith, nat_tests) in
          ap (sum_by g) (drop-set-lt from xs index (f x) before)
      there x e false t =
          let behind : from ≤ index = grind (arith, nat_tests) in
          let h : sum_by g (drop from (slice_set xs index (f x))) + g x ≡ sum_by g (drop from xs) + g (f x) =
          sum_dropped g from index xs x (f x) e behind in
          let s : g (f x) ≡ g x = same x in
          omega (arith, h, s)

      go : (o : Option A) → slice_get xs index ≡ o → sum_by g (drop from (changed f index xs)) ≡ sum_by g (drop from xs)
      go None e = ap (λ zs. sum_by g (drop from zs)) (changed_nowhere f index xs e)
      go (Some x) e =
          ap (λ zs. sum_by g (drop from zs)) (changed_there f index xs x e) ∙ there x e (nat_lt index from) refl

-- a list that is seen through a function, changed
pub map_changed : {A B : Type 0} (h : A → B) (f : A → A) (g : B → B) (index : ℕ) (xs : List A) →
    ((x : A) → h (f x) ≡ g (h x)) →
    map h (changed f index xs) ≡ changed g index (map h xs)
map_changed {A} h f g index xs same = go (slice_get xs index) refl
  where
    go : (o : Option A) → slice_get xs index ≡ o → map h (changed f index xs) ≡ changed g index (map h xs)
    go None e =
        ap (map h) (changed_nowhere f index xs e)
        ∙ sym (changed_nowhere g index (map h xs) (slice_get-map h xs index ∙ ap (option_map h) e))
    go (Some x) e =
        ap (map h) (changed_there f index xs x e)
        ∙ (map-set h xs index (f x)
        ∙ (ap (slice_set (map h xs) index) (same x)
        ∙ sym (changed_there g index (map h xs) (h x) (slice_get-map h xs index ∙ ap (option_map h) e))))
