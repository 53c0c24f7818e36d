-- Lists that are seen through a map: what is at a place of them, and a change of one element.
use Rattle.std.specs.Prelude.{Option, Some, None, slice_get, slice_set, map, option_map}
use Rattle.std.proofs.Common.{◌≡◌, ◌∙◌, ℕ, zero, suc, List, [], ◌∷◌, refl, ap, sym}
use Rattle.scj_model.specs.State.{changed}
use Rattle.run_state.proofs.Changed.{changed_there, changed_nowhere}

module _ {A B : Type 0} where
  pub get_map : (g : A → B) (xs : List A) (n : ℕ) → slice_get (map g xs) n ≡ option_map g (slice_get xs n)
  get_map g [] n = refl
  get_map g (x ∷ xs) zero = refl
  get_map g (x ∷ xs) (suc n) = get_map g xs n

  pub set_map : (g : A → B) (xs : List A) (n : ℕ) (y : A) → map g (slice_set xs n y) ≡ slice_set (map g xs) n (g y)
  set_map g [] n y = refl
  set_map g (x ∷ xs) zero y = refl
  set_map g (x ∷ xs) (suc n) y = ap (λ (zs : List B). g x ∷ zs) (set_map g xs n y)

  pub changed_map : (g : A → B) (f : A → A) (h : B → B) (n : ℕ) (xs : List A) → ((x : A) → g (f x) ≡ h (g x)) →
      map g (changed f n xs) ≡ changed h n (map g xs)
  changed_map g f h n xs same = go (slice_get xs n) refl
    where
      go : (o : Option A) → slice_get xs n ≡ o → map g (changed f n xs) ≡ changed h n (map g xs)
      go None e =
          ap (map g) (changed_nowhere f n xs e)
          ∙ sym (changed_nowhere h n (map g xs) (get_map g xs n ∙ ap (option_map g) e))
      go (Some x) e =
          ap (map g) (changed_there f n xs x e) ∙ (set_map g xs n (f x)
          ∙ (ap (slice_set (map g xs) n) (same x)
          ∙ sym (changed_there h n (map g xs) (g x) (get_map g xs n ∙ ap (option_map g) e))))

module _ {A : Type 0} where
  set_kept : (xs : List A) (n : ℕ) (x : A) → slice_get xs n ≡ Some x → slice_set xs n x ≡ xs
  set_kept [] n x e = refl
  set_kept (y ∷ ys) zero x e = let same : x ≡ y = cc in ap (λ (z : A). z ∷ ys) same
  set_kept (y ∷ ys) (suc n) x e = ap (λ (zs : List A). y ∷ zs) (set_kept ys n x e)

  -- a change that keeps the element changes nothing
  pub changed_kept : (f : A → A) (n : ℕ) (xs : List A) → ((x : A) → slice_get xs n ≡ Some x → f x ≡ x) →
      changed f n xs ≡ xs
  changed_kept f n xs kept = go (slice_get xs n) refl
    where
      go : (o : Option A) → slice_get xs n ≡ o → changed f n xs ≡ xs
      go None e = changed_nowhere f n xs e
      go (Some x) e = changed_there f n xs x e ∙ ap (slice_set xs n) (kept x e) ∙ set_kept xs n x e
