-- Lists with a change at one place, and with one more element.
use Rattle.std.specs.Prelude.{Option, Some, None, slice_get, slice_set, slice_index}
use Rattle.std.proofs.Common.{◌≡◌, ◌∙◌, ℕ, ◌<◌, ◌≤◌, zero, suc, List, [], ◌∷◌, ◌++◌, length, get_or, ◌⊎◌, inl, inr, refl, ap, sym, arith, length-set}
use Rattle.std.proofs.lemmas.Option.{get_or_from_slice_get}
use Rattle.scj_model.specs.State.{changed}

module _ {A : Type 0} where
  pub set_get_same : (xs : List A) (i : ℕ) (x y : A) → slice_get xs i ≡ Some x → slice_get (slice_set xs i y) i ≡ Some y
  set_get_same [] i x y e = absurd (cc)
  set_get_same (z ∷ zs) zero x y e = refl
  set_get_same (z ∷ zs) (suc i) x y e = set_get_same zs i x y e

  pub set_get_other : (xs : List A) (i k : ℕ) (y : A) → (k ≡ i → ⊥) → slice_get (slice_set xs i y) k ≡ slice_get xs k
  set_get_other [] i k y h = refl
  set_get_other (z ∷ zs) zero zero y h = absurd (h refl)
  set_get_other (z ∷ zs) zero (suc k) y h = refl
  set_get_other (z ∷ zs) (suc i) zero y h = refl
  set_get_other (z ∷ zs) (suc i) (suc k) y h = set_get_other zs i k y (λ e. h (ap suc e))

  pub set_beyond : (xs : List A) (i : ℕ) (y : A) → length xs ≤ i → slice_set xs i y ≡ xs
  set_beyond [] i y h = refl
  set_beyond (z ∷ zs) zero y h = absurd (omega (arith, h))
  set_beyond (z ∷ zs) (suc i) y h = ap (λ r. z ∷ r) (set_beyond zs i y (omega (arith, h)))

  pub get_within : (xs : List A) (i : ℕ) (x : A) → slice_get xs i ≡ Some x → i < length xs
  get_within [] i x e = absurd (cc)
  get_within (z ∷ zs) zero x e = omega arith
  get_within (z ∷ zs) (suc i) x e = let h : i < length zs = get_within zs i x e in omega (arith, h)

  pub get_past : (xs : List A) (i : ℕ) → length xs ≤ i → slice_get xs i ≡ None
  get_past [] i h = refl
  get_past (z ∷ zs) zero h = absurd (omega (arith, h))
  get_past (z ∷ zs) (suc i) h = get_past zs i (omega (arith, h))

  -- one more
  pub get_before : (xs : List A) (y : A) (i : ℕ) → i < length xs → slice_get (xs ++ y ∷ []) i ≡ slice_get xs i
  get_before [] y i h = absurd (omega (arith, h))
  get_before (z ∷ zs) y zero h = refl
  get_before (z ∷ zs) y (suc i) h = get_before zs y i (omega (arith, h))

  pub get_last : (xs : List A) (y : A) → slice_get (xs ++ y ∷ []) (length xs) ≡ Some y
  get_last [] y = refl
  get_last (z ∷ zs) y = get_last zs y

  pub get_behind : (xs : List A) (y : A) (i : ℕ) → length xs < i → slice_get (xs ++ y ∷ []) i ≡ None
  get_behind [] y zero h = absurd (omega (arith, h))
  get_behind [] y (suc i) h = refl
  get_behind (z ∷ zs) y zero h = absurd (omega (arith, h))
  get_behind (z ∷ zs) y (suc i) h = get_behind zs y i (omega (arith, h))

  -- a change at one place
  pub changed_same : (f : A → A) (r : ℕ) (xs : List A) (x : A) → slice_get xs r ≡ Some x →
      slice_get (changed f r xs) r ≡ Some (f x)
  changed_same f r xs x e =
      ap (λ (o : Option A). slice_get (elim o as (λ z. List A) [ None ↦ xs | Some y ↦ slice_set xs r (f y) ]) r) e
      ∙ set_get_same xs r x (f x) e

  pub changed_other : (f : A → A) (r p : ℕ) (xs : List A) → (p ≡ r → ⊥) → slice_get (changed f r xs) p ≡ slice_get xs p
  changed_other f r p xs h = go (slice_get xs r)
    where
      go : (o : Option A) → slice_get (elim o as (λ z. List A) [
        | None ↦ xs
        | Some y ↦ slice_set xs r
            (f y)
      ]) p ≡ slice_get xs p
      go None = refl
      go (Some y) = set_get_other xs r p (f y) h

  pub changed_long : (f : A → A) (r : ℕ) (xs : List A) → length (changed f r xs) ≡ length xs
  changed_long f r xs = go (slice_get xs r)
    where
      go : (o : Option A) → length (elim o as (λ z. List A) [ None ↦ xs | Some y ↦ slice_set xs r (f y) ]) ≡ length xs
      go None = refl
      go (Some y) = length-set xs r (f y)

  -- what is there after a change at r was there before
  pub changed_was : (f : A → A) (r : ℕ) (xs : List A) (y : A) → slice_get (changed f r xs) r ≡ Some y →
      (x : A) × (slice_get xs r ≡ Some x) × (y ≡ f x)
  changed_was f r xs y e = go (slice_get xs r) refl
    where
      go : (o : Option A) → slice_get xs r ≡ o → (x : A) × (slice_get xs r ≡ Some x) × (y ≡ f x)
      go None n =
          let h : slice_get (changed f r xs) r ≡ slice_get xs r =
          ap (λ (o : Option A). slice_get (elim o as (λ z. List A) [
            | None ↦ xs
            | Some y ↦ slice_set xs r
                (f y)
          ]) r) n in
          absurd (cc)
      go (Some x) s =
          let h : slice_get (changed f r xs) r ≡ Some (f x) = changed_same f r xs x s in
          let eq : y ≡ f x = cc in
          (x, s, eq)

-- numbers
pub index_set_same : (xs : List ℕ) (i y : ℕ) → i < length xs → slice_index (slice_set xs i y) i ≡ y
index_set_same [] i y h = absurd (omega (arith, h))
index_set_same (z ∷ zs) zero y h = refl
index_set_same (z ∷ zs) (suc i) y h = index_set_same zs i y (omega (arith, h))

pub index_set_other : (xs : List ℕ) (i k y : ℕ) → (k ≡ i → ⊥) → slice_index (slice_set xs i y) k ≡ slice_index xs k
index_set_other [] i k y h = refl
index_set_other (z ∷ zs) zero zero y h = absurd (h refl)
index_set_other (z ∷ zs) zero (suc k) y h = refl
index_set_other (z ∷ zs) (suc i) zero y h = refl
index_set_other (z ∷ zs) (suc i) (suc k) y h = index_set_other zs i k y (λ e. h (ap suc e))

pub index_before : (xs : List ℕ) (y i : ℕ) → i < length xs → slice_index (xs ++ y ∷ []) i ≡ slice_index xs i
index_before [] y i h = absurd (omega (arith, h))
index_before (z ∷ zs) y zero h = refl
index_before (z ∷ zs) y (suc i) h = index_before zs y i (omega (arith, h))

pub index_last : (xs : List ℕ) (y : ℕ) → slice_index (xs ++ y ∷ []) (length xs) ≡ y
index_last [] y = refl
index_last (z ∷ zs) y = index_last zs y

pub three : (x y : ℕ) → (x < y) ⊎ ((x ≡ y) ⊎ (y < x))
three zero zero = inr (inl refl)
three zero (suc y) = inl (omega arith)
three (suc x) zero = inr (inr (omega arith))
three (suc x) (suc y) = step (three x y)
  where
    step : (x < y) ⊎ ((x ≡ y) ⊎ (y < x)) → (suc x < suc y) ⊎ ((suc x ≡ suc y) ⊎ (suc y < suc x))
    step (inl l) = inl (omega (arith, l))
    step (inr (inl e)) = inr (inl (ap suc e))
    step (inr (inr l)) = inr (inr (omega (arith, l)))

pub same_or : (x y : ℕ) → (x ≡ y) ⊎ (x ≡ y → ⊥)
same_or x y = go (three x y)
  where
    go : (x < y) ⊎ ((x ≡ y) ⊎ (y < x)) → (x ≡ y) ⊎ (x ≡ y → ⊥)
    go (inl l) = inr (λ e. omega (arith, l, e))
    go (inr (inl e)) = inl e
    go (inr (inr l)) = inr (λ e. omega (arith, l, e))

-- an element that was read by its place
pub got_row : {A : Type 0} (xs : List A) (k : ℕ) (x y : A) → slice_get xs k ≡ Some x → y ≡ get_or xs k y →
    slice_get xs k ≡ Some y
got_row xs k x y e q = e ∙ ap Some (sym (q ∙ get_or_from_slice_get xs k x y e))
