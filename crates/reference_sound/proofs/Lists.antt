-- Lists with one more element.
use Rattle.std.specs.Prelude.{Some, slice_get, ◌++◌}
use Rattle.std.proofs.Common.{◌≡◌, ℕ, zero, suc, List, [], ◌∷◌, length, refl, ap, ◌⊎◌, inl, inr}
use Rattle.accepted_laws.proofs.Tools.{some_inj}

-- what is found there was there, or is the last
pub last_or_before : {A : Type 0} (xs : List A) (y : A) (i : ℕ) (x : A) → slice_get (xs ++ y ∷ []) i ≡ Some x →
    (slice_get xs i ≡ Some x) ⊎ ((i ≡ length xs) × (y ≡ x))
last_or_before [] y zero x e = inr (refl, some_inj y x e)
last_or_before [] y (suc i) x e = absurd (cc (e))
last_or_before (z ∷ xs) y zero x e = inl e
last_or_before (z ∷ xs) y (suc i) x e =
    elim (last_or_before xs y i x e) as (λ r. (slice_get xs i ≡ Some x) ⊎ ((suc i ≡ suc (length xs)) × (y ≡ x))) [
      | inl h ↦ inl h
      | inr h ↦ inr (ap suc h.0, h.1)
    ]
