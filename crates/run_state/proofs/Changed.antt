-- Lists with a change at one place.
use Rattle.std.specs.Prelude.{Option, Some, None, slice_get, slice_set}
use Rattle.std.proofs.Common.{◌≡◌, ℕ, List, ap}
use Rattle.scj_model.specs.State.{changed}

module _ {A : Type 0} where
  pub changed_there : (f : A → A) (r : ℕ) (xs : List A) (x : A) → slice_get xs r ≡ Some x →
      changed f r xs ≡ slice_set xs r (f x)
  changed_there f r xs x e =
      ap (λ (o : Option A). elim o as (λ z. List A) [ None ↦ xs | Some y ↦ slice_set xs r (f y) ]) e

  pub changed_nowhere : (f : A → A) (r : ℕ) (xs : List A) → slice_get xs r ≡ None → changed f r xs ≡ xs
  changed_nowhere f r xs e =
      ap (λ (o : Option A). elim o as (λ z. List A) [ None ↦ xs | Some y ↦ slice_set xs r (f y) ]) e
