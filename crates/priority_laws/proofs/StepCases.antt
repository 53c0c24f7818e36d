-- What holds of the state after a step, by the cases in which the step is made.
use Rattle.std.proofs.Common.{◌≡◌, Bool, true, false, Option, Some, None, if◌then◌else◌, refl}
use Rattle.std.specs.Prelude.{option_map}
use Rattle.scj_rules.specs.Words.{◌>>=◌}
use Rattle.scj_model.specs.State.{State}
use Rattle.scj_model.specs.Steps.{Step}
use Rattle.scj_model.proofs.Reaching.{Gives, gives_some}

module _ (P : State → Type 0) where
  pub step_if : (b : Bool) (x y : Step) → (b ≡ true → P x.state) → (b ≡ false → P y.state) →
      P (if b then x else y).state
  step_if true x y h k = h refl
  step_if false x y h k = k refl

  pub step_option : {A : Type 0} (o : Option A) (x : Step) (f : A → Step) → (o ≡ None → P x.state) →
      ((a : A) → o ≡ Some a → P (f a).state) → P (elim o as (λ z. Step) [ None ↦ x | Some a ↦ f a ]).state
  step_option None x f h k = h refl
  step_option (Some a) x f h k = k a refl

  pub gives_nothing : Gives P None
  gives_nothing = record { is = λ r e. absurd (cc (e)) }

  pub gives_if : (b : Bool) (x y : Option Step) → (b ≡ true → Gives P x) → (b ≡ false → Gives P y) →
      Gives P (if b then x else y)
  gives_if true x y h k = h refl
  gives_if false x y h k = k refl

  pub gives_bind : {A : Type 0} (o : Option A) (f : A → Option Step) → ((a : A) → o ≡ Some a → Gives P (f a)) →
      Gives P (o >>= f)
  gives_bind None f h = gives_nothing
  gives_bind (Some a) f h = h a refl

  pub gives_mapped : {A : Type 0} (o : Option A) (f : A → Step) → ((a : A) → o ≡ Some a → P (f a).state) →
      Gives P (option_map f o)
  gives_mapped None f h = gives_nothing
  gives_mapped (Some a) f h = gives_some P (f a) (h a refl)
