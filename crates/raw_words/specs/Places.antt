-- Rows of places, each empty or with a value.
use Rattle.std.specs.Prelude.{◌≡◌, ℕ, zero, suc, get_or, List, [], ◌∷◌, Option, Some, None}

module _ {X : Type 0} where
  -- the place at the index holds a value
  abbrev pub IsFilled : List (Option X) → ℕ → Type 0
  IsFilled cs i = (x : X) × (get_or cs i None ≡ Some x)

  -- the places from i on are empty
  unfoldable pub forgotten : ℕ → List (Option X) → List (Option X)
  forgotten i [] = []
  forgotten zero (c ∷ cs) = None ∷ forgotten zero cs
  forgotten (suc i) (c ∷ cs) = c ∷ forgotten i cs
