-- What is left of places when those from one on are forgotten, and that a place which holds a value is one of the row.
use Rattle.std.proofs.Common.{◌≡◌, ℕ, zero, suc, ◌<◌, List, [], ◌∷◌, Option, Some, None, length, get_or, replicate, refl, ap, not-suc-le-zero, arith}
use Rattle.raw_words.specs.Places.{forgotten}

module _ {X : Type 0} where
  pub length_forgotten : (i : ℕ) (cs : List (Option X)) → length (forgotten i cs) ≡ length cs
  unfolding forgotten
  length_forgotten zero [] = refl
  length_forgotten (suc i) [] = refl
  length_forgotten zero (c ∷ cs) = ap suc (length_forgotten zero cs)
  length_forgotten (suc i) (c ∷ cs) = ap suc (length_forgotten i cs)

  pub get_or-forgotten : (i : ℕ) (cs : List (Option X)) (j : ℕ) → j < i →
      get_or (forgotten i cs) j None ≡ get_or cs j None
  unfolding forgotten
  get_or-forgotten zero [] j lt = refl
  get_or-forgotten (suc i) [] j lt = refl
  get_or-forgotten zero (c ∷ cs) j lt = absurd (not-suc-le-zero {n = j} lt)
  get_or-forgotten (suc i) (c ∷ cs) zero lt = refl
  get_or-forgotten (suc i) (c ∷ cs) (suc j) lt = get_or-forgotten i cs j (omega arith)

  pub all_forgotten : (cs : List (Option X)) → forgotten zero cs ≡ replicate (length cs) None
  unfolding forgotten
  all_forgotten [] = refl
  all_forgotten (c ∷ cs) = ap (λ l. None ∷ l) (all_forgotten cs)

  pub filled_within : (cs : List (Option X)) (i : ℕ) (x : X) → get_or cs i None ≡ Some x → i < length cs
  filled_within [] i x e = cc
  filled_within (c ∷ cs) zero x e = omega arith
  filled_within (c ∷ cs) (suc i) x e = omega (arith, filled_within cs i x e)

-- what tests of words ask
pub ruleset kept = (get_or-forgotten, length_forgotten)
