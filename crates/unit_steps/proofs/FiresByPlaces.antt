-- The plan's fires of a unit: by their places, as the definitions take them, as a list of their own, or among others.
use Rattle.std.specs.Prelude.{Option, Some, None, if◌then◌else◌, slice_get, ◌++◌}
use Rattle.std.proofs.Common.{◌≡◌, ℕ, suc, ◌+◌, Bool, true, false, List, [], ◌∷◌, filter, refl, ◌∙◌, ap, arith}
use Rattle.scj_model.specs.declared.plans.Fire.{Fire}
use Rattle.scj_model.specs.Code.{Code}
use Rattle.scj_model.specs.State.{State}
use Rattle.scj_model.specs.Steps.{Step, silently, reporting, then_do, for_each}
use Rattle.scj_model.specs.Arrivals.{comes_in, fired, fired_at, fires_due, numbers_where}
use Rattle.unit_steps.specs.Arriving.{fired_in}

module _ (code : Code) (origin : Option ℕ) (unit : ℕ) where
  abbrev test : Fire → Bool
  test fire = comes_in origin unit fire

  -- among others those that don't come are passed over
  pub fires_among : (fires : List Fire) (s : State) →
      for_each (fired_in code origin unit) fires s ≡ for_each (fired code) (filter test fires) s
  unfolding for_each fired_in
  fires_among [] s = refl
  fires_among (x ∷ xs) s = go (test x) (λ u. fires_among xs u)
    where
      go : (b : Bool) →
          ((u : State) → for_each (fired_in code origin unit) xs u ≡ for_each (fired code) (filter test xs) u) →
          then_do (if b then fired code s x else silently s) (for_each (fired_in code origin unit) xs)
          ≡ for_each (fired code) (if b then x ∷ filter test xs else filter test xs) s
      go false tail = tail s
      go true tail =
          ap (λ (second : Step). reporting second.state ((fired code s x).events ++ second.events))
          (tail (fired code s x).state)

  module _ (all : List Fire) where
    abbrev StandFrom : ℕ → List Fire → Type 0
    StandFrom k rest = (i : ℕ) → slice_get all (k + i) ≡ slice_get rest i

    later : (k : ℕ) (x : Fire) (xs : List Fire) → StandFrom k (x ∷ xs) → StandFrom (k + 1) xs
    later k x xs h i = ap (slice_get all) (let e : k + 1 + i ≡ k + suc i = grind arith in e) ∙ h (suc i)

    first_is : (k : ℕ) (x : Fire) (xs : List Fire) → StandFrom k (x ∷ xs) → slice_get all k ≡ Some x
    first_is k x xs h = ap (slice_get all) (let e : k ≡ k + 0 = grind arith in e) ∙ h 0

    by_places : (k : ℕ) (rest : List Fire) → StandFrom k rest → (s : State) →
        for_each (fired_at code all) (numbers_where test k rest) s
        ≡ for_each (fired code) (filter test rest) s
    unfolding for_each numbers_where
    by_places k [] h s = refl
    by_places k (x ∷ xs) h s = go (test x) (λ u. by_places (k + 1) xs (later k x xs h) u)
      where
        Tail : Type 0
        Tail = (u : State) → for_each (fired_at code all) (numbers_where test (k + 1) xs) u
            ≡ for_each (fired code) (filter test xs) u

        one : fired_at code all s k ≡ fired code s x
        one = ap (λ (o : Option Fire). elim o as (λ z. Step) [ None ↦ silently s | Some fire ↦ fired code s fire ])
            (first_is k x xs h)

        go : (b : Bool) → Tail →
            for_each (fired_at code all) ((if b then k ∷ [] else []) ++ numbers_where test (k + 1) xs) s
            ≡ for_each (fired code) (if b then x ∷ filter test xs else filter test xs) s
        go false tail = tail s
        go true tail =
            ap (λ (first : Step). then_do first (for_each (fired_at code all) (numbers_where test (k + 1) xs))) one
            ∙ ap (λ (second : Step). reporting second.state ((fired code s x).events ++ second.events))
            (tail (fired code s x).state)

    pub fires_of_the_unit : (s : State) →
        for_each (fired_at code all) (fires_due origin unit all) s
        ≡ for_each (fired code) (filter test all) s
    unfolding fires_due
    fires_of_the_unit s = by_places 0 all (λ i. ap (slice_get all) (let e : 0 + i ≡ i = grind arith in e)) s
