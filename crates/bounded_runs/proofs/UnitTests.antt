-- Tests of the units of a run, computed one after the other.
use Rattle.std.proofs.Common.{◌≡◌, ◌<◌, ◌+◌, ℕ, zero, suc, Bool, true, ◌&&◌, refl, sym, ap, ◌∙◌, arith}
use Rattle.std.proofs.lemmas.Bool.{and_parts}
use Rattle.scj_model.specs.Code.{Code}
use Rattle.scj_model.specs.Plan.{Plan}
use Rattle.scj_model.specs.State.{State}
use Rattle.scj_model.specs.Arrivals.{arrivals}
use Rattle.scj_model.specs.Choice.{by_priority}
use Rattle.scj_model.specs.Run.{RunSoFar, one_more_unit, run}
use Rattle.scj_model.proofs.IdleUnits.{more_units, run_more}
use Rattle.release_turns.specs.Choices.{at_choice}
use Rattle.response_bounds.specs.Sums.{one_if, sum_below}
use Rattle.bounded_runs.proofs.KeptSchedules.{sum_same}

module _ (code : Code) (plan : Plan) where
  -- whether so many units pass a test; the first has this number
  unfoldable pub each_unit : (ℕ → State → Bool) → ℕ → ℕ → RunSoFar → Bool
  each_unit test t zero r = true
  each_unit test t (suc k) r =
      test t (arrivals code plan r.state).state && each_unit test (t + 1) k (one_more_unit code plan by_priority r)

  -- how many of them do
  unfoldable pub count_units : (State → Bool) → ℕ → RunSoFar → ℕ
  count_units test zero r = 0
  count_units test (suc k) r =
      one_if (test (arrivals code plan r.state).state) + count_units test k (one_more_unit code plan by_priority r)

  later : (test : ℕ → State → Bool) (t k j : ℕ) (r : RunSoFar) → each_unit test t k r ≡ true → j < k →
      test (t + j) (arrivals code plan (more_units code plan j r).state).state ≡ true
  unfolding each_unit more_units
  later test t zero j r h l = absurd (omega (arith, l))
  later test t (suc k) zero r h l =
      let e : t + 0 ≡ t = omega arith in
      ap (λ (u : ℕ). test u (arrivals code plan r.state).state) e ∙ (and_parts _ _ h).0
  later test t (suc k) (suc j) r h l =
      let e : t + suc j ≡ t + 1 + j = omega arith in
      ap (λ (u : ℕ). test u (arrivals code plan (more_units code plan (suc j) r).state).state) e
      ∙ later test (t + 1) k j (one_more_unit code plan by_priority r) (and_parts _ _ h).1 (omega (arith, l))

  from_0 : (t : ℕ) → 0 + t ≡ t
  from_0 t = omega arith

  -- a run is so many units more than none
  run_at : (t : ℕ) → run code plan by_priority t ≡ more_units code plan t (run code plan by_priority 0)
  run_at t = ap (run code plan by_priority) (sym (from_0 t)) ∙ run_more code plan 0 t

  pub unit_passes : (test : ℕ → State → Bool) (k t : ℕ) → each_unit test 0 k (run code plan by_priority 0) ≡ true →
      t < k → test t (at_choice code plan t) ≡ true
  unit_passes test k t h l =
      ap (λ (r : RunSoFar). test t (arrivals code plan r.state).state) (run_at t)
      ∙ (ap (λ (u : ℕ). test u (arrivals code plan (more_units code plan t (run code plan by_priority 0)).state).state) (sym (from_0 t))
      ∙ later test 0 k t (run code plan by_priority 0) h l)

  -- a sum begins with its first number
  front : (f : ℕ → ℕ) (k : ℕ) → sum_below f (suc k) ≡ f 0 + sum_below (λ j. f (suc j)) k
  unfolding sum_below
  front f zero = omega arith
  front f (suc k) =
      let a : sum_below f (suc k) ≡ f 0 + sum_below (λ j. f (suc j)) k = front f k in
      omega (arith, a)

  counted : (test : State → Bool) (k : ℕ) (r : RunSoFar) →
      sum_below (λ j. one_if (test (arrivals code plan (more_units code plan j r).state).state)) k ≡ count_units test k r
  unfolding count_units more_units sum_below
  counted test zero r = refl
  counted test (suc k) r =
      front (λ j. one_if (test (arrivals code plan (more_units code plan j r).state).state)) k
      ∙ ap (λ (n : ℕ). one_if (test (arrivals code plan r.state).state) + n)
      (counted test k (one_more_unit code plan by_priority r))

  pub units_counted : (test : State → Bool) (k : ℕ) →
      sum_below (λ t. one_if (test (at_choice code plan t))) k ≡ count_units test k (run code plan by_priority 0)
  units_counted test k = sum_same _ _ k each ∙ counted test k (run code plan by_priority 0)
    where
      each : (t : ℕ) → one_if (test (at_choice code plan t))
          ≡ one_if (test (arrivals code plan (more_units code plan t (run code plan by_priority 0)).state).state)
      each t = ap (λ (r : RunSoFar). one_if (test (arrivals code plan r.state).state)) (run_at t)
