-- A run, one unit more: it stays as it is once it has ended, and else goes on with the unit's result.
use Rattle.std.specs.Prelude.{Option, Some, None, if◌then◌else◌, ◌||◌, ◌++◌}
use Rattle.std.proofs.Common.{◌≡◌, ℕ, zero, suc, ◌+◌, Bool, true, false, List, [], ◌∷◌, refl, sym, ◌∙◌, ap, arith}
use Rattle.scj_model.specs.declared.events.Event.{Event}
use Rattle.scj_model.specs.declared.events.Event.TheVariants.{Stopped}
use Rattle.scj_model.specs.Code.{Code}
use Rattle.scj_model.specs.Plan.{Plan}
use Rattle.scj_model.specs.State.{is_over}
use Rattle.scj_model.specs.Steps.{Step}
use Rattle.scj_model.specs.Choice.{Policy}
use Rattle.scj_model.specs.Run.{RunSoFar, continued, has_ended, one_more_unit, one_unit, run, reported_by}

module _ (code : Code) (plan : Plan) (policy : Policy) where
  abbrev at : ℕ → RunSoFar
  at n = run code plan policy n

  pub ended_on : (r : RunSoFar) → has_ended r ≡ true → one_more_unit code plan policy r ≡ r
  unfolding one_more_unit
  ended_on r e = ap (λ b. if b then r else continued r (one_unit code plan policy r.state)) e

  pub stays_ended : (n k : ℕ) → has_ended (at n) ≡ true → at (n + k) ≡ at n
  unfolding run
  stays_ended n zero e = ap at (let h : n + zero ≡ n = grind arith in h)
  stays_ended n (suc k) e =
      let before : at (n + k) ≡ at n = stays_ended n k e in
      ap at (let h : n + suc k ≡ suc (n + k) = grind arith in h)
      ∙ (ap (one_more_unit code plan policy) before ∙ ended_on (at n) e)

  pub one_more : (n : ℕ) → has_ended (at n) ≡ false → (step : Step) →
      one_unit code plan policy (at n).state ≡ Some step →
      at (suc n) ≡ record { state = step.state; events = (at n).events ++ step.events; is_stuck = false }
  unfolding run one_more_unit continued
  one_more n e step h =
      ap (λ b. if b then at n else continued (at n) (one_unit code plan policy (at n).state)) e
      ∙ ap (continued (at n)) h

  abbrev Has : Option Step → Type 0
  Has o = (step : Step) × (o ≡ Some step)

  stuck_one : (r : RunSoFar) (o : Option Step) → (continued r o).is_stuck ≡ false → Has o
  unfolding continued
  stuck_one r None e = absurd (cc (e))
  stuck_one r (Some step) e = (step, refl)

  pub has_result : (n : ℕ) → has_ended (at n) ≡ false → (at (suc n)).is_stuck ≡ false →
      Has (one_unit code plan policy (at n).state)
  unfolding run one_more_unit
  has_result n e h =
      stuck_one (at n) (one_unit code plan policy (at n).state)
      (sym (ap (λ b. (if b then at n else continued (at n) (one_unit code plan policy (at n).state)).is_stuck) e) ∙ h)

  -- whether it has ended, where it isn't stuck
  pub ended_by_phase : (n : ℕ) → (at n).is_stuck ≡ false → has_ended (at n) ≡ is_over (at n).state.phase
  ended_by_phase n e = ap (λ b. is_over (at n).state.phase || b) e ∙ or_false (is_over (at n).state.phase)
    where
      or_false : (b : Bool) → (b || false) ≡ b
      or_false true = refl
      or_false false = refl

  -- what is told in all, where the run has ended before, and where the units are spent
  pub reported_ended : (n k : ℕ) → has_ended (at n) ≡ true → reported_by (n + k) (at (n + k)) ≡ (at n).events
  reported_ended n k e =
      ap (reported_by (n + k)) (stays_ended n k e)
      ∙ (ap (λ b. (at n).events ++ (if b then [] else Stopped (n + k) ∷ [])) e ∙ nothing_more (at n).events)
    where
      nothing_more : (events : List Event) → events ++ [] ≡ events
      nothing_more [] = refl
      nothing_more (x ∷ xs) = ap (λ ys. x ∷ ys) (nothing_more xs)

  pub reported_stopped : (n : ℕ) → has_ended (at n) ≡ false → reported_by n (at n) ≡ (at n).events ++ Stopped n ∷ []
  reported_stopped n e = ap (λ b. (at n).events ++ (if b then [] else Stopped n ∷ [])) e
