-- Who may act is a release of the mission.
use Rattle.std.proofs.Common.{◌≡◌, ℕ, zero, suc, ◌≤◌, ◌<◌, Bool, true, false, length, ◌⊎◌, inl, inr, if◌then◌else◌, sym, ap, subst, length, arith}
use Rattle.std.proofs.lemmas.Bool.{cases_Bool, cases_lt}
use Rattle.scj_model.specs.Code.{Code}
use Rattle.scj_model.specs.Plan.{Plan}
use Rattle.scj_model.specs.State.{State, is_exec}
use Rattle.scj_model.specs.Arrivals.{arrivals}
use Rattle.scj_model.specs.Choice.{may_act, by_priority}
use Rattle.scj_model.specs.Run.{RunSoFar, has_ended, continued, one_more_unit, one_unit, empty_state, run}
use Rattle.release_turns.specs.Choices.{state_after, at_choice}
use Rattle.release_turns.proofs.OtherReleases.{arrives}
use Rattle.release_turns.specs.UnitSteps.{UnitStep}
use Rattle.release_turns.proofs.Turns.{longer, unit_step}
use Rattle.response_times.proofs.Followed.{may_act_before}

pub record IsFrom (s : State) : Type 0 where
  pub from : (q : ℕ) → may_act s q ≡ true → s.earlier_releases ≤ q
  pub fits : s.earlier_releases ≤ length s.releases

module _ (code : Code) (plan : Plan)
    (exec : (t q : ℕ) → may_act (at_choice code plan t) q ≡ true → is_exec (at_choice code plan t).phase ≡ true)
    (free : (t : ℕ) → (run code plan by_priority t).is_stuck ≡ false) where
  step : (s t : State) → ((q : ℕ) → may_act s q ≡ true → is_exec s.phase ≡ true) → UnitStep s t → IsFrom s → IsFrom t
  step s t exec u h =
      record {
        from = λ q e. from q e (cases_lt q (length s.releases));
        fits = fits;
      }
    where
      grown : length s.releases ≤ length t.releases
      grown = longer s t.releases u.move

      before : s.earlier_releases ≤ length s.releases
      before = h.fits

      either : (t.earlier_releases ≡ s.earlier_releases) ⊎ (t.earlier_releases ≡ length s.releases)
      either = go (cases_Bool (is_exec s.phase))
        where
          go : (is_exec s.phase ≡ true) ⊎ (is_exec s.phase ≡ false) →
              (t.earlier_releases ≡ s.earlier_releases) ⊎ (t.earlier_releases ≡ length s.releases)
          go (inl e) = inl (u.inside e)
          go (inr e) = u.outside e

      fits : t.earlier_releases ≤ length t.releases
      fits = go either
        where
          go : (t.earlier_releases ≡ s.earlier_releases) ⊎ (t.earlier_releases ≡ length s.releases) → t.earlier_releases ≤ length t.releases
          go (inl e) = omega (arith, e, before, grown)
          go (inr e) = omega (arith, e, grown)

      from : (q : ℕ) → may_act t q ≡ true → (q < length s.releases) ⊎ (length s.releases ≤ q) → t.earlier_releases ≤ q
      from q e (inr l) = go either
        where
          go : (t.earlier_releases ≡ s.earlier_releases) ⊎ (t.earlier_releases ≡ length s.releases) → t.earlier_releases ≤ q
          go (inl f) = omega (arith, f, before, l)
          go (inr f) = omega (arith, f, l)
      from q e (inl l) =
          let may : may_act s q ≡ true = may_act_before s t q u.move l e in
          let a : s.earlier_releases ≤ q = h.from q may in
          let b : t.earlier_releases ≡ s.earlier_releases = u.inside (exec q may) in
          omega (arith, a, b)

  pub all_from : (t : ℕ) → IsFrom (at_choice code plan t)
  unfolding run empty_state is_exec one_more_unit
  all_from zero =
      record {
        from = λ q e. (let a : (at_choice code plan 0).earlier_releases ≡ 0 = (arrives code plan (state_after code plan 0)).earlier in
            omega (arith, a));
        fits = (let a : (at_choice code plan 0).earlier_releases ≡ 0 = (arrives code plan (state_after code plan 0)).earlier in
            omega (arith, a));
      }
  all_from (suc t) = go (all_from t) (cases_Bool (has_ended (run code plan by_priority t)))
    where
      r : RunSoFar
      r = run code plan by_priority t

      go : IsFrom (at_choice code plan t) → (has_ended (run code plan by_priority t) ≡ true) ⊎ (has_ended (run code plan by_priority t) ≡ false) →
          IsFrom (at_choice code plan (suc t))
      go h (inr e) = step (at_choice code plan t) (at_choice code plan (suc t)) (exec t) (unit_step code plan t e (free (suc t))) h
      go h (inl e) =
          let same : run code plan by_priority (suc t) ≡ run code plan by_priority t =
          ap (λ (b : Bool). if b then r else continued r (one_unit code plan by_priority r.state)) e in
          subst (λ (x : RunSoFar). IsFrom (arrivals code plan x.state).state) (sym same) h
