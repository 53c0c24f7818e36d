-- A run that hasn't ended after n units is before unit n.
use Rattle.std.specs.Prelude.{Option, Some, None, if◌then◌else◌, ◌||◌}
use Rattle.std.proofs.Common.{◌≡◌, ℕ, zero, suc, ◌+◌, Bool, true, false, refl, sym, ◌∙◌, ap, arith}
use Rattle.scj_model.specs.Code.{Code}
use Rattle.scj_model.specs.Plan.{Plan}
use Rattle.scj_model.specs.State.{State, is_over}
use Rattle.scj_model.specs.Steps.{Step}
use Rattle.scj_model.specs.Sequencer.{phase_after}
use Rattle.scj_model.specs.Arrivals.{arrivals}
use Rattle.scj_model.specs.Choice.{Policy}
use Rattle.scj_model.specs.Run.{RunSoFar, continued, empty_state, has_ended, one_more_unit, one_unit, run}
use Rattle.scj_model.proofs.Units.{arrivals_keep_unit, acts_keep_unit, phase_keeps_unit}
use Rattle.unit_steps.proofs.RunsOn.{ended_on}
use Rattle.scj_model.proofs.Reaching.{Gives, gives_on, gives_some, gives_reported}

-- the unit after one unit is the next one
pub unit_follows : (code : Code) (plan : Plan) (policy : Policy) (s : State) →
    Gives (λ t. t.unit ≡ s.unit + 1) (one_unit code plan policy s)
unfolding one_unit
unit_follows code plan policy s =
    gives_on (λ t. t.unit ≡ s.unit) (λ t. t.unit ≡ s.unit + 1) _ _
    (gives_on (λ t. t.unit ≡ s.unit) (λ t. t.unit ≡ s.unit) _ _
    (gives_reported (λ t. t.unit ≡ s.unit) (arrivals code plan s) _
    (λ step k. (acts_keep_unit code plan.readings policy (arrivals code plan s).state).is step k
    ∙ arrivals_keep_unit code plan s))
    (λ r q. gives_reported (λ t. t.unit ≡ s.unit) r (phase_after code r.state)
    (λ step k. (phase_keeps_unit code r.state).is step k ∙ q)))
    (λ r q. gives_some (λ t. t.unit ≡ s.unit + 1) _ (ap (λ (k : ℕ). k + 1) q))

or_true : (b : Bool) → (b || true) ≡ true
or_true true = refl
or_true false = refl

clash : true ≡ false → ⊥
clash e = cc (e)

module _ (code : Code) (plan : Plan) (policy : Policy) where
  -- what one unit makes of a run that is before this unit
  one_later : (r : RunSoFar) (n : ℕ) (o : Option Step) → one_unit code plan policy r.state ≡ o →
      r.state.unit ≡ n → has_ended (continued r o) ≡ false → (continued r o).state.unit ≡ n + 1
  unfolding continued
  one_later r n None h k e = absurd (clash (sym (or_true (is_over r.state.phase)) ∙ e))
  one_later r n (Some step) h k e = (unit_follows code plan policy r.state).is step h ∙ ap (λ (m : ℕ). m + 1) k

  more : (r : RunSoFar) (n : ℕ) (ended : Bool) → has_ended r ≡ ended →
      (has_ended r ≡ false → r.state.unit ≡ n) → has_ended (one_more_unit code plan policy r) ≡ false →
      (one_more_unit code plan policy r).state.unit ≡ n + 1
  unfolding one_more_unit
  more r n true h k e =
      absurd (clash (sym h ∙ (sym (ap (λ x. has_ended x) (ended_on code plan policy r h)) ∙ e)))
  more r n false h k e =
      let goes : one_more_unit code plan policy r ≡ continued r (one_unit code plan policy r.state) =
      ap (λ b. if b then r else continued r (one_unit code plan policy r.state)) h in
      ap (λ (x : RunSoFar). x.state.unit) goes
      ∙ one_later r n (one_unit code plan policy r.state) refl (k h) (sym (ap (λ x. has_ended x) goes) ∙ e)

  -- a run that hasn't ended after n units is before unit n
  pub counted : (n : ℕ) → has_ended (run code plan policy n) ≡ false → (run code plan policy n).state.unit ≡ n
  unfolding run empty_state
  counted zero e = refl
  counted (suc n) e =
      more (run code plan policy n) n (has_ended (run code plan policy n)) refl (counted n) e
      ∙ (let next : n + 1 ≡ suc n = grind arith in next)
