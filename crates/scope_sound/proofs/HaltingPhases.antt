-- What follows an operation in the sequencer closes the mission's memory only where the run goes on. So where the run is
-- over then, by a fault too, the sequencer has what it had.
use Rattle.std.specs.Prelude.{Option, Some, None, ◌||◌, if◌then◌else◌, option_map}
use Rattle.std.proofs.Common.{◌≡◌, ℕ, Bool, true, false, not, ◌&&◌, refl, sym, ◌∙◌, ap, subst, true≢false}
use Rattle.scj_base.specs.declared.values.Value.{Value}
use Rattle.scj_base.specs.declared.values.Value.TheVariants.{Int, Bool as Truth, Null, At}
use Rattle.scj_rules.specs.Classes.{is_empty}
use Rattle.scj_rules.specs.Words.{◌>>=◌}
use Rattle.scj_model.specs.declared.operations.SeqOp.{SeqOp}
use Rattle.scj_model.specs.declared.operations.SeqOp.TheVariants.{OpenImmortal, AllocSafelet, ConstructSafelet, InitializeApplication, GetSequencer, GetNextMission, OpenMission, Initialize, CleanUp, Execute, Finished}
use Rattle.scj_model.specs.declared.phases.Phase.TheVariants.{Next, Cleanup}
use Rattle.scj_model.specs.Code.{Code}
use Rattle.scj_model.specs.Memory.{closed}
use Rattle.scj_model.specs.State.{State, is_exec, is_over}
use Rattle.scj_model.specs.Steps.{Step, silently, fault_in}
use Rattle.scj_model.specs.Sequencer.{SeqEffect, Continues, TakesSafelet, TakesSequencer, TakesMission, LacksSequencer, LacksMission, BeginsMission, BeginsExecution, SkipsExecution, EndsExecution, ClosesMission, Transition, goes_to, seq_applied, transition, transition_done, after_initialize, after_operation, has_started, innermost, phase_after}

closed_phase : (s : State) (o : Option ℕ) → (closed s o).phase ≡ s.phase
unfolding closed
closed_phase s None = refl
closed_phase s (Some a) = refl

module _ (code : Code) (s : State) where
  abbrev Stays : Step → Type 0
  Stays step = is_over step.state.phase ≡ true → step.state.activity ≡ s.activity

  record Halts (o : Option Step) : Type 0 where
    pub is : (step : Step) → o ≡ Some step → Stays step

  some : (step : Step) → Stays step → Halts (Some step)
  some step x = record { is = λ other e. (let same : step ≡ other = cc (e) in subst Stays same x) }

  nothing : Halts None
  nothing = record { is = λ step e. absurd (cc (e)) }

  -- the mission's memory is closed on the way to the next mission alone
  abbrev GoesOn : Option Transition → Type 0
  GoesOn o = (t : Transition) → o ≡ Some t → t.effect ≡ ClosesMission → is_over t.phase ≡ false

  applied : (t : Transition) → (t.effect ≡ ClosesMission → is_over t.phase ≡ false) → Stays (transition_done code s t)
  unfolding seq_applied fault_in
  applied t goes = go t.effect goes
    where
      go : (e : SeqEffect) → (e ≡ ClosesMission → is_over t.phase ≡ false) →
          Stays (seq_applied code (record s { phase = t.phase; operation = t.operation; outcome = None }) e)
      go Continues goes over = refl
      go (TakesSafelet r) goes over = refl
      go (TakesSequencer r) goes over = refl
      go (TakesMission r) goes over = refl
      go (LacksSequencer safelet) goes over = refl
      go LacksMission goes over = refl
      go (BeginsMission r) goes over = refl
      go BeginsExecution goes over = refl
      go SkipsExecution goes over = refl
      go EndsExecution goes over = refl
      go ClosesMission goes over =
          absurd (true≢false (sym over ∙ (ap is_over (closed_phase
          (record s { phase = t.phase; operation = t.operation; outcome = None }) (innermost s.activity.areas))
          ∙ goes refl)))

  mapped : (o : Option Transition) → GoesOn o → Halts (option_map (transition_done code s) o)
  mapped None goes = nothing
  mapped (Some t) goes = some (transition_done code s t) (applied t (goes t refl))

  other : (t : Transition) → (t.effect ≡ ClosesMission → ⊥) → GoesOn (Some t)
  other t none u e is = absurd (let same : t ≡ u = cc (e) in none (ap (λ (x : Transition). x.effect) same ∙ is))

  initialized : (skips : Bool) (r : ℕ) → GoesOn (after_initialize skips r)
  initialized true r = other _ (λ e. cc (e))
  initialized false r = other _ (λ e. cc (e))

  next_mission : (known : Option ℕ) (r : ℕ) (value : Value) (skips : Bool) →
      GoesOn (transition known skips (CleanUp r) value)
  unfolding transition is_over
  next_mission None r value skips t e is = absurd (cc (e))
  next_mission (Some q) r value skips t e is =
      let u : Transition = record { phase = Next; operation = GetNextMission q; effect = ClosesMission } in
      let same : u ≡ t = cc (e) in ap (λ (x : Transition). is_over x.phase) (sym same)

  goes_on : (known : Option ℕ) (skips : Bool) (operation : SeqOp) (value : Value) →
      GoesOn (transition known skips operation value)
  unfolding transition
  goes_on known skips OpenImmortal value = other _ (λ e. cc (e))
  goes_on known skips AllocSafelet (At r) = other _ (λ e. cc (e))
  goes_on known skips AllocSafelet Null = λ t e. absurd (cc (e))
  goes_on known skips AllocSafelet (Int z) = λ t e. absurd (cc (e))
  goes_on known skips AllocSafelet (Truth b) = λ t e. absurd (cc (e))
  goes_on known skips (ConstructSafelet r) value = other _ (λ e. cc (e))
  goes_on known skips (InitializeApplication r) value = other _ (λ e. cc (e))
  goes_on known skips (GetSequencer r) (At q) = other _ (λ e. cc (e))
  goes_on known skips (GetSequencer r) Null = other _ (λ e. cc (e))
  goes_on known skips (GetSequencer r) (Int z) = other _ (λ e. cc (e))
  goes_on known skips (GetSequencer r) (Truth b) = other _ (λ e. cc (e))
  goes_on known skips (GetNextMission r) (At m) = other _ (λ e. cc (e))
  goes_on known skips (GetNextMission r) Null = other _ (λ e. cc (e))
  goes_on known skips (GetNextMission r) (Int z) = other _ (λ e. cc (e))
  goes_on known skips (GetNextMission r) (Truth b) = other _ (λ e. cc (e))
  goes_on known skips (OpenMission r) value = other _ (λ e. cc (e))
  goes_on known skips (Initialize r) value = initialized skips r
  goes_on known skips (CleanUp r) value = next_mission known r value skips
  goes_on known skips Execute value = λ t e. absurd (cc (e))
  goes_on known skips Finished value = λ t e. absurd (cc (e))

  halts : Halts (phase_after code s)
  unfolding phase_after
  halts = go (is_exec s.phase) (s.is_end_asked && not (has_started s)) s.outcome
    where
      ended : (o : Option ℕ) → Halts (option_map (transition_done code s)
          (o >>= (λ r. goes_to Cleanup (CleanUp r) EndsExecution)))
      ended None = nothing
      ended (Some r) = mapped (goes_to Cleanup (CleanUp r) EndsExecution) (other _ (λ e. cc (e)))

      go : (b c : Bool) (o : Option Value) → Halts (if b
          then (if c
          then option_map (transition_done code s) (s.mission >>= (λ r. goes_to Cleanup (CleanUp r) EndsExecution))
          else Some (silently s))
          else (elim o [ None ↦ Some (silently s) | Some value ↦ after_operation code s value ]))
      go true true o = ended s.mission
      go true false o = some (silently s) (λ over. refl)
      go false c None = some (silently s) (λ over. refl)
      go false c (Some value) =
          mapped (transition s.mission_sequencer (is_empty s.registry || s.is_end_asked) s.operation value)
          (goes_on s.mission_sequencer (is_empty s.registry || s.is_end_asked) s.operation value)

pub halting_phase_stays : (code : Code) (s : State) (step : Step) → phase_after code s ≡ Some step →
    is_over step.state.phase ≡ true → step.state.activity ≡ s.activity
halting_phase_stays code s step e over = (halts code s).is step e over
