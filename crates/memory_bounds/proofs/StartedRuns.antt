-- What holds where no release is started, and stays in turns of releases, holds in each state that a run comes to,
-- whichever release acts in each unit.
use Rattle.std.specs.Prelude.{Option, Some, None, slice_get, option_map, if◌then◌else◌}
use Rattle.std.proofs.Common.{◌≡◌, ℕ, List, Bool, true, false, not, ◌&&◌, ◌||◌, refl, sym, ◌∙◌, ap, subst}
use Rattle.scj_base.specs.declared.values.Value.{Value}
use Rattle.scj_rules.specs.Words.{◌>>=◌}
use Rattle.accepted_laws.proofs.Tools.{some_inj}
use Rattle.scj_model.specs.Code.{Code}
use Rattle.scj_model.specs.Plan.{Plan}
use Rattle.scj_model.specs.State.{Release, ReleaseAt, State, Turn, IdleTurn, TurnOf, is_exec}
use Rattle.scj_model.specs.Steps.{Step, silently, fault_in, then_try}
use Rattle.scj_model.specs.Sequencer.{innermost, SeqEffect, Continues, TakesSafelet, TakesSequencer, TakesMission, LacksSequencer, LacksMission, BeginsMission, BeginsExecution, SkipsExecution, EndsExecution, ClosesMission, Transition, goes_to, gone_to, seq_applied, transition, transition_done, after_operation, has_started, phase_after}
use Rattle.scj_model.specs.declared.operations.SeqOp.TheVariants.{CleanUp}
use Rattle.scj_model.specs.declared.phases.Phase.TheVariants.{Cleanup}
use Rattle.scj_rules.specs.Classes.{is_empty}
use Rattle.scj_model.specs.Arrivals.{arrivals}
use Rattle.scj_model.specs.Choice.{by_list}
use Rattle.scj_model.specs.Run.{acts, sequencer_turn, turn_taken, turn_acts, with_turn, ref_op, release_op_of, next_unit, empty_state}
use Rattle.scj_model.specs.Reached.{Moment, Arrived, Operated, Reached, at_first, on_arrival, on_operation, on_phase}
use Rattle.scj_model.proofs.Reaching.{Gives, gives_some, gives_reported, reached_keeps}
use Rattle.mission_sound.specs.Invariant.{Invariant}
use Rattle.mission_sound.proofs.Jobs.{not_under_way}
use Rattle.priority_laws.specs.Started.{StartedRelease, started_at}
use Rattle.priority_laws.proofs.ReachedOrder.{still_next}
use Rattle.priority_laws.proofs.SequencerEffects.{closed_releases}
use Rattle.priority_laws.proofs.StepCases.{gives_nothing, gives_if, gives_bind, gives_mapped}
use Rattle.priority_laws.proofs.Still.{IsStill, still_arrivals, still_turn}
use Rattle.scope_sound.specs.Sound.{HasFacts, SoundAt}
use Rattle.scope_sound.proofs.InAnyOrder.{reached_is_sound}
use Rattle.scope_sound.proofs.Operated.{operated}
use Rattle.memory_bounds.proofs.Quiet.{turn_quiet}
use Rattle.memory_bounds.proofs.Turns.{started_activity}

module _ (code : Code) (facts : HasFacts code) (plan : Plan) (choices : List ℕ) (P : State → Type 0)
    (none : (t : State) → ((q : ℕ) (w : StartedRelease) → started_at t.releases q ≡ Some w → ⊥) → P t)
    (still : (s t : State) → IsStill s t → P s → P t)
    (turn : (s : State) → Reached code plan (by_list choices) Arrived s → P s → is_exec s.phase ≡ true →
    (index : ℕ) (r : Release) → slice_get s.releases index ≡ Some r → (step : Step) →
    ref_op code plan.readings (with_turn s (TurnOf index)) (ReleaseAt index) ≡ Some step → P step.state) where
  abbrev Comes : Moment → State → Type 0
  Comes moment s = Reached code plan (by_list choices) moment s

  sound : (moment : Moment) (s : State) → Reached code plan (by_list choices) moment s → SoundAt code moment s
  sound moment s h =
      reached_is_sound code facts (operated code facts.bodies facts.sequencer) plan choices moment s h

  -- where no release is started
  none_started : (s t : State) → has_started s ≡ false → t.releases ≡ s.releases → P t
  none_started s t quiet same =
      none t (λ q w there.
      not_under_way s quiet q w.activity
      (started_activity s q w (ap (λ (rs : List Release). started_at rs q) (sym same) ∙ there)))

  -- ---- one step

  module _ (s : State) (h : Reached code plan (by_list choices) Arrived s) (b : P s) where
    -- the release whose turn it is
    chosen : is_exec s.phase ≡ true → (index : ℕ) →
        Gives P (ref_op code plan.readings (with_turn s (TurnOf index)) (ReleaseAt index))
    unfolding ref_op turn_taken
    chosen exec index = of (slice_get s.releases index) refl
      where
        of : (o : Option Release) → slice_get s.releases index ≡ o →
            Gives P (o >>= release_op_of code plan.readings (with_turn s (TurnOf index)) index)
        of None e = gives_nothing P
        of (Some r) e = record {
          is = λ step x. turn s h b exec index r e step
              (ap (λ (o : Option Release). o >>= release_op_of code plan.readings (with_turn s (TurnOf index)) index) e ∙ x);
        }

    any_iteration : (turn : Turn) → is_exec s.phase ≡ true →
        Gives P (then_try (turn_taken s turn) (turn_acts code plan.readings turn))
    unfolding turn_taken turn_acts
    any_iteration IdleTurn exec =
        gives_reported P (turn_taken s IdleTurn) (Some (silently (with_turn s IdleTurn)))
        (λ second e. subst (λ (x : Step). P x.state) (some_inj (silently (with_turn s IdleTurn)) second e)
        (still s (with_turn s IdleTurn) (still_turn s IdleTurn) b))
    any_iteration (TurnOf index) exec =
        gives_reported P (turn_taken s (TurnOf index)) (ref_op code plan.readings (with_turn s (TurnOf index)) (ReleaseAt index))
        (λ second e. (chosen exec index).is second e)

    operation_keeps : (step : Step) → acts code plan.readings (by_list choices) s ≡ Some step →
        P step.state
    unfolding acts
    operation_keeps step e = of (is_exec s.phase) refl
      where
        either : Bool → Option Step
        either b =
            if b then by_list choices s >>= (λ turn. then_try (turn_taken s turn) (turn_acts code plan.readings turn))
            else sequencer_turn code plan.readings s

        of : (b : Bool) → is_exec s.phase ≡ b → P step.state
        of true exec =
            (gives_bind P (by_list choices s) _ (λ turn k. any_iteration turn exec)).is step (sym (ap either exec) ∙ e)
        of false quiet =
            none_started step.state step.state
            ((sound Operated step.state (on_operation s step h e)).after.invariant.handlers.none_started
            ((turn_quiet code s quiet facts.bodies facts.sequencer plan.readings (sound Arrived s h).0).is step
            (sym (ap either quiet) ∙ e))) refl

  -- what follows an operation: a transition, while no release is started, or nothing
  releases_stay : (s : State) (effect : SeqEffect) → (seq_applied code s effect).state.releases ≡ s.releases
  unfolding seq_applied fault_in
  releases_stay s Continues = refl
  releases_stay s (TakesSafelet r) = refl
  releases_stay s (TakesSequencer r) = refl
  releases_stay s (TakesMission r) = refl
  releases_stay s (LacksSequencer r) = refl
  releases_stay s LacksMission = refl
  releases_stay s (BeginsMission r) = refl
  releases_stay s BeginsExecution = refl
  releases_stay s SkipsExecution = refl
  releases_stay s EndsExecution = refl
  releases_stay s ClosesMission = closed_releases s (innermost s.activity.areas)

  quiet_end : (a b : Bool) → (a && not b) ≡ true → b ≡ false
  quiet_end true false h = refl
  quiet_end true true h = absurd (cc (h))
  quiet_end false b h = absurd (cc (h))

  module _ (s : State) (i : Invariant code s) (b : P s) where
    transits : has_started s ≡ false → (o : Option Transition) → Gives P (option_map (transition_done code s) o)
    transits none o =
        gives_mapped P o (transition_done code s)
        (λ x e. none_started s (transition_done code s x).state none (releases_stay (gone_to s x) x.effect))

    pub phase_keeps : Gives P (phase_after code s)
    unfolding phase_after
    phase_keeps =
        gives_if P (is_exec s.phase) _ _
        (λ e. gives_if P (s.is_end_asked && not (has_started s)) _ _
        (λ f. transits (quiet_end s.is_end_asked (has_started s) f)
        (s.mission >>= (λ r. goes_to Cleanup (CleanUp r) EndsExecution)))
        (λ f. gives_some P (silently s) b))
        (λ e. on e s.outcome)
      where
        on : is_exec s.phase ≡ false → (v : Option Value) →
            Gives P (elim v [ None ↦ Some (silently s) | Some value ↦ after_operation code s value ])
        on e None = gives_some P (silently s) b
        on e (Some value) =
            transits (i.handlers.none_started e)
            (transition s.mission_sequencer (is_empty s.registry || s.is_end_asked) s.operation value)

  -- ---- all states

  record IsAt (moment : Moment) (s : State) : Type 0 where
    reached : Reached code plan (by_list choices) moment s
    holds : P s

  pub all_states : (moment : Moment) (s : State) → Reached code plan (by_list choices) moment s → P s
  unfolding empty_state started_at
  all_states moment s h =
      (reached_keeps code plan (by_list choices) IsAt
      (record { reached = at_first; holds = none (empty_state code plan) (λ q w there. absurd (cc (there))) })
      (λ s x e. record {
        reached = on_arrival s x.reached e;
        holds = still s (arrivals code plan s).state (still_arrivals code plan s) x.holds;
      })
      (λ s step x e. record {
        reached = on_operation s step x.reached e;
        holds = operation_keeps s x.reached x.holds step e;
      })
      (λ s step x e. record {
        reached = on_phase s step x.reached e;
        holds = still step.state (next_unit step.state) (still_next step.state)
            ((phase_keeps s (sound Operated s x.reached).after.invariant x.holds).is step e);
      }) h).holds
