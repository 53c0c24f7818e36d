-- The priorities of the states of runs by priority are right, where no program writes over the priority of a handler.
use Rattle.std.proofs.Common.{◌≡◌, ℕ, Bool, true, false, not, ◌&&◌, ◌||◌, List, Option, Some, None, refl, ap, ◌∙◌}
use Rattle.std.specs.Prelude.{option_map}
use Rattle.scj_base.specs.declared.values.Value.{Value}
use Rattle.scj_rules.specs.Words.{◌>>=◌}
use Rattle.scj_rules.specs.Classes.{is_empty}
use Rattle.scj_model.specs.declared.operations.SeqOp.TheVariants.{CleanUp}
use Rattle.scj_model.specs.declared.phases.Phase.TheVariants.{Cleanup}
use Rattle.scj_model.specs.declared.plans.ReadingRow.{ReadingRow}
use Rattle.scj_model.specs.Code.{Code}
use Rattle.scj_model.specs.Plan.{Plan}
use Rattle.scj_model.specs.State.{TheSequencer, ReleaseAt, State, is_exec, is_over, Turn, IdleTurn, TurnOf}
use Rattle.scj_model.specs.Memory.{closed}
use Rattle.scj_model.specs.Steps.{silently, fault_in, then_try}
use Rattle.scj_model.specs.Effects.{Effect, Makes, Stores, SetsHidden, SetsCeiling, AsksRegistration}
use Rattle.scj_model.specs.Sequencer.{innermost, SeqEffect, Continues, TakesSafelet, TakesSequencer, TakesMission, LacksSequencer, LacksMission, BeginsMission, BeginsExecution, SkipsExecution, EndsExecution, ClosesMission, Transition, goes_to, gone_to, seq_applied, transition, transition_done, after_operation, has_started, phase_after}
use Rattle.scj_model.specs.Arrivals.{arrivals}
use Rattle.scj_model.specs.Choice.{chosen, by_priority}
use Rattle.scj_model.specs.Run.{with_turn, turn_taken, turn_acts, acts, next_unit, empty_state}
use Rattle.scj_model.specs.Reached.{Moment, Arrived, Reached, at_first, on_arrival, on_operation, on_phase}
use Rattle.scj_model.specs.Safety.{job_may_act}
use Rattle.scj_model.proofs.Reaching.{Gives, gives_some, gives_reported, reached_keeps}
use Rattle.priority_laws.specs.Handlers.{PrioritiesAreRight, ActiveAreAtMostHighest}
use Rattle.priority_laws.specs.Started.{started_at}
use Rattle.priority_laws.proofs.Phases.{phase_kept}
use Rattle.priority_laws.proofs.ReachedOrder.{operation_kept, still_next, ordered}
use Rattle.priority_laws.specs.Premises.{SparesPriorities}
use Rattle.priority_laws.proofs.StepCases.{gives_if, gives_mapped}
use Rattle.priority_laws.proofs.Still.{still_arrivals}
use Rattle.priority_laws.proofs.Urgency.{IsChosen, is_chosen}
use Rattle.priority_laws.proofs.Executions.{does_turn, bounded_still}
use Rattle.priority_laws.proofs.RightObjects.{right_same, right_cleared}
use Rattle.priority_laws.proofs.RightEffects.{Right, right_still, right_closed}
use Rattle.priority_laws.proofs.RightTurns.{ActsRightly, acts_rightly, right_release, right_turn}

-- ---- a unit

module _ (code : Code) (rows : List ReadingRow) (s : State) (turn : Turn) where
  effect_turn : (e : Effect) → Right code s e → Right code (with_turn s turn) e
  effect_turn (Makes f class slots) x = record { is = x.is }
  effect_turn (Stores f r slot value) x = record { is = x.is }
  effect_turn (SetsHidden f r values) x = record { is = x.is }
  effect_turn (SetsCeiling f r ceiling) x = record { is = x.is }
  effect_turn (AsksRegistration f r) x = record { is = x.is }
  effect_turn _ x = record { is = tt }

  rightly_turn : (p : ℕ) → ActsRightly code rows s (ReleaseAt p) →
      ActsRightly code rows (with_turn s turn) (ReleaseAt p)
  rightly_turn p c =
      record {
        is = λ op e f rest d x. effect_turn e
            (c.is op e f rest (does_turn code rows s turn p op e d) (record { is = x.is }));
      }

module _ (code : Code) (plan : Plan) (spares : SparesPriorities code) (s : State)
    (reached : Reached code plan by_priority Arrived s) (h : PrioritiesAreRight code s) where
  by_choice : is_exec s.phase ≡ true → (index : Option ℕ) → chosen s ≡ index →
      Gives (PrioritiesAreRight code)
      (then_try (turn_taken s (elim index [ None ↦ IdleTurn | Some index ↦ TurnOf index ]))
      (turn_acts code plan.readings (elim index [ None ↦ IdleTurn | Some index ↦ TurnOf index ])))
  unfolding turn_taken turn_acts
  by_choice exec None e = gives_some (PrioritiesAreRight code) _ (right_same code s h _ refl refl)
  by_choice exec (Some p) e =
      let k : IsChosen s p = is_chosen s p e in
      gives_reported (PrioritiesAreRight code) (turn_taken s (TurnOf p)) _
      (λ step f.
      (right_release code plan.readings (with_turn s (TurnOf p)) (right_same code s h _ refl refl) p k.release
      k.is_there exec
      (rightly_turn code plan.readings s (TurnOf p) p (acts_rightly code plan spares s reached (ReleaseAt p)))).is step
      f)

  may_not : (a b : Bool) → a ≡ false → b ≡ false → (not a && not b) ≡ true
  may_not false false e f = refl
  may_not true b e f = absurd (cc (e))
  may_not false true e f = absurd (cc (f))

  right_acts : is_over s.phase ≡ false → Gives (PrioritiesAreRight code) (acts code plan.readings by_priority s)
  unfolding acts by_priority job_may_act
  right_acts over =
      gives_if (PrioritiesAreRight code) (is_exec s.phase) _ _ (λ exec. by_choice exec (chosen s) refl)
      (λ quiet. right_turn code plan.readings s h (acts_rightly code plan spares s reached TheSequencer)
      (may_not (is_exec s.phase) (is_over s.phase) quiet over))

-- ---- what follows

right_effect : (code : Code) (s : State) (effect : SeqEffect) → PrioritiesAreRight code s →
    PrioritiesAreRight code (seq_applied code s effect).state
unfolding seq_applied fault_in
right_effect code s Continues h = h
right_effect code s (TakesSafelet q) h = right_same code s h _ refl refl
right_effect code s (TakesSequencer q) h = right_same code s h _ refl refl
right_effect code s (TakesMission q) h = right_same code s h _ refl refl
right_effect code s (LacksSequencer q) h = right_same code s h _ refl refl
right_effect code s LacksMission h = h
right_effect code s (BeginsMission q) h = h
right_effect code s BeginsExecution h = right_same code s h _ refl refl
right_effect code s SkipsExecution h = h
right_effect code s EndsExecution h = h
right_effect code s ClosesMission h =
    right_cleared code (closed s (innermost s.activity.areas)) (right_closed code s (innermost s.activity.areas) h) _
    refl refl

module _ (code : Code) (s : State) (h : PrioritiesAreRight code s) where
  transits : (t : Option Transition) → Gives (PrioritiesAreRight code) (option_map (transition_done code s) t)
  transits t =
      gives_mapped (PrioritiesAreRight code) t (transition_done code s)
      (λ x e. right_effect code (gone_to s x) x.effect (right_same code s h _ refl refl))

  right_phase : Gives (PrioritiesAreRight code) (phase_after code s)
  unfolding phase_after
  right_phase =
      gives_if (PrioritiesAreRight code) (is_exec s.phase) _ _
      (λ e. gives_if (PrioritiesAreRight code) (s.is_end_asked && not (has_started s)) _ _
      (λ f. transits (s.mission >>= (λ r. goes_to Cleanup (CleanUp r) EndsExecution)))
      (λ f. gives_some (PrioritiesAreRight code) (silently s) h))
      (λ e. on s.outcome)
    where
      on : (v : Option Value) →
          Gives (PrioritiesAreRight code)
          (elim v [ None ↦ Some (silently s) | Some value ↦ after_operation code s value ])
      on None = gives_some (PrioritiesAreRight code) (silently s) h
      on (Some value) =
          transits (transition s.mission_sequencer (is_empty s.registry || s.is_end_asked) s.operation value)

-- ---- all states

-- a reached state with right priorities, which isn't over once releases have arrived
record IsRightAt (code : Code) (plan : Plan) (moment : Moment) (s : State) : Type 0 where
  reached : Reached code plan by_priority moment s
  right : PrioritiesAreRight code s

not_over : (code : Code) (plan : Plan) (s : State) → Reached code plan by_priority Arrived s → is_over s.phase ≡ false
not_over code plan s (on_arrival t h e) = ap is_over (still_arrivals code plan t).phase ∙ e

pub right_priorities : (code : Code) (plan : Plan) → SparesPriorities code → {moment : Moment} {s : State} →
    Reached code plan by_priority moment s → PrioritiesAreRight code s
unfolding empty_state
right_priorities code plan spares h =
    (reached_keeps code plan by_priority (IsRightAt code plan)
    (record {
      reached = at_first;
      right = record {
        handlers = record { is = λ r o e c. absurd (cc (e)) };
        rows = record { is = λ k row e. absurd (cc (e)) };
        classes = record { is = λ k row e. absurd (cc (e)) };
        ceilings = record { is = λ r o e. absurd (cc (e)) };
      };
    })
    (λ s g e. record {
      reached = on_arrival s g.reached e;
      right = right_still code s (arrivals code plan s).state g.right (still_arrivals code plan s);
    })
    (λ s step g e. record {
      reached = on_operation s step g.reached e;
      right = (right_acts code plan spares s g.reached g.right (not_over code plan s g.reached)).is step e;
    })
    (λ s step g e. record {
      reached = on_phase s step g.reached e;
      right = right_same code step.state ((right_phase code s g.right).is step e) (next_unit step.state) refl refl;
    }) h).right

-- ---- active priorities

-- a reached state whose active priorities are at most the highest one
record IsBoundedAt (code : Code) (plan : Plan) (moment : Moment) (s : State) : Type 0 where
  reached : Reached code plan by_priority moment s
  bounded : ActiveAreAtMostHighest s

pub bounded_priorities : (code : Code) (plan : Plan) → SparesPriorities code → {moment : Moment} {s : State} →
    Reached code plan by_priority moment s → ActiveAreAtMostHighest s
unfolding empty_state started_at
bounded_priorities code plan spares h =
    (reached_keeps code plan by_priority (IsBoundedAt code plan)
    (record { reached = at_first; bounded = record { is = λ p w e. absurd (cc (e)) } })
    (λ s g e. record {
      reached = on_arrival s g.reached e;
      bounded = bounded_still s (arrivals code plan s).state (still_arrivals code plan s) g.bounded;
    })
    (λ s step g e. record {
      reached = on_operation s step g.reached e;
      bounded = (operation_kept code plan.readings s (ordered code plan g.reached) step e).bounded
          (right_priorities code plan spares g.reached) g.bounded;
    })
    (λ s step g e. record {
      reached = on_phase s step g.reached e;
      bounded = bounded_still step.state (next_unit step.state) (still_next step.state)
          (((phase_kept code s (ordered code plan g.reached).order).is step e).kept.bounded
          (right_priorities code plan spares g.reached) g.bounded);
    }) h).bounded
