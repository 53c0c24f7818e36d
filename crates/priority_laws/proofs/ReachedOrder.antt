-- The states of runs by priority are in order, what they close was opened last, and where releases enter their monitors
-- rightly the monitors stay guarded.
use Rattle.std.proofs.Common.{◌≡◌, List, [], true, false, ◌⊎◌, inl, inr, Some, if◌then◌else◌, refl, sym, ap, ◌∙◌}
use Rattle.scj_rules.specs.Words.{◌>>=◌}
use Rattle.scj_model.specs.declared.operations.Op.{Op}
use Rattle.scj_model.specs.declared.plans.ReadingRow.{ReadingRow}
use Rattle.scj_model.specs.Code.{Code}
use Rattle.scj_model.specs.Plan.{Plan}
use Rattle.scj_model.specs.State.{Frame, ReleaseAt, State, is_exec}
use Rattle.scj_model.specs.Steps.{Step, then_try}
use Rattle.scj_model.specs.Effects.{Effect, Goes, Prints, Makes, Stores, StoresStatic, SetsHidden, SetsCeiling, Calls, Opens, Leaves, AsksRegistration, AsksRelease, AsksTermination, Faults, Stuck}
use Rattle.scj_model.specs.Sequencer.{phase_after}
use Rattle.scj_model.specs.Arrivals.{arrivals}
use Rattle.scj_model.specs.Choice.{by_priority}
use Rattle.scj_model.specs.Run.{environment, turn_taken, turn_acts, acts, sequencer_turn, next_unit, empty_state}
use Rattle.scj_model.specs.Reached.{Moment, Between, Arrived, Operated, Reached, at_first, on_arrival, on_operation, on_phase}
use Rattle.scj_model.specs.Safety.{Lifo}
use Rattle.scj_model.proofs.Reaching.{reached_keeps}
use Rattle.priority_laws.specs.Started.{started_at}
use Rattle.priority_laws.specs.InOrder.{IsOrderedAt, MonitorsAreGuarded}
use Rattle.priority_laws.specs.Premises.{Does, EntersItsMonitors}
use Rattle.priority_laws.proofs.AreaLists.{bool_cases}
use Rattle.priority_laws.proofs.Still.{IsStill, still_arrivals, order_still}
use Rattle.priority_laws.proofs.Shapes.{Formed, Enters}
use Rattle.priority_laws.proofs.OperationShapes.{scene_of}
use Rattle.priority_laws.proofs.Executions.{IsKept, EnterRightly, guarded_still, unit_kept}
use Rattle.priority_laws.proofs.SequencerMoves.{sequencer_kept}
use Rattle.priority_laws.proofs.SequencerTurns.{turn_moves}
use Rattle.priority_laws.proofs.Phases.{IsPhased, phase_kept}

-- ---- one step

pub operation_kept : (code : Code) (rows : List ReadingRow) (s : State) → IsOrderedAt Arrived s → (step : Step) →
    acts code rows by_priority s ≡ Some step → IsKept code (EnterRightly code rows s) s step.state
unfolding acts
operation_kept code rows s o step e = go (bool_cases (is_exec s.phase))
  where
    go : (is_exec s.phase ≡ true) ⊎ (is_exec s.phase ≡ false) → IsKept code (EnterRightly code rows s) s step.state
    go (inl exec) = (unit_kept code rows s o.order exec).is step e
    go (inr quiet) =
        let same : sequencer_turn code rows s ≡ Some step =
        sym
        (ap
        (λ b. if b then (by_priority s >>= (λ turn. then_try (turn_taken s turn) (turn_acts code rows turn)))
        else sequencer_turn code rows s) quiet) ∙ e in
        sequencer_kept code s step.state o.order (o.order.turns.outside quiet)
        ((turn_moves code s (o.order.turns.outside quiet) quiet o.followed o.order.sequencer rows).is step same)
        (EnterRightly code rows s)

pub still_next : (s : State) → IsStill s (next_unit s)
still_next s =
    record {
      phase = refl;
      activity = refl;
      outcome = refl;
      registry = refl;
      objects = refl;
      areas = refl;
      started = λ q. refl;
    }

-- ---- all steps

first_order : (code : Code) (plan : Plan) → IsOrderedAt Between (empty_state code plan)
unfolding empty_state is_exec started_at
first_order code plan =
    record {
      order = record {
        turns = record { outside = λ e q. refl; inside = λ e. refl; waits = λ e. refl; done = λ v e. refl };
        started = record { is = λ p q w v n e f. absurd (cc (e)) };
        rise = record { is = λ p w e. absurd (cc (e)) };
        rows = record { is = λ p w e. absurd (cc (e)) };
        sequencer = record { falls = tt; are_there = λ a h. absurd (cc (h)); base = []; is_list = refl };
        nest = record { is = λ p w e. absurd (cc (e)) };
        opened = record { is = λ a h. absurd (cc (h)) };
      };
      followed = refl;
    }

pub ordered : (code : Code) (plan : Plan) {moment : Moment} {s : State} → Reached code plan by_priority moment s →
    IsOrderedAt moment s
ordered code plan h =
    reached_keeps code plan by_priority IsOrderedAt (first_order code plan) (λ s o e. arrived s o)
    (λ s step o e. record { order = (operation_kept code plan.readings s o step e).order; followed = tt })
    (λ s step o e. phased s step o e) h
  where
    arrived : (s : State) → IsOrderedAt Between s → IsOrderedAt Arrived (arrivals code plan s).state
    arrived s o =
        record {
          order = order_still s (arrivals code plan s).state (still_arrivals code plan s) o.order;
          followed = (still_arrivals code plan s).outcome ∙ o.followed;
        }

    phased : (s : State) (step : Step) → IsOrderedAt Operated s → phase_after code s ≡ Some step →
        IsOrderedAt Between (next_unit step.state)
    phased s step o e =
        let p : IsPhased code s step.state = (phase_kept code s o.order).is step e in
        record {
          order = order_still step.state (next_unit step.state) (still_next step.state) p.kept.order;
          followed = p.followed;
        }

-- ---- monitors

enters_rightly : (code : Code) (plan : Plan) → EntersItsMonitors code → (s : State) →
    Reached code plan by_priority Arrived s → EnterRightly code plan.readings s
enters_rightly code plan m s h p =
    record {
      effects = λ op e f rest d x. enters op e f rest d x;
      starts = λ r row body there waits is_row is_body. m.starts plan s p r row body h there waits is_row is_body;
    }
  where
    enters : (op : Op) (e : Effect) (frame : Frame) (rest : List Op) → Does code plan.readings s (ReleaseAt p) op e →
        Formed (scene_of code (environment plan.readings s) frame rest op) e → Enters code s e
    enters op (Goes f) frame rest d x = tt
    enters op (Prints f label value) frame rest d x = tt
    enters op (Makes f class slots) frame rest d x = tt
    enters op (Stores f r slot value) frame rest d x = tt
    enters op (StoresStatic f place value) frame rest d x = tt
    enters op (SetsHidden f r values) frame rest d x = tt
    enters op (SetsCeiling f r ceiling) frame rest d x = tt
    enters op (Calls f g) frame rest d x = x.is.1.is m.constructors
    enters op (Opens f g scope bytes) frame rest d x = m.opens plan s p op f g scope bytes h d
    enters op (Leaves f value) frame rest d x = tt
    enters op (AsksRegistration f r) frame rest d x = tt
    enters op (AsksRelease f r) frame rest d x = tt
    enters op (AsksTermination f r) frame rest d x = tt
    enters op (Faults fault) frame rest d x = tt
    enters op Stuck frame rest d x = tt

-- a reached state whose monitors are guarded
record IsGuardedAt (code : Code) (plan : Plan) (moment : Moment) (s : State) : Type 0 where
  reached : Reached code plan by_priority moment s
  guarded : MonitorsAreGuarded code s

pub guarded : (code : Code) (plan : Plan) → EntersItsMonitors code → {moment : Moment} {s : State} →
    Reached code plan by_priority moment s → MonitorsAreGuarded code s
unfolding empty_state started_at
guarded code plan m h =
    (reached_keeps code plan by_priority (IsGuardedAt code plan)
    (record { reached = at_first; guarded = record { is = λ p w e. absurd (cc (e)) } })
    (λ s g e. record {
      reached = on_arrival s g.reached e;
      guarded = guarded_still code s (arrivals code plan s).state
          (still_arrivals code plan s) g.guarded;
    })
    (λ s step g e. record {
      reached = on_operation s step g.reached e;
      guarded = (operation_kept code plan.readings s (ordered code plan g.reached) step e).guarded
          (enters_rightly code plan m s g.reached) g.guarded;
    })
    (λ s step g e. record {
      reached = on_phase s step g.reached e;
      guarded = guarded_still code step.state (next_unit step.state) (still_next step.state)
          (((phase_kept code s (ordered code plan g.reached).order).is step e).kept.guarded tt g.guarded);
    }) h).guarded

-- ---- what is closed

pub operation_in_order : (code : Code) (plan : Plan) (s : State) (step : Step) →
    Reached code plan by_priority Arrived s → acts code plan.readings by_priority s ≡ Some step → Lifo s step.state
operation_in_order code plan s step h e = (operation_kept code plan.readings s (ordered code plan h) step e).lifo

pub phase_in_order : (code : Code) (plan : Plan) (s : State) (step : Step) → Reached code plan by_priority Operated s →
    phase_after code s ≡ Some step → Lifo s step.state
phase_in_order code plan s step h e = ((phase_kept code s (ordered code plan h).order).is step e).kept.lifo
