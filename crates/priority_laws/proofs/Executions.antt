-- A unit of execution keeps the order, closes areas in order, and keeps monitors guarded where they are entered
-- rightly.
use Rattle.std.proofs.Common.{◌≤◌, zero, suc, ◌≡◌, ℕ, ◌⊎◌, true, false, List, [], inl, inr, Option, Some, None, if◌then◌else◌, refl, sym, ◌∙◌, subst}
use Rattle.scj_rules.specs.Words.{◌>>=◌}
use Rattle.scj_model.specs.declared.handlers.HandlerRow.{HandlerRow}
use Rattle.scj_model.specs.declared.operations.Op.{Op}
use Rattle.scj_model.specs.declared.plans.ReadingRow.{ReadingRow}
use Rattle.scj_model.specs.Code.{Code}
use Rattle.scj_model.specs.State.{Frame, Activity, Waits, Started, ReleaseAt, State, activity_of, is_exec, is_open_area, Turn, IdleTurn, TurnOf}
use Rattle.scj_model.specs.Registry.{handler_row}
use Rattle.scj_model.specs.Steps.{then_try}
use Rattle.scj_model.specs.Effects.{Effect, Goes, Prints, Makes, Stores, StoresStatic, SetsHidden, SetsCeiling, Calls, Opens, Leaves, AsksRegistration, AsksRelease, AsksTermination, Faults, Stuck}
use Rattle.scj_model.specs.Choice.{candidate, chosen, by_priority, may_act}
use Rattle.scj_model.specs.Run.{with_turn, turn_taken, turn_acts, acts, sequencer_turn}
use Rattle.scj_model.specs.Safety.{Lifo, job_may_act}
use Rattle.scj_model.proofs.Reaching.{Gives, gives_some, gives_reported}
use Rattle.priority_laws.specs.Started.{started_as}
use Rattle.priority_laws.specs.Handlers.{IsPriority, RowsHavePriorities, PrioritiesAreRight, ActiveAreAtMostHighest}
use Rattle.scj_model.specs.Memory.{highest_priority}
use Rattle.priority_laws.specs.Rising.{Guards}
use Rattle.priority_laws.specs.InOrder.{IsInOrder, MonitorsAreGuarded}
use Rattle.priority_laws.specs.Premises.{Does}
use Rattle.priority_laws.proofs.AreaLists.{not_both}
use Rattle.priority_laws.proofs.Still.{IsStill, order_still}
use Rattle.priority_laws.proofs.ReleaseMoves.{ReleaseMoves}
use Rattle.priority_laws.proofs.Shapes.{Enters}
use Rattle.priority_laws.proofs.LatestRelease.{bounded_kept, IsLatest, order_kept, lifo_kept, guarded_kept}
use Rattle.priority_laws.proofs.Urgency.{IsChosen, is_chosen}
use Rattle.priority_laws.proofs.ReleaseTurns.{EntersRightly, TakesTurn, op_turns}
use Rattle.priority_laws.proofs.ChosenTurns.{started_from, latest_started, latest_waits}

-- what a step keeps, monitors under a condition
pub record IsKept (code : Code) (condition : Type 0) (s t : State) : Type 0 where
  pub order : IsInOrder t
  pub lifo : Lifo s t
  pub guarded : condition → MonitorsAreGuarded code s → MonitorsAreGuarded code t
  pub bounded : PrioritiesAreRight code s → ActiveAreAtMostHighest s → ActiveAreAtMostHighest t

-- nothing is closed where all areas stay
pub lifo_same : (s t : State) → t.areas ≡ s.areas → Lifo s t
lifo_same s t e a b h c l =
    not_both (is_open_area s a) h (subst (λ areas. is_open_area (record s { areas = areas }) a ≡ false) e c)

pub bounded_still : (s t : State) → IsStill s t → ActiveAreAtMostHighest s → ActiveAreAtMostHighest t
bounded_still s t k h = record { is = λ p w e. h.is p w (sym (k.started p) ∙ e) }

pub guarded_still : (code : Code) (s t : State) → IsStill s t → MonitorsAreGuarded code s → MonitorsAreGuarded code t
guarded_still code s t k g =
    record {
      is = λ p w e.
          subst (λ objects. Guards code objects w.activity.priority w.activity.frames) (sym k.objects)
          (g.is p w (sym (k.started p) ∙ e));
    }

-- the condition in execution
abbrev pub EnterRightly : Code → List ReadingRow → State → Type 0
EnterRightly code rows s = (p : ℕ) → EntersRightly code rows s p

-- ---- a state in which a turn was taken

module _ (code : Code) (rows : List ReadingRow) (s : State) (turn : Turn) where
  latest_turn : (p handler priority : ℕ) (old : List Frame) → IsLatest s p handler priority old →
      IsLatest (with_turn s turn) p handler priority old
  latest_turn p handler priority old l =
      record {
        mine = l.mine;
        rise = l.rise;
        row = l.row;
        falls = l.falls;
        are_there = l.are_there;
        are_inside = l.are_inside;
        is_above = l.is_above;
        areas = l.areas;
      }

  pub does_turn : (p : ℕ) (op : Op) (e : Effect) → Does code rows (with_turn s turn) (ReleaseAt p) op e →
      Does code rows s (ReleaseAt p) op e
  unfolding job_may_act may_act candidate activity_of
  does_turn p op e d =
      record {
        may = d.may;
        activity = d.activity;
        is_activity = d.is_activity;
        frame = d.frame;
        below = d.below;
        frames = d.frames;
        rest = d.rest;
        ops = d.ops;
        is_effect = d.is_effect;
      }

  enters_turn : (e : Effect) → Enters code s e → Enters code (with_turn s turn) e
  enters_turn (Goes f) h = h
  enters_turn (Prints f label value) h = h
  enters_turn (Makes f class slots) h = h
  enters_turn (Stores f r slot value) h = h
  enters_turn (StoresStatic f index value) h = h
  enters_turn (SetsHidden f r values) h = h
  enters_turn (SetsCeiling f r ceiling) h = h
  enters_turn (Calls f g) h = h
  enters_turn (Opens f g scope bytes) h = h
  enters_turn (Leaves f value) h = h
  enters_turn (AsksRegistration f r) h = h
  enters_turn (AsksRelease f r) h = h
  enters_turn (AsksTermination f r) h = h
  enters_turn (Faults fault) h = h
  enters_turn Stuck h = h

  rightly_turn : EnterRightly code rows s → EnterRightly code rows (with_turn s turn)
  rightly_turn h p =
      record {
        effects =
            λ op e f rest d x. enters_turn e ((h p).effects op e f rest (does_turn p op e d) (record { is = x.is }));
        starts = λ r row body there waits is_row is_body. (h p).starts r row body there waits is_row is_body;
      }

-- the row of a handler's number is one of the registry
pub row_right : {registry : List HandlerRow} → RowsHavePriorities registry → (handler : ℕ) (row : HandlerRow) →
    handler_row registry handler ≡ Some row → IsPriority row.priority
row_right h zero row e = absurd (cc (e))
row_right h (suc n) row e = h.is n row e

-- ---- one unit

module _ (code : Code) (rows : List ReadingRow) (s : State) (o : IsInOrder s) (exec : is_exec s.phase ≡ true) where
  turned : (p : ℕ) (k : IsChosen s p) (t : State) →
      TakesTurn code rows (with_turn s (TurnOf p)) p k.release k.is_there exec t →
      IsKept code (EnterRightly code rows s) s t
  turned p k t x = go x.turn
    where
      u : State
      u = with_turn s (TurnOf p)

      in_order : IsInOrder u
      in_order =
          order_still s u
          (record {
            phase = refl;
            activity = refl;
            outcome = refl;
            registry = refl;
            objects = refl;
            areas = refl;
            started = λ q. refl;
          }) o

      kept : (priority : ℕ) (old : List Frame) → IsLatest s p k.release.handler priority old →
          ReleaseMoves code (EntersRightly code rows u p) u p k.release.handler priority old t →
          (MonitorsAreGuarded code s → Guards code s.objects priority old) →
          (PrioritiesAreRight code s → ActiveAreAtMostHighest s → priority ≤ highest_priority) →
          IsKept code (EnterRightly code rows s) s t
      kept priority old l m g low =
          let n : IsLatest u p k.release.handler priority old =
          latest_turn code rows s (TurnOf p) p k.release.handler priority old l in
          record {
            order =
                order_kept code (EntersRightly code rows u p) u t p k.release.handler priority old in_order exec n m;
            lifo = lifo_kept code (EntersRightly code rows u p) u t p k.release.handler priority old in_order exec n m;
            guarded = λ c h.
                guarded_kept code (EntersRightly code rows u p) u t p k.release.handler priority old in_order exec n m
                (rightly_turn code rows s (TurnOf p) c p) (g h)
                (record { is = h.is });
            bounded = λ c h.
                bounded_kept code (EntersRightly code rows u p) u t p k.release.handler priority old in_order exec n m
                (record { is = λ r x e. (c.ceilings.is r x e).1 }) (low c h) (record { is = h.is });
          }

      go : ((a : Activity) × (k.release.status ≡ Started a) ×
          ReleaseMoves code (EntersRightly code rows u p) u p k.release.handler a.priority a.frames t)
          ⊎ ((row : HandlerRow) × (k.release.status ≡ Waits) × (handler_row s.registry k.release.handler ≡ Some row) ×
          ReleaseMoves code (EntersRightly code rows u p) u p k.release.handler row.priority [] t) →
          IsKept code (EnterRightly code rows s) s t
      go (inl y) =
          kept y.0.priority y.0.frames (latest_started s o p k y.0 y.1) y.2
          (λ h. h.is p (started_as k.release.handler y.0) (started_from s p k.release y.0 k.is_there y.1))
          (λ c h. h.is p (started_as k.release.handler y.0) (started_from s p k.release y.0 k.is_there y.1))
      go (inr y) =
          kept y.0.priority [] (latest_waits s o p k y.0 y.1 y.2) y.3 (λ h. tt)
          (λ c h. (row_right c.rows k.release.handler y.0 y.2).1)

  idle : IsKept code (EnterRightly code rows s) s (with_turn s IdleTurn)
  idle =
      record {
        order =
            order_still s (with_turn s IdleTurn)
            (record {
              phase = refl;
              activity = refl;
              outcome = refl;
              registry = refl;
              objects = refl;
              areas = refl;
              started = λ q. refl;
            }) o;
        lifo = lifo_same s (with_turn s IdleTurn) refl;
        guarded = λ c h. record { is = h.is };
        bounded = λ c h. record { is = h.is };
      }

  by_choice : (index : Option ℕ) → chosen s ≡ index →
      Gives (IsKept code (EnterRightly code rows s) s)
      (then_try (turn_taken s (elim index [ None ↦ IdleTurn | Some index ↦ TurnOf index ]))
      (turn_acts code rows (elim index [ None ↦ IdleTurn | Some index ↦ TurnOf index ])))
  unfolding turn_taken turn_acts
  by_choice None e = gives_some (IsKept code (EnterRightly code rows s) s) _ idle
  by_choice (Some p) e =
      let k : IsChosen s p = is_chosen s p e in
      gives_reported (IsKept code (EnterRightly code rows s) s) (turn_taken s (TurnOf p)) _
      (λ step f. turned p k step.state
      ((op_turns code rows (with_turn s (TurnOf p)) p k.release k.is_there exec).is step f))

  pub unit_kept : Gives (IsKept code (EnterRightly code rows s) s) (acts code rows by_priority s)
  unfolding acts by_priority
  unit_kept =
      subst
      (λ b. Gives (IsKept code (EnterRightly code rows s) s)
      (if b then (Some (elim (chosen s) [ None ↦ IdleTurn | Some index ↦ TurnOf index ])
      >>= (λ turn. then_try (turn_taken s turn) (turn_acts code rows turn))) else sequencer_turn code rows s))
      (sym exec)
      (by_choice (chosen s) refl)
