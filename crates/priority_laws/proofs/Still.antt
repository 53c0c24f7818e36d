-- Steps that start no release and end none: releases are taken in, waiting ones are dropped, a turn is taken. The order
-- stays.
use Rattle.std.proofs.Common.{◌≡◌, ℕ, ◌<◌, true, not, List, [], ◌∷◌, ◌++◌, length, ◌⊎◌, inl, inr, Option, Some, None, refl, sym, ap, ◌∙◌, subst}
use Rattle.std.specs.Prelude.{is_some, slice_get, nat_lt}
use Rattle.scj_rules.specs.Words.{is_among}
use Rattle.scj_model.specs.declared.events.Event.TheVariants.{Miss}
use Rattle.scj_model.specs.declared.handlers.HandlerRow.{HandlerRow}
use Rattle.scj_model.specs.declared.plans.Fire.{Fire}
use Rattle.scj_model.specs.Code.{Code}
use Rattle.scj_model.specs.Plan.{Plan}
use Rattle.scj_model.specs.State.{MemoryArea, Activity, State, is_exec, is_open_area, Turn, activity_in}
use Rattle.scj_model.specs.Registry.{handler_number, handler_row}
use Rattle.scj_model.specs.Steps.{Step, for_each, reporting}
use Rattle.scj_model.specs.Apply.{waiting_of, most_waiting, takes_releases, release_taken, released, termination, termination_asked, asks_for_end, dropped_release}
use Rattle.scj_model.specs.Arrivals.{executes_since, due_handlers, fired_handler, fired, arrivals, fired_at, fires_due}
use Rattle.scj_model.specs.Choice.{handler_priority}
use Rattle.scj_model.specs.Run.{turn_taken}
use Rattle.priority_laws.specs.Started.{StartedRelease, started_in, started_at, own_priority}
use Rattle.priority_laws.specs.Rising.{Rises}
use Rattle.priority_laws.specs.Nesting.{opened_by, AreBelow, AreBefore, Falls, NestsForRelease, IsOpenedByRelease}
use Rattle.priority_laws.specs.InOrder.{IsStartedAfter, IsInOrder}
use Rattle.priority_laws.proofs.StartedReleases.{started_more, started_mapped, started_dropped}
use Rattle.priority_laws.proofs.StepCases.{step_if, step_option}

-- the two states have the same jobs, memory and handlers
pub record IsStill (s t : State) : Type 0 where
  pub phase : t.phase ≡ s.phase
  pub activity : t.activity ≡ s.activity
  pub outcome : t.outcome ≡ s.outcome
  pub registry : t.registry ≡ s.registry
  pub objects : t.objects ≡ s.objects
  pub areas : t.areas ≡ s.areas
  pub started : (q : ℕ) → started_at t.releases q ≡ started_at s.releases q

pub still_same : (s : State) → IsStill s s
still_same s =
    record {
      phase = refl;
      activity = refl;
      outcome = refl;
      registry = refl;
      objects = refl;
      areas = refl;
      started = λ q. refl;
    }

pub still_then : (s t u : State) → IsStill s t → IsStill t u → IsStill s u
still_then s t u h k =
    record {
      phase = k.phase ∙ h.phase;
      activity = k.activity ∙ h.activity;
      outcome = k.outcome ∙ h.outcome;
      registry = k.registry ∙ h.registry;
      objects = k.objects ∙ h.objects;
      areas = k.areas ∙ h.areas;
      started = λ q. k.started q ∙ h.started q;
    }

-- ---- the steps

pub still_taken : (s : State) (handler : ℕ) → IsStill s (release_taken s handler).state
unfolding release_taken started_in activity_in
still_taken s handler =
    step_if (IsStill s) (not (nat_lt (length (waiting_of s handler)) most_waiting)) _ _ (λ e. still_same s)
    (λ e. record {
      phase = refl;
      activity = refl;
      outcome = refl;
      registry = refl;
      objects = refl;
      areas = refl;
      started = λ q. started_more s.releases _ q refl;
    })

pub still_released : (s : State) (r : ℕ) → IsStill s (released s r).state
unfolding released
still_released s r =
    step_if (IsStill s) (takes_releases s) _ _
    (λ e. step_option (IsStill s) (handler_number s.registry r) _ _ (λ n. still_same s)
    (λ handler n. still_taken s handler))
    (λ e. still_same s)

pub still_asked : (s : State) (r : ℕ) → IsStill s (termination_asked s r).state
unfolding termination_asked termination
still_asked s r =
    step_if (IsStill s) (asks_for_end s.mission s.phase s.is_end_asked r) _ _
    (λ e. step_if (IsStill s) (is_exec s.phase) _ _
    (λ f. record {
      phase = refl;
      activity = refl;
      outcome = refl;
      registry = refl;
      objects = refl;
      areas = refl;
      started = λ q. started_mapped dropped_release s.releases q started_dropped;
    })
    (λ f. record {
      phase = refl;
      activity = refl;
      outcome = refl;
      registry = refl;
      objects = refl;
      areas = refl;
      started = λ q. refl;
    }))
    (λ e. still_same s)

pub still_turn : (s : State) (turn : Turn) → IsStill s (turn_taken s turn).state
unfolding turn_taken
still_turn s turn =
    record {
      phase = refl;
      activity = refl;
      outcome = refl;
      registry = refl;
      objects = refl;
      areas = refl;
      started = λ q. refl;
    }

still_each : {A : Type 0} (step : State → A → Step) → ((s : State) (x : A) → IsStill s (step s x).state) →
    (xs : List A) (s : State) → IsStill s (for_each step xs s).state
unfolding for_each
still_each step q [] s = still_same s
still_each step q (x ∷ xs) s = still_then s (step s x).state _ (q s x) (still_each step q xs (step s x).state)

still_fired : (code : Code) (s : State) (fire : Fire) → IsStill s (fired code s fire).state
unfolding fired
still_fired code s fire = go (fired_handler code s fire.handler)
  where
    go : (h : Option ℕ) →
        IsStill s
        (elim h as (λ x. Step) [
          | Some handler ↦ release_taken s handler
          | None ↦ reporting s (Miss s.unit fire.handler ∷ [])
        ]).state
    go None = still_same s
    go (Some handler) = still_taken s handler

still_fired_at : (code : Code) (fires : List Fire) (s : State) (index : ℕ) →
    IsStill s (fired_at code fires s index).state
still_fired_at code fires s index =
    step_option (IsStill s) (slice_get fires index) _ _ (λ e. still_same s) (λ fire e. still_fired code s fire)

pub still_arrivals : (code : Code) (plan : Plan) (s : State) → IsStill s (arrivals code plan s).state
unfolding arrivals
still_arrivals code plan s =
    still_then s (for_each release_taken (due_handlers s) s).state _
    (still_each release_taken still_taken (due_handlers s) s)
    (still_each (fired_at code plan.fires) (still_fired_at code plan.fires) (fires_due (executes_since s) s.unit plan.fires)
    (for_each release_taken (due_handlers s) s).state)

-- ---- the order stays

module _ (s t : State) (k : IsStill s t) where
  pub own_same : (w : StartedRelease) → own_priority t w ≡ own_priority s w
  own_same w =
      ap (λ (registry : List HandlerRow). handler_priority (record s { registry = registry }) w.handler) k.registry

  was_started : (q : ℕ) (w : StartedRelease) → started_at t.releases q ≡ Some w → started_at s.releases q ≡ Some w
  was_started q w e = sym (k.started q) ∙ e

  after_still : (w v : StartedRelease) → IsStartedAfter s w v → IsStartedAfter t w v
  after_still w v h =
      record { is_above = subst (λ n. w.activity.priority < n) (sym (own_same v)) h.is_above; areas = h.areas }

  in_turn : (w v : StartedRelease) → IsStartedAfter s w v ⊎ IsStartedAfter s v w →
      IsStartedAfter t w v ⊎ IsStartedAfter t v w
  in_turn w v (inl h) = inl (after_still w v h)
  in_turn w v (inr h) = inr (after_still v w h)

  opened_still : (a : ℕ) → (is_among a s.activity.areas ≡ true) ⊎ IsOpenedByRelease s a →
      (is_among a t.activity.areas ≡ true) ⊎ IsOpenedByRelease t a
  opened_still a (inl m) = inl (ap (λ (x : Activity). is_among a x.areas) k.activity ∙ m)
  opened_still a (inr o) =
      inr (record {
        index = o.index;
        release = o.release;
        is_there = k.started o.index ∙ o.is_there;
        is_opened = o.is_opened;
      })

  nest_still : (w : StartedRelease) → NestsForRelease s w → NestsForRelease t w
  nest_still w n =
      record {
        falls = n.falls;
        are_there = subst (λ (xs : List MemoryArea). AreBelow (length xs) (opened_by w.activity.frames))
            (sym k.areas) n.are_there;
        are_inside = subst (λ (x : Activity). AreBefore x.areas (opened_by w.activity.frames))
            (sym k.activity) n.are_inside;
      }

  pub order_still : IsInOrder s → IsInOrder t
  order_still o =
      record {
        turns = record {
          outside = λ e q. k.started q ∙ o.turns.outside (sym (ap is_exec k.phase) ∙ e) q;
          inside = λ e. ap (λ (x : Activity). x.frames) k.activity ∙ o.turns.inside (sym (ap is_exec k.phase) ∙ e);
          waits = λ e. k.outcome ∙ o.turns.waits (sym (ap is_exec k.phase) ∙ e);
          done = λ v e. ap (λ (x : Activity). x.frames) k.activity ∙ o.turns.done v (sym k.outcome ∙ e);
        };
        started =
            record {
              is = λ p q w v n e f. in_turn w v (o.started.is p q w v n (was_started p w e) (was_started q v f));
            };
        rise = record {
          is = λ p w e.
              subst (λ n. Rises n w.activity.priority w.activity.frames) (sym (own_same w))
              (o.rise.is p w (was_started p w e));
        };
        rows = record {
          is = λ p w e.
              subst (λ xs. is_some (handler_row xs w.handler) ≡ true) (sym k.registry)
              (o.rows.is p w (was_started p w e));
        };
        sequencer = record {
          falls = subst (λ (x : Activity). Falls x.areas) (sym k.activity) o.sequencer.falls;
          are_there = subst (λ (x : Activity). AreBelow (length t.areas) x.areas) (sym k.activity)
              (subst (λ (xs : List MemoryArea). AreBelow (length xs) s.activity.areas)
              (sym k.areas) o.sequencer.are_there);
          base = o.sequencer.base;
          is_list = subst (λ (x : Activity). x.areas ≡ opened_by x.frames ++ o.sequencer.base)
              (sym k.activity) o.sequencer.is_list;
        };
        nest = record { is = λ p w e. nest_still w (o.nest.is p w (was_started p w e)) };
        opened = record {
          is = λ a e.
              opened_still a
              (o.opened.is a
              (subst (λ (xs : List MemoryArea). is_open_area (record s { areas = xs }) a ≡ true) k.areas e));
        };
      }
