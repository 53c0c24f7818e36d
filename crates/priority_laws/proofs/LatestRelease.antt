-- The order is kept when the release that was started last acts, and what it closes was opened last.
use Rattle.std.proofs.Common.{◌≡◌, ℕ, ◌<◌, ◌≤◌, true, false, List, [], ◌++◌, length, ◌⊎◌, inl, inr, Some, sym, ap, ◌∙◌, subst, arith}
use Rattle.std.specs.Prelude.{is_some}
use Rattle.scj_rules.specs.Words.{is_among}
use Rattle.accepted_laws.proofs.Tools.{some_inj}
use Rattle.scj_model.specs.declared.handlers.HandlerRow.{HandlerRow}
use Rattle.scj_model.specs.Code.{Code}
use Rattle.scj_model.specs.State.{Frame, Activity, State, is_exec, is_open_area}
use Rattle.scj_model.specs.Registry.{handler_row}
use Rattle.scj_model.specs.Memory.{highest_priority}
use Rattle.scj_model.specs.Choice.{handler_priority}
use Rattle.scj_model.specs.Safety.{Lifo}
use Rattle.priority_laws.specs.Started.{StartedRelease, started_as, started_at}
use Rattle.priority_laws.specs.Handlers.{ActiveAreAtMostHighest}
use Rattle.priority_laws.specs.Rising.{Rises, Guards}
use Rattle.priority_laws.specs.Nesting.{opened_by, AreBelow, AreBefore, Falls, NestsForRelease, IsOpenedByRelease}
use Rattle.priority_laws.specs.InOrder.{IsStartedAfter, IsInOrder, MonitorsAreGuarded}
use Rattle.priority_laws.proofs.AreaLists.{bool_cases, not_both, number_cases}
use Rattle.priority_laws.proofs.ReleaseMoves.{AreAtMost, guards_kept, GoesOn, Ends, ReleaseMoves}

-- the release at a place, with this priority and these frames, comes after all that are started besides
pub record IsLatest (s : State) (p handler priority : ℕ) (old : List Frame) : Type 0 where
  pub mine : (v : StartedRelease) → started_at s.releases p ≡ Some v → v.activity.frames ≡ old
  pub rise : Rises (handler_priority s handler) priority old
  pub row : is_some (handler_row s.registry handler) ≡ true
  pub falls : Falls (opened_by old)
  pub are_there : AreBelow (length s.areas) (opened_by old)
  pub are_inside : AreBefore s.activity.areas (opened_by old)
  pub is_above : (q : ℕ) (v : StartedRelease) → (p ≡ q → ⊥) → started_at s.releases q ≡ Some v →
      v.activity.priority < handler_priority s handler
  pub areas : (q : ℕ) (v : StartedRelease) → (p ≡ q → ⊥) → started_at s.releases q ≡ Some v →
      AreBefore (opened_by v.activity.frames) (opened_by old)

module _ (code : Code) (condition : Type 0) (s t : State) (p handler priority : ℕ) (old : List Frame) (o : IsInOrder s)
    (exec : is_exec s.phase ≡ true) (l : IsLatest s p handler priority old)
    (m : ReleaseMoves code condition s p handler priority old t) where
  own_kept : (h : ℕ) → handler_priority t h ≡ handler_priority s h
  own_kept h =
      ap (λ (registry : List HandlerRow). handler_priority (record s { registry = registry }) h) m.others.registry

  -- another one was started before
  was_other : (q : ℕ) (v : StartedRelease) → (p ≡ q → ⊥) → started_at t.releases q ≡ Some v →
      started_at s.releases q ≡ Some v
  was_other q v n e = sym (m.others.others q n) ∙ e

  -- ---- the release itself, if it goes on

  module _ (g : GoesOn code condition s t p handler priority old) where
    mine_now : (w : StartedRelease) → started_at t.releases p ≡ Some w → w ≡ started_as handler g.after
    mine_now w e = some_inj w (started_as handler g.after) (sym e ∙ g.is_there)

    new_nest : NestsForRelease t (started_as handler g.after)
    new_nest =
        record {
          falls = g.areas.falls l.are_there l.falls;
          are_there = λ a h. there a (g.areas.news a h);
          are_inside = λ a b h k. inside a b (subst (λ (x : Activity). is_among a x.areas ≡ true) m.others.activity h)
              (g.areas.news b k);
        }
      where
        there : (a : ℕ) → (is_among a (opened_by old) ≡ true) ⊎ ((length s.areas ≤ a) × (a < length t.areas)) →
            a < length t.areas
        there a (inl h) = let x : a < length s.areas = l.are_there a h in omega (arith, x, g.areas.grows)
        there a (inr h) = h.1

        inside : (a b : ℕ) → is_among a s.activity.areas ≡ true →
            (is_among b (opened_by old) ≡ true) ⊎ ((length s.areas ≤ b) × (b < length t.areas)) → a < b
        inside a b h (inl k) = l.are_inside a b h k
        inside a b h (inr k) = let x : a < length s.areas = o.sequencer.are_there a h in let y =
            k.0 in omega (arith, x, y)

    new_after : (q : ℕ) (v : StartedRelease) → (p ≡ q → ⊥) → started_at s.releases q ≡ Some v →
        IsStartedAfter t v (started_as handler g.after)
    new_after q v n e =
        record {
          is_above = subst (λ k. v.activity.priority < k) (sym (own_kept handler)) (l.is_above q v n e);
          areas = λ a b h k. before a b h (g.areas.news b k);
        }
      where
        before : (a b : ℕ) → is_among a (opened_by v.activity.frames) ≡ true →
            (is_among b (opened_by old) ≡ true) ⊎ ((length s.areas ≤ b) × (b < length t.areas)) → a < b
        before a b h (inl k) = l.areas q v n e a b h k
        before a b h (inr k) = let x : a < length s.areas = (o.nest.is q v e).are_there a h in let y =
            k.0 in omega (arith, x, y)

  -- ---- the others

  other_nest : (q : ℕ) (v : StartedRelease) → started_at s.releases q ≡ Some v → length s.areas ≤ length t.areas →
      NestsForRelease t v
  other_nest q v e grows =
      record {
        falls = (o.nest.is q v e).falls;
        are_there = λ a h. let x : a < length s.areas = (o.nest.is q v e).are_there a h in omega (arith, x, grows);
        are_inside = subst (λ (x : Activity). AreBefore x.areas (opened_by v.activity.frames)) (sym m.others.activity)
            (o.nest.is q v e).are_inside;
      }

  other_after : (w v : StartedRelease) → IsStartedAfter s w v → IsStartedAfter t w v
  other_after w v h =
      record { is_above = subst (λ k. w.activity.priority < k) (sym (own_kept v.handler)) h.is_above; areas = h.areas }

  -- ---- by whether it goes on

  gone : {A : Type 0} → Ends s t p old → (w : StartedRelease) → started_at t.releases p ≡ Some w → A
  gone e w f = absurd (cc (f, e.is_gone))

  grows : length s.areas ≤ length t.areas
  grows = go m.own
    where
      go : GoesOn code condition s t p handler priority old ⊎ Ends s t p old → length s.areas ≤ length t.areas
      go (inl g) = g.areas.grows
      go (inr e) = e.areas.grows

  in_turn : (q r : ℕ) (w v : StartedRelease) → (q ≡ r → ⊥) → started_at t.releases q ≡ Some w →
      started_at t.releases r ≡ Some v → (p ≡ q) ⊎ (p ≡ q → ⊥) → (p ≡ r) ⊎ (p ≡ r → ⊥) →
      GoesOn code condition s t p handler priority old ⊎ Ends s t p old → IsStartedAfter t w v ⊎ IsStartedAfter t v w
  in_turn q r w v n e f (inl a) (inl b) own = absurd (n (sym a ∙ b))
  in_turn q r w v n e f (inl a) (inr b) (inl g) =
      inr (subst (λ x. IsStartedAfter t v x) (sym (mine_now g w (ap (started_at t.releases) a ∙ e)))
      (new_after g r v b (was_other r v b f)))
  in_turn q r w v n e f (inl a) (inr b) (inr d) = gone d w (ap (started_at t.releases) a ∙ e)
  in_turn q r w v n e f (inr a) (inl b) (inl g) =
      inl (subst (λ x. IsStartedAfter t w x) (sym (mine_now g v (ap (started_at t.releases) b ∙ f)))
      (new_after g q w a (was_other q w a e)))
  in_turn q r w v n e f (inr a) (inl b) (inr d) = gone d v (ap (started_at t.releases) b ∙ f)
  in_turn q r w v n e f (inr a) (inr b) own = go (o.started.is q r w v n (was_other q w a e) (was_other r v b f))
    where
      go : IsStartedAfter s w v ⊎ IsStartedAfter s v w → IsStartedAfter t w v ⊎ IsStartedAfter t v w
      go (inl h) = inl (other_after w v h)
      go (inr h) = inr (other_after v w h)

  rise_now : (q : ℕ) (w : StartedRelease) → started_at t.releases q ≡ Some w → (p ≡ q) ⊎ (p ≡ q → ⊥) →
      GoesOn code condition s t p handler priority old ⊎ Ends s t p old →
      Rises (handler_priority t w.handler) w.activity.priority w.activity.frames
  rise_now q w e (inl a) (inl g) =
      subst (λ (x : StartedRelease). Rises (handler_priority t x.handler) x.activity.priority x.activity.frames)
      (sym (mine_now g w (ap (started_at t.releases) a ∙ e)))
      (subst (λ k. Rises k g.after.priority g.after.frames) (sym (own_kept handler))
      (g.rises (handler_priority s handler) l.rise))
  rise_now q w e (inl a) (inr d) = gone d w (ap (started_at t.releases) a ∙ e)
  rise_now q w e (inr a) own =
      subst (λ k. Rises k w.activity.priority w.activity.frames) (sym (own_kept w.handler))
      (o.rise.is q w (was_other q w a e))

  row_now : (q : ℕ) (w : StartedRelease) → started_at t.releases q ≡ Some w → (p ≡ q) ⊎ (p ≡ q → ⊥) →
      GoesOn code condition s t p handler priority old ⊎ Ends s t p old →
      is_some (handler_row t.registry w.handler) ≡ true
  row_now q w e (inl a) (inl g) =
      subst (λ (x : StartedRelease). is_some (handler_row t.registry x.handler) ≡ true)
      (sym (mine_now g w (ap (started_at t.releases) a ∙ e)))
      (subst (λ xs. is_some (handler_row xs handler) ≡ true) (sym m.others.registry) l.row)
  row_now q w e (inl a) (inr d) = gone d w (ap (started_at t.releases) a ∙ e)
  row_now q w e (inr a) own =
      subst (λ xs. is_some (handler_row xs w.handler) ≡ true) (sym m.others.registry)
      (o.rows.is q w (was_other q w a e))

  nest_now : (q : ℕ) (w : StartedRelease) → started_at t.releases q ≡ Some w → (p ≡ q) ⊎ (p ≡ q → ⊥) →
      GoesOn code condition s t p handler priority old ⊎ Ends s t p old → NestsForRelease t w
  nest_now q w e (inl a) (inl g) =
      subst (λ x. NestsForRelease t x) (sym (mine_now g w (ap (started_at t.releases) a ∙ e))) (new_nest g)
  nest_now q w e (inl a) (inr d) = gone d w (ap (started_at t.releases) a ∙ e)
  nest_now q w e (inr a) own = other_nest q w (was_other q w a e) grows

  -- what was open before and isn't the release's is on a list as it was
  still_opened : (a : ℕ) → is_open_area s a ≡ true → (is_among a (opened_by old) ≡ true → ⊥) →
      (is_among a t.activity.areas ≡ true) ⊎ IsOpenedByRelease t a
  still_opened a h n = go (o.opened.is a h)
    where
      place : (k : IsOpenedByRelease s a) → (p ≡ k.index) ⊎ (p ≡ k.index → ⊥) → IsOpenedByRelease t a
      place k (inl e) =
          absurd
          (n
          (subst (λ fs. is_among a (opened_by fs) ≡ true)
          (l.mine k.release (ap (started_at s.releases) e ∙ k.is_there)) k.is_opened))
      place k (inr d) =
          record {
            index = k.index;
            release = k.release;
            is_there = m.others.others k.index d ∙ k.is_there;
            is_opened = k.is_opened;
          }

      go : (is_among a s.activity.areas ≡ true) ⊎ IsOpenedByRelease s a →
          (is_among a t.activity.areas ≡ true) ⊎ IsOpenedByRelease t a
      go (inl k) = inl (ap (λ (x : Activity). is_among a x.areas) m.others.activity ∙ k)
      go (inr k) = inr (place k (number_cases p k.index))

  opened_now : (a : ℕ) → is_open_area t a ≡ true → GoesOn code condition s t p handler priority old ⊎ Ends s t p old →
      (is_among a t.activity.areas ≡ true) ⊎ IsOpenedByRelease t a
  opened_now a h (inl g) = go (g.areas.stays a h)
    where
      go : (is_among a (opened_by g.after.frames) ≡ true) ⊎
          ((is_open_area s a ≡ true) × (is_among a (opened_by old) ≡ true → ⊥)) →
          (is_among a t.activity.areas ≡ true) ⊎ IsOpenedByRelease t a
      go (inl k) =
          inr (record { index = p; release = started_as handler g.after; is_there = g.is_there; is_opened = k })
      go (inr k) = still_opened a k.0 k.1
  opened_now a h (inr e) = go (e.areas.stays a h)
    where
      go : (is_among a [] ≡ true) ⊎ ((is_open_area s a ≡ true) × (is_among a (opened_by old) ≡ true → ⊥)) →
          (is_among a t.activity.areas ≡ true) ⊎ IsOpenedByRelease t a
      go (inl k) = absurd (cc (k))
      go (inr k) = still_opened a k.0 k.1

  pub order_kept : IsInOrder t
  order_kept =
      record {
        turns = record {
          outside = λ e. not_both (is_exec t.phase) (ap is_exec m.others.phase ∙ exec) e;
          inside = λ e. ap (λ (x : Activity). x.frames) m.others.activity ∙ o.turns.inside exec;
          waits = λ e. m.others.outcome ∙ o.turns.waits exec;
          done = λ v e. ap (λ (x : Activity). x.frames) m.others.activity ∙ o.turns.inside exec;
        };
        started = record { is = λ q r w v n e f. in_turn q r w v n e f (number_cases p q) (number_cases p r) m.own };
        rise = record { is = λ q w e. rise_now q w e (number_cases p q) m.own };
        rows = record { is = λ q w e. row_now q w e (number_cases p q) m.own };
        sequencer = record {
          falls = subst (λ (x : Activity). Falls x.areas) (sym m.others.activity) o.sequencer.falls;
          are_there = subst (λ (x : Activity). AreBelow (length t.areas) x.areas) (sym m.others.activity)
              (λ a h. let x : a < length s.areas = o.sequencer.are_there a h in
              let y : length s.areas ≤ length t.areas = grows in omega (arith, x, y));
          base = o.sequencer.base;
          is_list = subst (λ (x : Activity). x.areas ≡ opened_by x.frames ++ o.sequencer.base)
              (sym m.others.activity) o.sequencer.is_list;
        };
        nest = record { is = λ q w e. nest_now q w e (number_cases p q) m.own };
        opened = record { is = λ a e. opened_now a e m.own };
      }

  -- ---- what it closes was opened last

  earlier_open : (a b : ℕ) → is_among a (opened_by old) ≡ true → is_open_area s b ≡ true →
      (is_among b (opened_by old) ≡ true → ⊥) → b < a
  earlier_open a b h k n = go (o.opened.is b k)
    where
      place : (x : IsOpenedByRelease s b) → (p ≡ x.index) ⊎ (p ≡ x.index → ⊥) → b < a
      place x (inl e) =
          absurd
          (n
          (subst (λ fs. is_among b (opened_by fs) ≡ true)
          (l.mine x.release (ap (started_at s.releases) e ∙ x.is_there)) x.is_opened))
      place x (inr d) = l.areas x.index x.release d x.is_there b a x.is_opened h

      go : (is_among b s.activity.areas ≡ true) ⊎ IsOpenedByRelease s b → b < a
      go (inl x) = l.are_inside b a x h
      go (inr x) = place x (number_cases p x.index)

  closed_last : (a b : ℕ) → is_open_area s a ≡ true → is_open_area t a ≡ false → is_open_area t b ≡ true →
      GoesOn code condition s t p handler priority old ⊎ Ends s t p old → b < a
  closed_last a b h c k (inl g) = go (g.areas.stays b k)
    where
      go : (is_among b (opened_by g.after.frames) ≡ true) ⊎
          ((is_open_area s b ≡ true) × (is_among b (opened_by old) ≡ true → ⊥)) → b < a
      go (inl x) = g.areas.last l.falls a b h c x
      go (inr x) = earlier_open a b (g.areas.closes a h c) x.0 x.1
  closed_last a b h c k (inr e) = go (e.areas.stays b k)
    where
      go : (is_among b [] ≡ true) ⊎ ((is_open_area s b ≡ true) × (is_among b (opened_by old) ≡ true → ⊥)) → b < a
      go (inl x) = absurd (cc (x))
      go (inr x) = earlier_open a b (e.areas.closes a h c) x.0 x.1

  pub lifo_kept : Lifo s t
  lifo_kept a b h c x = go (bool_cases (is_open_area t b))
    where
      go : (is_open_area t b ≡ true) ⊎ (is_open_area t b ≡ false) → is_open_area t b ≡ false
      go (inl k) = let y : b < a = closed_last a b h c k m.own in absurd (omega (arith, x, y))
      go (inr k) = k

  -- ---- its active priority stays low

  pub bounded_kept : AreAtMost highest_priority s.objects → priority ≤ highest_priority → ActiveAreAtMostHighest s →
      ActiveAreAtMostHighest t
  bounded_kept c low h = record { is = λ q w e. go q w e (number_cases p q) m.own }
    where
      go : (q : ℕ) (w : StartedRelease) → started_at t.releases q ≡ Some w → (p ≡ q) ⊎ (p ≡ q → ⊥) →
          GoesOn code condition s t p handler priority old ⊎ Ends s t p old → w.activity.priority ≤ highest_priority
      go q w e (inl a) (inl g) =
          subst (λ (y : StartedRelease). y.activity.priority ≤ highest_priority)
          (sym (mine_now g w (ap (started_at t.releases) a ∙ e)))
          (g.bounded highest_priority c (handler_priority s handler) l.rise low)
      go q w e (inl a) (inr d) = gone d w (ap (started_at t.releases) a ∙ e)
      go q w e (inr a) own = h.is q w (was_other q w a e)

  -- ---- its monitors stay guarded

  pub guarded_kept : condition → Guards code s.objects priority old → MonitorsAreGuarded code s →
      MonitorsAreGuarded code t
  guarded_kept c x h = record { is = λ q w e. go q w e (number_cases p q) m.own }
    where
      go : (q : ℕ) (w : StartedRelease) → started_at t.releases q ≡ Some w → (p ≡ q) ⊎ (p ≡ q → ⊥) →
          GoesOn code condition s t p handler priority old ⊎ Ends s t p old →
          Guards code t.objects w.activity.priority w.activity.frames
      go q w e (inl a) (inl g) =
          subst (λ (y : StartedRelease). Guards code t.objects y.activity.priority y.activity.frames)
          (sym (mine_now g w (ap (started_at t.releases) a ∙ e))) (g.guards c x)
      go q w e (inl a) (inr d) = gone d w (ap (started_at t.releases) a ∙ e)
      go q w e (inr a) own = guards_kept code s.objects t.objects m.others.objects w.activity.priority w.activity.frames
          (h.is q w (was_other q w a e))
