-- What an operation of the sequencer outside execution does to the order: no release is started, and its areas change
-- at the front of its list.
use Rattle.std.proofs.Common.{◌≡◌, ℕ, ◌<◌, ◌≤◌, true, false, List, [], ◌∷◌, ◌++◌, length, ◌⊎◌, inl, inr, Option, Some, None, refl, sym, ap, ◌∙◌, subst, arith}
use Rattle.std.specs.Prelude.{option_to_list}
use Rattle.scj_base.specs.declared.values.Value.{Value}
use Rattle.scj_rules.specs.Words.{is_among}
use Rattle.scj_model.specs.Code.{Code}
use Rattle.scj_model.specs.State.{Frame, Activity, TheSequencer, State, with_activity, is_exec, is_open_area}
use Rattle.scj_model.specs.Memory.{closed}
use Rattle.scj_model.specs.Apply.{without}
use Rattle.scj_model.specs.Safety.{Lifo}
use Rattle.priority_laws.specs.Started.{StartedRelease, started_at}
use Rattle.priority_laws.specs.Nesting.{opened_by, Falls, NestsForSequencer, IsOpenedByRelease}
use Rattle.priority_laws.specs.InOrder.{IsInOrder}
use Rattle.priority_laws.proofs.AreaLists.{bool_cases, without_first, shut}
use Rattle.priority_laws.proofs.AreaMoves.{AreasMove, areas_stay, area_closed}
use Rattle.priority_laws.proofs.Still.{IsStill}
use Rattle.priority_laws.proofs.Executions.{IsKept}

pub record SequencerMoves (s t : State) : Type 0 where
  pub none : (q : ℕ) → started_at t.releases q ≡ None
  pub inside : is_exec t.phase ≡ true → (t.activity.frames ≡ []) × (t.outcome ≡ None)
  pub done : (v : Value) → t.outcome ≡ Some v → t.activity.frames ≡ []
  pub areas : AreasMove s.areas t.areas s.activity.areas t.activity.areas
  pub base : List ℕ
  pub is_list : t.activity.areas ≡ opened_by t.activity.frames ++ base

pub sequencer_still : (s t u : State) → SequencerMoves s t → IsStill t u → SequencerMoves s u
sequencer_still s t u m k =
    record {
      none = λ q. k.started q ∙ m.none q;
      inside = λ e.
          let h = m.inside (sym (ap is_exec k.phase) ∙ e) in
          (ap (λ (x : Activity). x.frames) k.activity ∙ h.0, k.outcome ∙ h.1);
      done = λ v e. ap (λ (x : Activity). x.frames) k.activity ∙ m.done v (sym k.outcome ∙ e);
      areas = subst (λ (x : Activity). AreasMove s.areas u.areas s.activity.areas x.areas) (sym k.activity)
          (subst (λ areas. AreasMove s.areas areas s.activity.areas t.activity.areas) (sym k.areas) m.areas);
      base = m.base;
      is_list = subst (λ (x : Activity). x.areas ≡ opened_by x.frames ++ m.base) (sym k.activity) m.is_list;
    }

-- ---- the order is kept

module _ (code : Code) (s t : State) (o : IsInOrder s) (before : (q : ℕ) → started_at s.releases q ≡ None)
    (m : SequencerMoves s t) where
  never : {A : Type 0} → (q : ℕ) (w : StartedRelease) → started_at t.releases q ≡ Some w → A
  never q w e = absurd (cc (e, m.none q))

  -- before it, what was open stood on the sequencer's list
  was_own : (a : ℕ) → is_open_area s a ≡ true → is_among a s.activity.areas ≡ true
  was_own a h = go (o.opened.is a h)
    where
      go : (is_among a s.activity.areas ≡ true) ⊎ IsOpenedByRelease s a → is_among a s.activity.areas ≡ true
      go (inl x) = x
      go (inr x) = absurd (cc (x.is_there, before x.index))

  is_own : (a : ℕ) → is_open_area t a ≡ true → is_among a t.activity.areas ≡ true
  is_own a h = go (m.areas.stays a h)
    where
      go : (is_among a t.activity.areas ≡ true) ⊎
          ((is_open_area s a ≡ true) × (is_among a s.activity.areas ≡ true → ⊥)) → is_among a t.activity.areas ≡ true
      go (inl x) = x
      go (inr x) = absurd (x.1 (was_own a x.0))

  sequencer_order : IsInOrder t
  sequencer_order =
      record {
        turns =
            record {
              outside = λ e q. m.none q;
              inside = λ e. (m.inside e).0;
              waits = λ e.
                  (m.inside e).1;
              done = m.done;
            };
        started = record { is = λ p q w v n e f. never p w e };
        rise = record { is = λ p w e. never p w e };
        rows = record { is = λ p w e. never p w e };
        sequencer = record {
          falls = m.areas.falls o.sequencer.are_there o.sequencer.falls;
          are_there = λ a h. there a (m.areas.news a h);
          base = m.base;
          is_list = m.is_list;
        };
        nest = record { is = λ p w e. never p w e };
        opened = record { is = λ a h. inl (is_own a h) };
      }
    where
      there : (a : ℕ) → (is_among a s.activity.areas ≡ true) ⊎ ((length s.areas ≤ a) × (a < length t.areas)) →
          a < length t.areas
      there a (inl h) = let x : a < length s.areas = o.sequencer.are_there a h in omega (arith, x, m.areas.grows)
      there a (inr h) = h.1

  sequencer_lifo : Lifo s t
  sequencer_lifo a b h c x = go (bool_cases (is_open_area t b))
    where
      go : (is_open_area t b ≡ true) ⊎ (is_open_area t b ≡ false) → is_open_area t b ≡ false
      go (inl k) = let y : b < a = m.areas.last o.sequencer.falls a b h c (is_own b k) in absurd (omega (arith, x, y))
      go (inr k) = k

  pub sequencer_kept : (condition : Type 0) → IsKept code condition s t
  sequencer_kept condition =
      record {
        order = sequencer_order;
        lifo = sequencer_lifo;
        guarded = λ c h. record { is = λ p w e. never p w e };
        bounded = λ c h. record { is = λ p w e. never p w e };
      }

-- ---- ways to make one

module _ (s : State) (none : (q : ℕ) → started_at s.releases q ≡ None) (quiet : is_exec s.phase ≡ false)
    (idle : s.outcome ≡ None) where
  -- it goes on with other frames and areas
  pub goes_with : (u : State) → u.releases ≡ s.releases → u.phase ≡ s.phase → u.outcome ≡ s.outcome →
      (after : Activity) → AreasMove s.areas u.areas s.activity.areas after.areas → (base : List ℕ) →
      after.areas ≡ opened_by after.frames ++ base → SequencerMoves s (with_activity u TheSequencer after)
  unfolding with_activity
  goes_with u releases phase outcome after areas base is_list =
      record {
        none = λ q. ap (λ rs. started_at rs q) releases ∙ none q;
        inside = λ e. absurd (cc (e, phase, quiet));
        done = λ v e. absurd (cc (e, outcome, idle));
        areas = areas;
        base = base;
        is_list = is_list;
      }

  -- its last frame has left
  pub comes_to_end : (u : State) → u.releases ≡ s.releases → u.phase ≡ s.phase →
      (after : Activity) (outcome : Option Value) → after.frames ≡ [] →
      AreasMove s.areas u.areas s.activity.areas after.areas →
      SequencerMoves s (record u { activity = after; outcome = outcome })
  comes_to_end u releases phase after outcome frames areas =
      record {
        none = λ q. ap (λ rs. started_at rs q) releases ∙ none q;
        inside = λ e. absurd (cc (e, phase, quiet));
        done = λ v e. frames;
        areas = areas;
        base = after.areas;
        is_list = ap (λ fs. opened_by fs ++ after.areas) (sym frames);
      }

-- ---- what the frame that leaves had opened is closed

module _ (s : State) (n : NestsForSequencer s) (h : Frame) (below : List Frame)
    (same : opened_by s.activity.frames ≡ opened_by (h ∷ below)) where
  is_front : s.activity.areas ≡ option_to_list h.opened ++ (opened_by below ++ n.base)
  is_front = n.is_list ∙ (ap (λ xs. xs ++ n.base) same ∙ joined h.opened)
    where
      joined : (o : Option ℕ) → (option_to_list o ++ opened_by below) ++ n.base ≡ option_to_list o
          ++ (opened_by below ++ n.base)
      joined None = refl
      joined (Some a) = refl

  rest_is : (o : Option ℕ) → s.activity.areas ≡ option_to_list o ++ (opened_by below ++ n.base) →
      without o s.activity.areas ≡ opened_by below ++ n.base
  rest_is None e = e
  rest_is (Some a) e =
      ap (λ xs. without (Some a) xs) e
      ∙ without_first a (opened_by below ++ n.base) (subst (λ xs. Falls xs) e n.falls).0

  rest_move : (o : Option ℕ) → s.activity.areas ≡ option_to_list o ++ (opened_by below ++ n.base) →
      AreasMove s.areas (closed s o).areas s.activity.areas (opened_by below ++ n.base)
  unfolding closed
  rest_move None e = subst (λ xs. AreasMove s.areas s.areas xs (opened_by below ++ n.base)) (sym e)
      (areas_stay s.areas _)
  rest_move (Some a) e =
      subst (λ xs. AreasMove s.areas (shut a s.areas) xs (opened_by below ++ n.base)) (sym e) (area_closed s.areas a _)

  pub rest_left : without h.opened s.activity.areas ≡ opened_by below ++ n.base
  rest_left = rest_is h.opened is_front

  pub front_closed : AreasMove s.areas (closed s h.opened).areas s.activity.areas (without h.opened s.activity.areas)
  front_closed = subst (λ xs. AreasMove s.areas (closed s h.opened).areas s.activity.areas xs) (sym rest_left)
      (rest_move h.opened is_front)
