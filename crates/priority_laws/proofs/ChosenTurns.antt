-- In execution the chosen release comes after all that are started besides, so that the order is kept.
use Rattle.std.proofs.Common.{◌≡◌, ℕ, ◌<◌, ◌≤◌, true, false, List, [], ◌∷◌, ◌⊎◌, inl, inr, Option, Some, None, refl, sym, ap, ◌∙◌, subst, arith}
use Rattle.std.specs.Prelude.{slice_get, option_map}
use Rattle.std.specs.Prelude.{is_some}
use Rattle.scj_rules.specs.Words.{◌>>=◌}
use Rattle.accepted_laws.proofs.Tools.{some_inj}
use Rattle.scj_model.specs.declared.handlers.HandlerRow.{HandlerRow}
use Rattle.scj_model.specs.State.{Frame, Activity, ReleaseStatus, Waits, Started, Ended, Dropped, Release, State, activity_in}
use Rattle.scj_model.specs.Registry.{handler_row}
use Rattle.scj_model.specs.Choice.{Candidate, candidate, handler_priority}
use Rattle.priority_laws.specs.Started.{StartedRelease, started_as, started_in, started_at, own_priority}
use Rattle.priority_laws.specs.Rising.{Rises, priority_under}
use Rattle.priority_laws.specs.InOrder.{IsStartedAfter, IsInOrder}
use Rattle.priority_laws.proofs.LatestRelease.{IsLatest}
use Rattle.priority_laws.proofs.Urgency.{IsAtMost, IsChosen}

-- the own priority is at most the active one
pub own_below : (own priority : ℕ) (fs : List Frame) → Rises own priority fs → own ≤ priority
own_below own priority [] r = omega (arith, r)
own_below own priority (f ∷ fs) r =
    let x : own ≤ priority_under f priority = own_below own (priority_under f priority) fs r.1 in
    let y = r.0 in omega (arith, x, y)

-- ---- a started release is a candidate

abbrev started_candidate : ℕ → ℕ → Candidate
started_candidate q priority = record { index = q; priority = priority; is_started = true }

abbrev waiting_candidate : ℕ → ℕ → Candidate
waiting_candidate q priority = record { index = q; priority = priority; is_started = false }

candidate_started : (s : State) (q : ℕ) (r : Release) (a : Activity) → r.status ≡ Started a →
    candidate s q r ≡ Some (started_candidate q a.priority)
unfolding candidate
candidate_started s q r a e =
    ap (λ (status : ReleaseStatus). elim status as (λ z. Option Candidate) [
      | Waits ↦ Some (waiting_candidate q (handler_priority s r.handler))
      | Started activity ↦ Some (started_candidate q activity.priority)
      | Ended ↦ None
      | Dropped ↦ None
    ]) e

candidate_waits : (s : State) (q : ℕ) (r : Release) → r.status ≡ Waits →
    candidate s q r ≡ Some (waiting_candidate q (handler_priority s r.handler))
unfolding candidate
candidate_waits s q r e =
    ap (λ (status : ReleaseStatus). elim status as (λ z. Option Candidate) [
      | Waits ↦ Some (waiting_candidate q (handler_priority s r.handler))
      | Started activity ↦ Some (started_candidate q activity.priority)
      | Ended ↦ None
      | Dropped ↦ None
    ]) e

-- the release that is started at a place
pub record IsOfStarted (s : State) (q : ℕ) (v : StartedRelease) : Type 0 where
  pub release : Release
  pub is_there : slice_get s.releases q ≡ Some release
  pub is_status : release.status ≡ Started v.activity
  pub same : v ≡ started_as release.handler v.activity

pub of_started : (s : State) (q : ℕ) (v : StartedRelease) → started_at s.releases q ≡ Some v → IsOfStarted s q v
unfolding started_at started_in activity_in
of_started s q v e = go (slice_get s.releases q) refl
  where
    by : (r : Release) → slice_get s.releases q ≡ Some r → (status : ReleaseStatus) → r.status ≡ status →
        option_map (started_as r.handler) (activity_in status) ≡ Some v → IsOfStarted s q v
    by r there Waits f g = absurd (cc (g))
    by r there (Started a) f g =
        let same : started_as r.handler a ≡ v = some_inj (started_as r.handler a) v g in
        let act : a ≡ v.activity = ap (λ (x : StartedRelease). x.activity) same in
        record {
          release = r;
          is_there = there;
          is_status = f ∙ ap (λ (x : Activity). Started x) act;
          same = sym same ∙ ap (started_as r.handler) act;
        }
    by r there Ended f g = absurd (cc (g))
    by r there Dropped f g = absurd (cc (g))

    go : (o : Option Release) → slice_get s.releases q ≡ o → IsOfStarted s q v
    go None f = absurd (cc (e, f))
    go (Some r) f = by r f r.status refl (sym (ap (λ (o : Option Release). o >>= started_in) f) ∙ e)

pub started_from : (s : State) (q : ℕ) (r : Release) (a : Activity) → slice_get s.releases q ≡ Some r →
    r.status ≡ Started a → started_at s.releases q ≡ Some (started_as r.handler a)
unfolding started_at started_in activity_in
started_from s q r a e f =
    ap (λ (o : Option Release). o >>= started_in) e
    ∙ ap (λ (status : ReleaseStatus). option_map (started_as r.handler) (activity_in status)) f

waits_from : (s : State) (q : ℕ) (r : Release) → slice_get s.releases q ≡ Some r → r.status ≡ Waits →
    started_at s.releases q ≡ None
unfolding started_at started_in activity_in
waits_from s q r e f =
    ap (λ (o : Option Release). o >>= started_in) e
    ∙ ap (λ (status : ReleaseStatus). option_map (started_as r.handler) (activity_in status)) f

-- ---- the chosen release is the latest

module _ (s : State) (o : IsInOrder s) (p : ℕ) (k : IsChosen s p) where
  at_most : (q : ℕ) (v : StartedRelease) → started_at s.releases q ≡ Some v →
      IsAtMost (started_candidate q v.activity.priority) k.best
  at_most q v e =
      let f : IsOfStarted s q v = of_started s q v e in
      k.is_best q f.release (started_candidate q v.activity.priority) f.is_there
      (candidate_started s q f.release v.activity f.is_status)

  after_chosen : (a : Activity) → k.release.status ≡ Started a → (q : ℕ) (v : StartedRelease) → (p ≡ q → ⊥) →
      started_at s.releases q ≡ Some v → IsStartedAfter s v (started_as k.release.handler a)
  after_chosen a f q v n e =
      go (o.started.is p q (started_as k.release.handler a) v n (started_from s p k.release a k.is_there f) e)
    where
      best : k.best ≡ started_candidate p a.priority
      best = some_inj k.best (started_candidate p a.priority) (sym k.is_candidate ∙ candidate_started s p k.release a f)

      go : IsStartedAfter s (started_as k.release.handler a) v ⊎ IsStartedAfter s v (started_as k.release.handler a) →
          IsStartedAfter s v (started_as k.release.handler a)
      go (inl h) =
          let x : v.activity.priority ≤ a.priority =
          subst (λ (c : Candidate). v.activity.priority ≤ c.priority) best (at_most q v e).priority in
          let y : own_priority s v ≤ v.activity.priority =
          own_below (own_priority s v) v.activity.priority v.activity.frames (o.rise.is q v e) in
          let z : a.priority < own_priority s v = h.is_above in
          absurd (omega (arith, x, y, z))
      go (inr h) = h

  pub latest_started : (a : Activity) → k.release.status ≡ Started a →
      IsLatest s p k.release.handler a.priority a.frames
  latest_started a f =
      let here : started_at s.releases p ≡ Some (started_as k.release.handler a) =
      started_from s p k.release a k.is_there f in
      record {
        mine =
            λ v e. ap (λ (x : StartedRelease). x.activity.frames)
            (some_inj v (started_as k.release.handler a) (sym e ∙ here));
        rise = o.rise.is p (started_as k.release.handler a) here;
        row = o.rows.is p (started_as k.release.handler a) here;
        falls = (o.nest.is p (started_as k.release.handler a) here).falls;
        are_there = (o.nest.is p (started_as k.release.handler a) here).are_there;
        are_inside = (o.nest.is p (started_as k.release.handler a) here).are_inside;
        is_above = λ q v n e. (after_chosen a f q v n e).is_above;
        areas = λ q v n e. (after_chosen a f q v n e).areas;
      }

  pub latest_waits : (row : HandlerRow) → k.release.status ≡ Waits →
      handler_row s.registry k.release.handler ≡ Some row → IsLatest s p k.release.handler row.priority []
  latest_waits row f is_row =
      record {
        mine = λ v e. absurd (cc (e, waits_from s p k.release k.is_there f));
        rise = ap (λ (o : Option HandlerRow). elim o as (λ z. ℕ) [ None ↦ 0 | Some x ↦ x.priority ]) is_row;
        row = ap (λ (o : Option HandlerRow). is_some o) is_row;
        falls = tt;
        are_there = λ b h. absurd (cc (h));
        are_inside = λ b c h i. absurd (cc (i));
        is_above = λ q v n e. above q v e;
        areas = λ q v n e b c h i. absurd (cc (i));
      }
    where
      best : k.best ≡ waiting_candidate p (handler_priority s k.release.handler)
      best = some_inj k.best (waiting_candidate p (handler_priority s k.release.handler))
          (sym k.is_candidate ∙ candidate_waits s p k.release f)

      above : (q : ℕ) (v : StartedRelease) → started_at s.releases q ≡ Some v →
          v.activity.priority < handler_priority s k.release.handler
      above q v e =
          let m : IsAtMost (started_candidate q v.activity.priority)
          (waiting_candidate p (handler_priority s k.release.handler)) =
          subst (λ c. IsAtMost (started_candidate q v.activity.priority) c) best (at_most q v e) in
          let x = m.priority in
          let y : v.activity.priority ≡ handler_priority s k.release.handler → ⊥ = λ same. cc (m.started same refl) in
          less v.activity.priority (handler_priority s k.release.handler) x y
        where
          less : (a b : ℕ) → a ≤ b → (a ≡ b → ⊥) → a < b
          less a b l n = grind (arith, l, n)
