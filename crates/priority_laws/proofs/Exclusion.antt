-- Under the machine's own choice no two jobs hold one object's monitor: the later of two releases has the greater own
-- priority, and the ceiling of what it holds is at least that, but what the earlier one holds has a lower ceiling.
use Rattle.std.proofs.Common.{◌≡◌, ℕ, ◌≤◌, true, false, List, [], ◌∷◌, ◌⊎◌, inl, inr, Option, Some, None, refl, sym, ap, ◌∙◌, arith}
use Rattle.std.specs.Prelude.{slice_get, All, Contains, filter_map, option_map}
use Rattle.std.specs.List.{cons_option}
use Rattle.std.proofs.lemmas.List.Elements.{All-nil, All-cons, All-contains}
use Rattle.scj_rules.specs.Words.{◌>>=◌}
use Rattle.accepted_laws.proofs.Tools.{some_inj}
use Rattle.scj_model.specs.Code.{Code}
use Rattle.scj_model.specs.Plan.{Plan}
use Rattle.scj_model.specs.State.{Object, Frame, Activity, Release, TheSequencer, ReleaseAt, State, activity_in, activity_of, is_exec}
use Rattle.scj_model.specs.Effects.{monitor_of}
use Rattle.scj_model.specs.Choice.{by_priority}
use Rattle.scj_model.specs.Reached.{Moment, Reached}
use Rattle.scj_model.specs.Safety.{held_by, IsHeldBy, Exclusive}
use Rattle.priority_laws.specs.Started.{StartedRelease, started_as, started_in, started_at, own_priority}
use Rattle.priority_laws.specs.Rising.{Rises, Guards, HasCeilingBetween, priority_under}
use Rattle.priority_laws.specs.InOrder.{IsStartedAfter, IsInOrder, MonitorsAreGuarded}
use Rattle.priority_laws.specs.Premises.{EntersItsMonitors}
use Rattle.priority_laws.proofs.AreaLists.{bool_cases, number_cases}
use Rattle.priority_laws.proofs.ChosenTurns.{own_below}
use Rattle.priority_laws.proofs.ReachedOrder.{ordered, guarded}

-- ---- what a release holds has a ceiling between its own and its active priority

module _ (code : Code) (objects : List Object) (own : ℕ) where
  wider : (r low middle high : ℕ) → low ≤ middle → HasCeilingBetween objects r middle high →
      HasCeilingBetween objects r low high
  wider r low middle high l h =
      let x = h.from in record { object = h.object; is_there = h.is_there; from = omega (arith, l, x); upto = h.upto }

  higher : (r low middle high : ℕ) → middle ≤ high → HasCeilingBetween objects r low middle →
      HasCeilingBetween objects r low high
  higher r low middle high l h =
      let x = h.upto in record { object = h.object; is_there = h.is_there; from = h.from; upto = omega (arith, l, x) }

  all_held : (priority : ℕ) (fs : List Frame) → Rises own priority fs → Guards code objects priority fs →
      All (λ r. HasCeilingBetween objects r own priority) (filter_map (monitor_of code) fs)
  all_held priority [] r g = All-nil (λ r. HasCeilingBetween objects r own priority)
  all_held priority (f ∷ fs) r g =
      go (monitor_of code f) refl (raised (all_held (priority_under f priority) fs r.1 g.1))
    where
      raised : All (λ q. HasCeilingBetween objects q own (priority_under f priority))
          (filter_map (monitor_of code) fs) → All (λ q. HasCeilingBetween objects q own priority)
          (filter_map (monitor_of code) fs)
      raised h k d l = higher _ own (priority_under f priority) priority r.0 (h k d l)

      go : (o : Option ℕ) → monitor_of code f ≡ o → All (λ q. HasCeilingBetween objects q own priority)
          (filter_map (monitor_of code) fs) → All (λ q. HasCeilingBetween objects q own priority)
          (cons_option o (filter_map (monitor_of code) fs))
      go None e h = h
      go (Some q) e h =
          All-cons (λ q. HasCeilingBetween objects q own priority) q (filter_map (monitor_of code) fs)
          (wider q own (priority_under f priority) priority (own_below own (priority_under f priority) fs r.1)
          (g.0 q e)) h

-- ---- two jobs

record IsOfRelease (s : State) (p : ℕ) (a : Activity) : Type 0 where
  handler : ℕ
  is_there : started_at s.releases p ≡ Some (started_as handler a)

of_release : (s : State) (p : ℕ) (a : Activity) → activity_of s (ReleaseAt p) ≡ Some a → IsOfRelease s p a
unfolding activity_of started_at started_in
of_release s p a e = go (slice_get s.releases p) refl
  where
    go : (o : Option Release) → slice_get s.releases p ≡ o → IsOfRelease s p a
    go None f = absurd (cc (e, f))
    go (Some r) f =
        record {
          handler = r.handler;
          is_there = ap (λ (o : Option Release). o >>= started_in) f
              ∙ ap (λ (o : Option Activity). option_map (started_as r.handler) o)
              (sym (ap (λ (o : Option Release). o >>= (λ r. activity_in r.status)) f) ∙ e);
        }

module _ (code : Code) (s : State) (o : IsInOrder s) (g : MonitorsAreGuarded code s) where
  holds_between : (p : ℕ) (w : StartedRelease) → started_at s.releases p ≡ Some w → (r : ℕ) →
      Contains (held_by code w.activity) r → HasCeilingBetween s.objects r (own_priority s w) w.activity.priority
  holds_between p w e r h =
      All-contains (λ q. HasCeilingBetween s.objects q (own_priority s w) w.activity.priority)
      (held_by code w.activity) r
      (all_held code s.objects (own_priority s w) w.activity.priority w.activity.frames (o.rise.is p w e) (g.is p w e))
      h

  -- the earlier of two holds nothing that the later holds
  never_both : (w v : StartedRelease) (r : ℕ) → IsStartedAfter s w v →
      HasCeilingBetween s.objects r (own_priority s w) w.activity.priority →
      HasCeilingBetween s.objects r (own_priority s v) v.activity.priority → ⊥
  never_both w v r a x y =
      let same : x.object.ceiling ≡ y.object.ceiling =
      ap (λ (q : Object). q.ceiling) (some_inj x.object y.object (sym x.is_there ∙ y.is_there)) in
      let l = x.upto in
      let m = y.from in
      let n = a.is_above in omega (arith, same, l, m, n)

  two_releases : (p q r : ℕ) → IsHeldBy code s (ReleaseAt p) r → IsHeldBy code s (ReleaseAt q) r →
      (p ≡ q) ⊎ (p ≡ q → ⊥) → ReleaseAt p ≡ ReleaseAt q
  two_releases p q r h k (inl e) = ap ReleaseAt e
  two_releases p q r h k (inr n) =
      let x : IsOfRelease s p h.0 = of_release s p h.0 h.1 in
      let y : IsOfRelease s q k.0 = of_release s q k.0 k.1 in
      go x y (o.started.is p q (started_as x.handler h.0) (started_as y.handler k.0) n x.is_there y.is_there)
    where
      go : (x : IsOfRelease s p h.0) (y : IsOfRelease s q k.0) →
          IsStartedAfter s (started_as x.handler h.0) (started_as y.handler k.0) ⊎ IsStartedAfter s
          (started_as y.handler k.0) (started_as x.handler h.0) → ReleaseAt p ≡ ReleaseAt q
      go x y (inl a) =
          absurd
          (never_both (started_as x.handler h.0) (started_as y.handler k.0) r a
          (holds_between p (started_as x.handler h.0) x.is_there r h.2)
          (holds_between q (started_as y.handler k.0) y.is_there r k.2))
      go x y (inr a) =
          absurd
          (never_both (started_as y.handler k.0) (started_as x.handler h.0) r a
          (holds_between q (started_as y.handler k.0) y.is_there r k.2)
          (holds_between p (started_as x.handler h.0) x.is_there r h.2))

  -- the sequencer holds nothing while a release is started
  not_beside : (p r : ℕ) → IsHeldBy code s TheSequencer r → IsHeldBy code s (ReleaseAt p) r → ⊥
  unfolding activity_of
  not_beside p r h k = go (bool_cases (is_exec s.phase))
    where
      empty : (a : Activity) → s.activity ≡ a → s.activity.frames ≡ [] → Contains (held_by code a) r → ⊥
      empty a e f c =
          nothing (held_by code a) (ap (λ (x : Activity). held_by code x) (sym e)
          ∙ ap (λ fs. filter_map (monitor_of code) fs) f) c
        where
          nothing : (xs : List ℕ) → xs ≡ [] → Contains xs r → ⊥
          nothing [] e c = omega (arith, c.1)
          nothing (x ∷ xs) e c = cc (e)

      go : (is_exec s.phase ≡ true) ⊎ (is_exec s.phase ≡ false) → ⊥
      go (inl e) = empty h.0 (some_inj s.activity h.0 h.1) (o.turns.inside e) h.2
      go (inr e) = let x : IsOfRelease s p k.0 = of_release s p k.0 k.1 in cc (x.is_there, o.turns.outside e p)

  exclusive : Exclusive code s
  exclusive TheSequencer TheSequencer r h k = refl
  exclusive TheSequencer (ReleaseAt q) r h k = absurd (not_beside q r h k)
  exclusive (ReleaseAt p) TheSequencer r h k = absurd (not_beside p r k h)
  exclusive (ReleaseAt p) (ReleaseAt q) r h k = two_releases p q r h k (number_cases p q)

pub excludes : (code : Code) (plan : Plan) → EntersItsMonitors code → (moment : Moment) (s : State) →
    Reached code plan by_priority moment s → Exclusive code s
excludes code plan m moment s h = exclusive code s (ordered code plan h).order (guarded code plan m h)

pub between : (code : Code) (plan : Plan) → EntersItsMonitors code → {moment : Moment} {s : State} →
    Reached code plan by_priority moment s → (p : ℕ) (w : StartedRelease) → started_at s.releases p ≡ Some w → (r : ℕ) →
    Contains (held_by code w.activity) r → HasCeilingBetween s.objects r (own_priority s w) w.activity.priority
between code plan m {s = s} h p w e r held =
    holds_between code s (ordered code plan h).order (guarded code plan m h) p w e r held
