-- The schedule of a mission keeps what a schedule under Chosen keeps.
use Rattle.std.proofs.Common.{◌≡◌, ℕ, zero, suc, pred, ◌+◌, ◌-◌, ◌≤◌, ◌<◌, Bool, true, false, not, List, [], ◌∷◌, length, ◌⊎◌, inl, inr, Option, Some, None, if◌then◌else◌, refl, sym, ap, ◌∙◌, subst, arith}
use Rattle.std.specs.Prelude.{nat_lt, slice_get, unwrap_or}
use Rattle.std.proofs.lemmas.Bool.{cases_lt}
use Rattle.std.proofs.lemmas.Bool.Decides.{nat_tests}
use Rattle.std.proofs.lemmas.Option.{slice_get_past, slice_get_within}
use Rattle.scj_rules.specs.Words.{◌>>=◌}
use Rattle.scj_model.specs.declared.handlers.HandlerRow.{HandlerRow}
use Rattle.scj_model.specs.Code.{Code}
use Rattle.scj_model.specs.Plan.{Plan}
use Rattle.scj_model.specs.State.{Activity, ReleaseStatus, Waits, Started, Ended, Dropped, Release, State, is_exec}
use Rattle.scj_model.specs.Registry.{handler_row}
use Rattle.scj_model.specs.Choice.{handler_priority, Candidate, candidate, chosen, may_act, by_priority}
use Rattle.scj_model.specs.Run.{has_ended, empty_state, run}
use Rattle.priority_laws.proofs.Still.{still_arrivals}
use Rattle.priority_laws.specs.Started.{started_at, started_as, own_priority}
use Rattle.priority_laws.specs.InOrder.{IsInOrder, IsStartedAfter}
use Rattle.priority_laws.proofs.ChosenTurns.{own_below, started_from}
use Rattle.priority_laws.proofs.Urgency.{IsAtMost, IsChosen, is_chosen}
use Rattle.response_bounds.specs.Sums.{one_if, count_below}
use Rattle.response_bounds.specs.declared.rows.Declared.{Declared}
use Rattle.response_bounds.specs.Rows.{row_at}
use Rattle.response_bounds.specs.Schedule.{Schedule, acts, own, Follows}
use Rattle.release_turns.specs.Choices.{state_after, at_choice, acting}
use Rattle.response_times.specs.Runs.{ready_unit, shifted, row_of_release, mission_schedule, HasRows, IsOfMission}
use Rattle.response_bounds.proofs.SumLemmas.{sum_le}
use Rattle.release_turns.specs.UnitSteps.{Stands, Move, UnitStep}
use Rattle.release_turns.proofs.Turns.{longer}
use Rattle.response_times.proofs.Missions.{IsLeft, is_left, may_from, active_of, one_chosen, acting_chosen, acts_is, acts_from, shifted_at, step_of, count_upto, count_past}

-- the handler's row is the declared one
row_facts : (rows : List Declared) (registry : List HandlerRow) → HasRows rows registry → (handler : ℕ)
    (h : HandlerRow) → handler_row registry handler ≡ Some h →
    (pred handler < length rows) × (h.priority ≡ (row_at rows (pred handler)).priority)
row_facts rows registry has zero h e = absurd (cc (e))
row_facts rows registry has (suc k) h e =
    let a : k < length registry = slice_get_within registry k h e in
    let b : length registry ≤ length rows = has.are_enough in
    (omega (arith, a, b), has.priorities k h e)

priority_is : (s : State) (handler : ℕ) (h : HandlerRow) → handler_row s.registry handler ≡ Some h →
    handler_priority s handler ≡ h.priority
priority_is s handler h e = ap (λ (o : Option HandlerRow). elim o as (λ z. ℕ) [ None ↦ 0 | Some row ↦ row.priority ]) e

-- a candidate waits with its handler's priority, or is started
abbrev pub CandidateCases : State → Release → Candidate → Type 0
CandidateCases s r c =
    ((r.status ≡ Waits) × (c.priority ≡ handler_priority s r.handler))
    ⊎ ((a : Activity) × (r.status ≡ Started a) × (c.priority ≡ a.priority))

pub candidate_cases : (s : State) (q : ℕ) (r : Release) (c : Candidate) → candidate s q r ≡ Some c → CandidateCases s r c
unfolding candidate
candidate_cases s q r c e = go r.status refl
  where
    of : ReleaseStatus → Option Candidate
    of status =
        elim status [
          | Waits ↦ Some (record { index = q; priority = handler_priority s r.handler; is_started = false })
          | Started activity ↦ Some (record { index = q; priority = activity.priority; is_started = true })
          | Ended ↦ None
          | Dropped ↦ None
        ]

    prio : (d : Candidate) → of r.status ≡ Some d → c.priority ≡ d.priority
    prio d f = ap (λ (o : Option Candidate). (unwrap_or o d).priority) (sym e ∙ f)

    go : (status : ReleaseStatus) → r.status ≡ status → ((r.status ≡ Waits) × (c.priority ≡ handler_priority s r.handler))
        ⊎ ((a : Activity) × (r.status ≡ Started a) × (c.priority ≡ a.priority))
    go Waits f = inl (f, prio (record { index = q; priority = handler_priority s r.handler; is_started = false }) (ap of f))
    go (Started a) f = inr (a, f, prio (record { index = q; priority = a.priority; is_started = true }) (ap of f))
    go Ended f = absurd (cc (e, ap of f))
    go Dropped f = absurd (cc (e, ap of f))

-- whoever was dropped or has ended may not act
not_dropped : (s : State) (q : ℕ) (r : Release) → slice_get s.releases q ≡ Some r → r.status ≡ Dropped →
    may_act s q ≡ true → ⊥
not_dropped s q r e f h = go (candidate_cases s q l.release l.candidate_of l.is_candidate)
  where
    l : IsLeft s q
    l = is_left s q h

    same : l.release ≡ r
    same = ap (λ (o : Option Release). unwrap_or o r) (sym l.is_there ∙ e)

    go : ((l.release.status ≡ Waits) × (l.candidate_of.priority ≡ handler_priority s l.release.handler))
        ⊎ ((a : Activity) × (l.release.status ≡ Started a) × (l.candidate_of.priority ≡ a.priority)) → ⊥
    go (inl x) = cc (x.0, f, ap (λ (y : Release). y.status) same)
    go (inr x) = cc (x.1, f, ap (λ (y : Release). y.status) same)

may_waits : (s : State) (q : ℕ) (r : Release) → slice_get s.releases q ≡ Some r → r.status ≡ Waits → may_act s q ≡ true
unfolding candidate
may_waits s q r e f =
    may_from s q r (record { index = q; priority = handler_priority s r.handler; is_started = false }) e
    (ap (λ (status : ReleaseStatus). elim status as (λ z. Option Candidate) [
      | Waits ↦ Some (record { index = q; priority = handler_priority s r.handler; is_started = false })
      | Started activity ↦ Some (record { index = q; priority = activity.priority; is_started = true })
      | Ended ↦ None
      | Dropped ↦ None
    ]) f)

may_started : (s : State) (q : ℕ) (r : Release) (a : Activity) → slice_get s.releases q ≡ Some r → r.status ≡ Started a → may_act s q ≡ true
unfolding candidate
may_started s q r a e f =
    may_from s q r (record { index = q; priority = a.priority; is_started = true }) e
    (ap (λ (status : ReleaseStatus). elim status as (λ z. Option Candidate) [
      | Waits ↦ Some (record { index = q; priority = handler_priority s r.handler; is_started = false })
      | Started activity ↦ Some (record { index = q; priority = activity.priority; is_started = true })
      | Ended ↦ None
      | Dropped ↦ None
    ]) f)

-- who is there and may act after a unit may act before it
pub may_act_before : (s t : State) (q : ℕ) → Move s t.releases → q < length s.releases → may_act t q ≡ true → may_act s q ≡ true
may_act_before s t q move l e = go (slice_get s.releases q) refl
  where
    chosen_may : (x : ℕ) → acting s ≡ Some x → may_act s x ≡ true
    chosen_may x e =
        let k : IsChosen s x = is_chosen s x (acting_chosen s x e) in
        may_from s x k.release k.best k.is_there k.is_candidate

    gone : (rs : List Release) (q : ℕ) → q < length rs → slice_get rs q ≡ None → ⊥
    gone [] q k f = omega (arith, k)
    gone (x ∷ rs) zero k f = cc (f)
    gone (x ∷ rs) (suc q) k f = gone rs q (omega (arith, k)) f

    stand : (r : Release) → slice_get s.releases q ≡ Some r → Stands s q r t.releases → may_act s q ≡ true
    stand r f y = by y.moves
      where
        k : IsLeft t q
        k = is_left t q e

        same : k.release ≡ y.release
        same = ap (λ (o : Option Release). unwrap_or o y.release) (sym k.is_there ∙ y.is_there)

        by : (acting s ≡ Some q) ⊎ ((r.status ≡ y.release.status) ⊎ ((r.status ≡ Waits) × (y.release.status ≡ Dropped))) → may_act s q ≡ true
        by (inl a) = chosen_may q a
        by (inr (inr a)) = absurd (not_dropped t q y.release y.is_there a.1 e)
        by (inr (inl a)) = of (candidate_cases t q k.release k.candidate_of k.is_candidate)
          where
            of : CandidateCases t k.release k.candidate_of → may_act s q ≡ true
            of (inl z) = may_waits s q r f (a ∙ (ap (λ (w : Release). w.status) (sym same) ∙ z.0))
            of (inr z) = may_started s q r z.0 f (a ∙ (ap (λ (w : Release). w.status) (sym same) ∙ z.1))

    go : (o : Option Release) → slice_get s.releases q ≡ o → may_act s q ≡ true
    go (Some r) f = stand r f (move.there q r f)
    go None f = absurd (gone s.releases q l f)

module _ (code : Code) (plan : Plan) (n : ℕ) (rows : List Declared)
    (living : has_ended (run code plan by_priority n) ≡ false)
    (missions : (t : ℕ) → t ≤ n → IsOfMission (at_choice code plan t))
    (order : (t : ℕ) → t ≤ n → IsInOrder (at_choice code plan t))
    (handled : (t : ℕ) → t ≤ n → is_exec (at_choice code plan t).phase ≡ true → HasRows rows (at_choice code plan t).registry) where
  first : ℕ
  first = (at_choice code plan n).earlier_releases

  -- ---- over several units

  longer_since : (d t : ℕ) → t + d ≤ n → length (at_choice code plan t).releases ≤ length (at_choice code plan (t + d)).releases
  longer_since zero t l =
      let same : t + 0 ≡ t = omega arith in
      subst (λ k. length (at_choice code plan t).releases ≤ length (at_choice code plan k).releases) (sym same) (omega arith)
  longer_since (suc d) t l =
      let same : t + suc d ≡ suc (t + d) = omega arith in
      let a : length (at_choice code plan t).releases ≤ length (at_choice code plan (t + d)).releases =
      longer_since d t (omega (arith, l)) in
      let b : length (at_choice code plan (t + d)).releases ≤ length (at_choice code plan (suc (t + d))).releases =
      longer (at_choice code plan (t + d)) (at_choice code plan (suc (t + d))).releases
      (step_of code plan n (t + d) living (omega (arith, l))).move in
      subst (λ k. length (at_choice code plan t).releases ≤ length (at_choice code plan k).releases) (sym same)
      (omega (arith, a, b))

  pub longer_upto : (t u : ℕ) → t ≤ u → u ≤ n → length (at_choice code plan t).releases ≤ length (at_choice code plan u).releases
  longer_upto t u l k =
      let same : t + (u - t) ≡ u = omega (arith, l) in
      subst (λ x. length (at_choice code plan t).releases ≤ length (at_choice code plan x).releases) same
      (longer_since (u - t) t (omega (arith, l, k)))

  -- a unit before is of the mission, or all its releases are of earlier ones
  of_mission : (d t : ℕ) → t + d ≡ n → ((at_choice code plan t).earlier_releases ≡ first)
      ⊎ (length (at_choice code plan t).releases ≤ first)
  unfolding first
  of_mission zero t e =
      let same : t ≡ n = omega (arith, e) in
      inl (ap (λ k. (at_choice code plan k).earlier_releases) same)
  of_mission (suc d) t e =
      go (step_of code plan n t living (omega (arith, e))) (of_mission d (suc t) (omega (arith, e)))
    where
      go : UnitStep (at_choice code plan t) (at_choice code plan (suc t)) →
          ((at_choice code plan (suc t)).earlier_releases ≡ (at_choice code plan n).earlier_releases)
          ⊎ (length (at_choice code plan (suc t)).releases ≤ (at_choice code plan n).earlier_releases) →
          ((at_choice code plan t).earlier_releases ≡ (at_choice code plan n).earlier_releases)
          ⊎ (length (at_choice code plan t).releases ≤ (at_choice code plan n).earlier_releases)
      go u (inr k) =
          let a : length (at_choice code plan t).releases ≤ length (at_choice code plan (suc t)).releases =
          longer (at_choice code plan t) (at_choice code plan (suc t)).releases u.move in
          inr (omega (arith, a, k))
      go u (inl k) = by u.mission
        where
          by : ((at_choice code plan (suc t)).earlier_releases ≡ (at_choice code plan t).earlier_releases)
              ⊎ (length (at_choice code plan t).releases ≤ (at_choice code plan (suc t)).earlier_releases) →
              ((at_choice code plan t).earlier_releases ≡ (at_choice code plan n).earlier_releases)
              ⊎ (length (at_choice code plan t).releases ≤ (at_choice code plan n).earlier_releases)
          by (inl x) = inl (sym x ∙ k)
          by (inr x) = inr (omega (arith, x, k))

  -- the handler of a release stays
  pub handler_since : (d t q : ℕ) (r : Release) → t + d ≡ n → slice_get (at_choice code plan t).releases q ≡ Some r →
      (u : Release) × (slice_get (at_choice code plan n).releases q ≡ Some u) × (u.handler ≡ r.handler)
  handler_since zero t q r e f =
      let same : t ≡ n = omega (arith, e) in
      (r, subst (λ k. slice_get (at_choice code plan k).releases q ≡ Some r) same f, refl)
  handler_since (suc d) t q r e f =
      go ((step_of code plan n t living (omega (arith, e))).move.there q r f)
      (λ x k. handler_since d (suc t) q x (omega (arith, e)) k)
    where
      go : Stands (at_choice code plan t) q r (at_choice code plan (suc t)).releases →
          ((x : Release) → slice_get (at_choice code plan (suc t)).releases q ≡ Some x →
          (u : Release) × (slice_get (at_choice code plan n).releases q ≡ Some u) × (u.handler ≡ x.handler)) →
          (u : Release) × (slice_get (at_choice code plan n).releases q ≡ Some u) × (u.handler ≡ r.handler)
      go y more =
          let z : (u : Release) × (slice_get (at_choice code plan n).releases q ≡ Some u) × (u.handler ≡ y.release.handler) =
          more y.release y.is_there in
          (z.0, z.1, z.2 ∙ y.handler)

  -- ---- who is left

  -- what is known of a release that is left, in a unit of the mission
  record Known (t p : ℕ) : Type 0 where
    left : IsLeft (at_choice code plan t) (first + p)
    exec : is_exec (at_choice code plan t).phase ≡ true
    mission : (at_choice code plan t).earlier_releases ≡ first
    is_row : (mission_schedule code plan n).row_of p < length rows
    is_own : handler_priority (at_choice code plan t) left.release.handler ≡ own rows (mission_schedule code plan n) p
    is_active : (mission_schedule code plan n).active t p ≡ left.candidate_of.priority

  known : (t p : ℕ) → t ≤ n → may_act (at_choice code plan t) (first + p) ≡ true → Known t p
  unfolding first mission_schedule row_of_release
  known t p l e =
      let s : State = at_choice code plan t in
      let x : IsLeft s (first + p) = is_left s (first + p) e in
      let exec : is_exec s.phase ≡ true = (missions t l).exec (first + p) e in
      let h : (h : HandlerRow) × (handler_row s.registry x.release.handler ≡ Some h) =
      (missions t l).row (first + p) x.release e x.is_there in
      let f : (pred x.release.handler < length rows) × (h.0.priority ≡ (row_at rows (pred x.release.handler)).priority) =
      row_facts rows s.registry (handled t l exec) x.release.handler h.0 h.1 in
      let u : (u : Release) × (slice_get (at_choice code plan n).releases (first + p) ≡ Some u) × (u.handler ≡ x.release.handler) =
      handler_since (n - t) t (first + p) x.release (omega (arith, l)) x.is_there in
      let named : row_of_release (at_choice code plan n) (first + p) ≡ pred x.release.handler =
      ap (λ (o : Option Release). elim o as (λ z. ℕ) [ None ↦ 0 | Some r ↦ pred r.handler ]) u.1 ∙ ap pred u.2 in
      record {
        left = x;
        exec = exec;
        mission = same t l x;
        is_row = subst (λ k. k < length rows) (sym named) f.0;
        is_own = priority_is s x.release.handler h.0 h.1 ∙ (f.1 ∙ ap (λ k. (row_at rows k).priority) (sym named));
        is_active = active_of s (first + p) x.release x.candidate_of x.is_there x.is_candidate;
      }
    where
      same : (t : ℕ) → t ≤ n → IsLeft (at_choice code plan t) ((at_choice code plan n).earlier_releases + p) →
          (at_choice code plan t).earlier_releases ≡ (at_choice code plan n).earlier_releases
      same t l x = by (of_mission (n - t) t (omega (arith, l)))
        where
          there : (at_choice code plan n).earlier_releases + p < length (at_choice code plan t).releases
          there = slice_get_within (at_choice code plan t).releases ((at_choice code plan n).earlier_releases + p) x.release x.is_there

          by : ((at_choice code plan t).earlier_releases ≡ (at_choice code plan n).earlier_releases)
              ⊎ (length (at_choice code plan t).releases ≤ (at_choice code plan n).earlier_releases) →
              (at_choice code plan t).earlier_releases ≡ (at_choice code plan n).earlier_releases
          by (inl k) = k
          by (inr k) = absurd (omega (arith, k, there))

  -- ---- the fields

  c : Schedule
  c = mission_schedule code plan n

  left_is : (t p : ℕ) → c.is_left t p ≡ true → may_act (at_choice code plan t) (first + p) ≡ true
  unfolding c first mission_schedule
  left_is t p e = e

  is_left_from : (t p : ℕ) → may_act (at_choice code plan t) (first + p) ≡ true → c.is_left t p ≡ true
  unfolding c first mission_schedule
  is_left_from t p e = e

  absent : ℕ → ℕ → Bool
  absent x t = not (nat_lt x (length (at_choice code plan t).releases))

  ready_is : (p : ℕ) → c.ready p ≡ count_below (absent (first + p)) n
  unfolding c first mission_schedule ready_unit absent
  ready_is p = refl

  present : (x k : ℕ) → x < k → not (nat_lt x k) ≡ false
  present x k l = grind (arith, nat_tests)

  missing : (x k : ℕ) → k ≤ x → not (nat_lt x k) ≡ true
  missing x k l = grind (arith, nat_tests)

  ready_upto : (t p : ℕ) → t ≤ n → first + p < length (at_choice code plan t).releases → c.ready p ≤ t
  unfolding absent
  ready_upto t p l there =
      let a : count_below (absent (first + p)) n ≤ t =
      count_upto (absent (first + p)) n t (λ s u v. here s u v (longer_upto t s u (omega (arith, v)))) in
      let b : c.ready p ≡ count_below (absent (first + p)) n = ready_is p in
      omega (arith, a, b)
    where
      here : (s : ℕ) → t ≤ s → s < n → length (at_choice code plan t).releases ≤ length (at_choice code plan s).releases →
          not (nat_lt (first + p) (length (at_choice code plan s).releases)) ≡ false
      here s u v k = present (first + p) (length (at_choice code plan s).releases) (omega (arith, k, there))

  -- a release that is ready is there
  there_from : (t p : ℕ) → t < n → c.ready p ≤ t → first + p < length (at_choice code plan t).releases
  unfolding absent
  there_from t p l ready = go (cases_lt (first + p) (length (at_choice code plan t).releases))
    where
      go : (first + p < length (at_choice code plan t).releases) ⊎ (length (at_choice code plan t).releases ≤ first + p) →
          first + p < length (at_choice code plan t).releases
      go (inl k) = k
      go (inr k) =
          let a : t < count_below (absent (first + p)) n =
          count_past (absent (first + p)) n t l (λ s u. not_yet s (longer_upto s t u (omega (arith, l)))) in
          let b : c.ready p ≡ count_below (absent (first + p)) n = ready_is p in
          absurd (omega (arith, a, b, ready))
        where
          not_yet : (s : ℕ) → length (at_choice code plan s).releases ≤ length (at_choice code plan t).releases →
              not (nat_lt (first + p) (length (at_choice code plan s).releases)) ≡ true
          not_yet s u = missing (first + p) (length (at_choice code plan s).releases) (omega (arith, u, k))

  f_ready : (t p : ℕ) → t ≤ n → c.is_left t p ≡ true → c.ready p ≤ t
  f_ready t p l e =
      let x : IsLeft (at_choice code plan t) (first + p) = is_left (at_choice code plan t) (first + p) (left_is t p e) in
      ready_upto t p l (slice_get_within (at_choice code plan t).releases (first + p) x.release x.is_there)

  f_there : (t p : ℕ) → t ≤ n → c.is_left t p ≡ true → p < c.places
  unfolding c first mission_schedule
  f_there t p l e =
      let x : IsLeft (at_choice code plan t) ((at_choice code plan n).earlier_releases + p) =
      is_left (at_choice code plan t) ((at_choice code plan n).earlier_releases + p) e in
      let a : (at_choice code plan n).earlier_releases + p < length (at_choice code plan t).releases =
      slice_get_within (at_choice code plan t).releases ((at_choice code plan n).earlier_releases + p) x.release x.is_there in
      let b : length (at_choice code plan t).releases ≤ length (at_choice code plan n).releases =
      longer_upto t n l (omega arith) in
      omega (arith, a, b)

  f_ordered : (p q : ℕ) → p < q → q < c.places → c.ready p ≤ c.ready q
  unfolding absent
  f_ordered p q l there =
      let a : count_below (absent (first + p)) n ≤ count_below (absent (first + q)) n =
      sum_le (λ t. one_if (absent (first + p) t)) (λ t. one_if (absent (first + q) t)) n
      (λ t k. less (first + p) (first + q) (length (at_choice code plan t).releases) (omega (arith, l))) in
      let b : c.ready p ≡ count_below (absent (first + p)) n = ready_is p in
      let d : c.ready q ≡ count_below (absent (first + q)) n = ready_is q in
      omega (arith, a, b, d)
    where
      less : (a b k : ℕ) → a < b → one_if (not (nat_lt a k)) ≤ one_if (not (nat_lt b k))
      less a b k u = grind (arith, nat_tests)

  -- what a unit does to a release that is there
  stands : (t p : ℕ) → t < n → c.ready p ≤ t →
      (r : Release) × (slice_get (at_choice code plan t).releases (first + p) ≡ Some r)
      × Stands (at_choice code plan t) (first + p) r (at_choice code plan (suc t)).releases
  stands t p l ready = go (slice_get (at_choice code plan t).releases (first + p)) refl
    where
      there : first + p < length (at_choice code plan t).releases
      there = there_from t p l ready

      go : (o : Option Release) → slice_get (at_choice code plan t).releases (first + p) ≡ o →
          (r : Release) × (slice_get (at_choice code plan t).releases (first + p) ≡ Some r)
          × Stands (at_choice code plan t) (first + p) r (at_choice code plan (suc t)).releases
      go (Some r) e = (r, e, (step_of code plan n t living l).move.there (first + p) r e)
      go None e = absurd (gone (at_choice code plan t).releases (first + p) there e)
        where
          gone : (rs : List Release) (q : ℕ) → q < length rs → slice_get rs q ≡ None → ⊥
          gone [] q k f = omega (arith, k)
          gone (x ∷ rs) zero k f = cc (f)
          gone (x ∷ rs) (suc q) k f = gone rs q (omega (arith, k)) f

  acting_may : (s : State) (x : ℕ) → acting s ≡ Some x → may_act s x ≡ true
  acting_may s x e =
      let k : IsChosen s x = is_chosen s x (acting_chosen s x e) in
      may_from s x k.release k.best k.is_there k.is_candidate

  f_stays : (t p : ℕ) → t < n → c.is_left (t + 1) p ≡ true → c.ready p ≤ t → c.is_left t p ≡ true
  f_stays t p l e ready = go (stands t p l ready)
    where
      next : t + 1 ≡ suc t
      next = omega arith

      later : may_act (at_choice code plan (suc t)) (first + p) ≡ true
      later = left_is (suc t) p (subst (λ k. c.is_left k p ≡ true) next e)

      go : (r : Release) × (slice_get (at_choice code plan t).releases (first + p) ≡ Some r)
          × Stands (at_choice code plan t) (first + p) r (at_choice code plan (suc t)).releases → c.is_left t p ≡ true
      go x = is_left_from t p (by x.2.moves (is_left (at_choice code plan (suc t)) (first + p) later))
        where
          y : Stands (at_choice code plan t) (first + p) x.0 (at_choice code plan (suc t)).releases
          y = x.2

          by : (acting (at_choice code plan t) ≡ Some (first + p))
              ⊎ ((x.0.status ≡ y.release.status) ⊎ ((x.0.status ≡ Waits) × (y.release.status ≡ Dropped))) →
              IsLeft (at_choice code plan (suc t)) (first + p) → may_act (at_choice code plan t) (first + p) ≡ true
          by (inl a) k = acting_may (at_choice code plan t) (first + p) a
          by (inr (inr a)) k = absurd (not_dropped (at_choice code plan (suc t)) (first + p) y.release y.is_there a.1 later)
          by (inr (inl a)) k =
              of (candidate_cases (at_choice code plan (suc t)) (first + p) k.release k.candidate_of k.is_candidate)
            where
              same : k.release ≡ y.release
              same = ap (λ (o : Option Release). unwrap_or o y.release) (sym k.is_there ∙ y.is_there)

              of : CandidateCases (at_choice code plan (suc t)) k.release k.candidate_of →
                  may_act (at_choice code plan t) (first + p) ≡ true
              of (inl z) =
                  may_waits (at_choice code plan t) (first + p) x.0 x.1
                  (a ∙ (ap (λ (w : Release). w.status) (sym same) ∙ z.0))
              of (inr z) =
                  may_started (at_choice code plan t) (first + p) x.0 z.0 x.1
                  (a ∙ (ap (λ (w : Release). w.status) (sym same) ∙ z.1))

  acts_now : (t p : ℕ) → acting (at_choice code plan t) ≡ Some (first + p) → acts c t p ≡ true
  unfolding c first
  acts_now t p e = acts_from code plan n t p e

  f_acts_left : (t p : ℕ) → t < n → acts c t p ≡ true → c.is_left t p ≡ true
  unfolding c first
  f_acts_left t p l e =
      is_left_from t p
      (acting_may (at_choice code plan t) ((at_choice code plan n).earlier_releases + p) (acts_is code plan n t p e))

  f_rows : (t p : ℕ) → t ≤ n → c.is_left t p ≡ true → c.row_of p < length rows
  unfolding c
  f_rows t p l e = (known t p l (left_is t p e)).is_row

  -- in execution who is chosen acts
  acting_exec : (s : State) (x : ℕ) → is_exec s.phase ≡ true → chosen s ≡ Some x → acting s ≡ Some x
  unfolding acting
  acting_exec s x e f = ap (λ (b : Bool). if b then chosen s else None) e ∙ f

  f_someone : (t q : ℕ) → t < n → c.is_left t q ≡ true → (p : ℕ) × (c.actor t ≡ Some p)
  unfolding c first mission_schedule
  f_someone t q l e =
      let s : State = at_choice code plan t in
      let k : Known t q = known t q (omega (arith, l)) e in
      let x : (x : ℕ) × (chosen s ≡ Some x) = one_chosen s ((at_choice code plan n).earlier_releases + q) e in
      let a : acting s ≡ Some x.0 = acting_exec s x.0 k.exec x.1 in
      let from : s.earlier_releases ≤ x.0 = (missions t (omega (arith, l))).from x.0 (acting_may s x.0 a) in
      let at : (at_choice code plan n).earlier_releases ≤ x.0 = subst (λ z. z ≤ x.0) k.mission from in (
        x.0 - (at_choice code plan n).earlier_releases,
        ap (λ (o : Option ℕ). o >>= shifted (at_choice code plan n).earlier_releases) a
            ∙ shifted_at (at_choice code plan n).earlier_releases x.0 at,
      )

  f_greatest : (t p q : ℕ) → t < n → acts c t p ≡ true → c.is_left t q ≡ true → c.active t q ≤ c.active t p
  unfolding c first
  f_greatest t p q l e f =
      let s : State = at_choice code plan t in
      let a : acting s ≡ Some (first + p) = acts_at t p e in
      let k : IsChosen s (first + p) = is_chosen s (first + p) (acting_chosen s (first + p) a) in
      let x : Known t q = known t q (omega (arith, l)) (left_is t q f) in
      let y : Known t p = known t p (omega (arith, l)) (acting_may s (first + p) a) in
      let b : IsAtMost x.left.candidate_of k.best =
      k.is_best (first + q) x.left.release x.left.candidate_of x.left.is_there x.left.is_candidate in
      let d : IsAtMost k.best y.left.candidate_of =
      same s (first + p) k y.left in
      let g : x.left.candidate_of.priority ≤ k.best.priority = b.priority in
      let h : k.best.priority ≤ y.left.candidate_of.priority = d.priority in
      let i : (mission_schedule code plan n).active t q ≡ x.left.candidate_of.priority = x.is_active in
      let j : (mission_schedule code plan n).active t p ≡ y.left.candidate_of.priority = y.is_active in
      omega (arith, g, h, i, j)
    where
      acts_at : (t p : ℕ) → acts (mission_schedule code plan n) t p ≡ true → acting (at_choice code plan t) ≡ Some (first + p)
      acts_at t p e = acts_is code plan n t p e

      same : (s : State) (q : ℕ) (k : IsChosen s q) (y : IsLeft s q) → IsAtMost k.best y.candidate_of
      same s q k y =
          let r : k.release ≡ y.release = ap (λ (o : Option Release). unwrap_or o y.release) (sym k.is_there ∙ y.is_there) in
          let d : k.best ≡ y.candidate_of =
          ap (λ (o : Option Candidate). unwrap_or o y.candidate_of)
          (sym k.is_candidate ∙ (ap (candidate s q) r ∙ y.is_candidate)) in
          record {
            priority = subst (λ z. k.best.priority ≤ z.priority) d (omega arith);
            started = λ u v. subst (λ (z : Candidate). z.is_started ≡ true) d v;
          }

  -- ---- active priorities

  -- who waits has its own priority
  waiting_own : (t p : ℕ) (k : Known t p) → k.left.release.status ≡ Waits → c.active t p ≡ own rows c p
  unfolding c
  waiting_own t p k e = k.is_active ∙ by (candidate_cases (at_choice code plan t) (first + p) k.left.release k.left.candidate_of k.left.is_candidate)
    where
      by : CandidateCases (at_choice code plan t) k.left.release k.left.candidate_of →
          k.left.candidate_of.priority ≡ own rows (mission_schedule code plan n) p
      by (inl x) = x.1 ∙ k.is_own
      by (inr x) = absurd (cc (e, x.1))

  started_active : (t p : ℕ) (k : Known t p) (a : Activity) → k.left.release.status ≡ Started a → c.active t p ≡ a.priority
  unfolding c
  started_active t p k a e = k.is_active ∙ by (candidate_cases (at_choice code plan t) (first + p) k.left.release k.left.candidate_of k.left.is_candidate)
    where
      by : CandidateCases (at_choice code plan t) k.left.release k.left.candidate_of → k.left.candidate_of.priority ≡ a.priority
      by (inl x) = absurd (cc (e, x.0))
      by (inr x) = x.2 ∙ same (Started x.0) (Started a) a (sym x.1 ∙ e)
        where
          activity_or : Activity → ReleaseStatus → Activity
          activity_or d status = elim status as (λ z. Activity) [ Waits ↦ d | Started b ↦ b | Ended ↦ d | Dropped ↦ d ]

          same : (u v : ReleaseStatus) (d : Activity) → u ≡ v → (activity_or d u).priority ≡ (activity_or d v).priority
          same u v d f = ap (λ w. (activity_or d w).priority) f

  -- the started release at a place
  started_is : (t p : ℕ) (k : Known t p) (a : Activity) → k.left.release.status ≡ Started a →
      (started_at (at_choice code plan t).releases (first + p) ≡ Some (started_as k.left.release.handler a))
      × (own_priority (at_choice code plan t) (started_as k.left.release.handler a) ≡ own rows c p)
  unfolding c
  started_is t p k a e =
      (started_from (at_choice code plan t) (first + p) k.left.release a k.left.is_there e, k.is_own)

  cases_of : (t p : ℕ) (k : Known t p) → (k.left.release.status ≡ Waits) ⊎ ((a : Activity) × (k.left.release.status ≡ Started a))
  cases_of t p k = by (candidate_cases (at_choice code plan t) (first + p) k.left.release k.left.candidate_of k.left.is_candidate)
    where
      by : CandidateCases (at_choice code plan t) k.left.release k.left.candidate_of →
          (k.left.release.status ≡ Waits) ⊎ ((a : Activity) × (k.left.release.status ≡ Started a))
      by (inl x) = inl x.0
      by (inr x) = inr (x.0, x.1)

  f_at_least : (t p : ℕ) → t < n → c.is_left t p ≡ true → own rows c p ≤ c.active t p
  f_at_least t p l e = go (cases_of t p k)
    where
      k : Known t p
      k = known t p (omega (arith, l)) (left_is t p e)

      go : (k.left.release.status ≡ Waits) ⊎ ((a : Activity) × (k.left.release.status ≡ Started a)) → own rows c p ≤ c.active t p
      go (inl x) = let a : c.active t p ≡ own rows c p = waiting_own t p k x in omega (arith, a)
      go (inr x) =
          let s : State = at_choice code plan t in
          let w : (started_at s.releases (first + p) ≡ Some (started_as k.left.release.handler x.0))
          × (own_priority s (started_as k.left.release.handler x.0) ≡ own rows c p) = started_is t p k x.0 x.1 in
          let a : own_priority s (started_as k.left.release.handler x.0) ≤ x.0.priority =
          own_below (own_priority s (started_as k.left.release.handler x.0)) x.0.priority x.0.frames
          ((order t (omega (arith, l))).rise.is (first + p) (started_as k.left.release.handler x.0) w.0) in
          let b : c.active t p ≡ x.0.priority = started_active t p k x.0 x.1 in
          let d : own_priority s (started_as k.left.release.handler x.0) ≡ own rows c p = w.1 in
          omega (arith, a, b, d)

  f_in_turn : (t p q : ℕ) → t < n → c.is_left t p ≡ true → c.is_left t q ≡ true → (p ≡ q → ⊥) →
      own rows c p < c.active t p → own rows c q < c.active t q →
      (c.active t p < own rows c q) ⊎ (c.active t q < own rows c p)
  f_in_turn t p q l e f other above_p above_q = go (cases_of t p k) (cases_of t q j)
    where
      s : State
      s = at_choice code plan t

      k : Known t p
      k = known t p (omega (arith, l)) (left_is t p e)

      j : Known t q
      j = known t q (omega (arith, l)) (left_is t q f)

      go : (k.left.release.status ≡ Waits) ⊎ ((a : Activity) × (k.left.release.status ≡ Started a)) →
          (j.left.release.status ≡ Waits) ⊎ ((a : Activity) × (j.left.release.status ≡ Started a)) →
          (c.active t p < own rows c q) ⊎ (c.active t q < own rows c p)
      go (inl x) y = let a : c.active t p ≡ own rows c p = waiting_own t p k x in absurd (omega (arith, a, above_p))
      go (inr x) (inl y) = let a : c.active t q ≡ own rows c q = waiting_own t q j y in absurd (omega (arith, a, above_q))
      go (inr x) (inr y) =
          by
          ((order t (omega (arith, l))).started.is (first + p) (first + q)
          (started_as k.left.release.handler x.0) (started_as j.left.release.handler y.0)
          (λ same. other (omega (arith, same))) w.0 v.0)
        where
          w : (started_at (at_choice code plan t).releases (first + p) ≡ Some (started_as k.left.release.handler x.0))
              × (own_priority (at_choice code plan t) (started_as k.left.release.handler x.0) ≡ own rows c p)
          w = started_is t p k x.0 x.1

          v : (started_at (at_choice code plan t).releases (first + q) ≡ Some (started_as j.left.release.handler y.0))
              × (own_priority (at_choice code plan t) (started_as j.left.release.handler y.0) ≡ own rows c q)
          v = started_is t q j y.0 y.1

          a : c.active t p ≡ x.0.priority
          a = started_active t p k x.0 x.1

          b : c.active t q ≡ y.0.priority
          b = started_active t q j y.0 y.1

          by : IsStartedAfter (at_choice code plan t) (started_as k.left.release.handler x.0) (started_as j.left.release.handler y.0)
              ⊎ IsStartedAfter (at_choice code plan t) (started_as j.left.release.handler y.0) (started_as k.left.release.handler x.0) →
              (c.active t p < own rows c q) ⊎ (c.active t q < own rows c p)
          by (inl h) =
              let i : x.0.priority < own_priority (at_choice code plan t) (started_as j.left.release.handler y.0) = h.is_above in
              let o : own_priority (at_choice code plan t) (started_as j.left.release.handler y.0) ≡ own rows c q = v.1 in
              inl (omega (arith, i, o, a))
          by (inr h) =
              let i : y.0.priority < own_priority (at_choice code plan t) (started_as k.left.release.handler x.0) = h.is_above in
              let o : own_priority (at_choice code plan t) (started_as k.left.release.handler x.0) ≡ own rows c p = w.1 in
              inr (omega (arith, i, o, b))

  f_kept : (t p : ℕ) → t + 1 < n → c.is_left (t + 1) p ≡ true → c.ready p ≤ t → acts c t p ≡ false →
      c.active (t + 1) p ≡ c.active t p
  f_kept t p l e ready idle = ap (λ k. c.active k p) next ∙ go (stands t p (omega (arith, l)) ready)
    where
      next : t + 1 ≡ suc t
      next = omega arith

      now : c.is_left t p ≡ true
      now = f_stays t p (omega (arith, l)) e ready

      later : may_act (at_choice code plan (suc t)) (first + p) ≡ true
      later = left_is (suc t) p (subst (λ k. c.is_left k p ≡ true) next e)

      k : Known t p
      k = known t p (omega (arith, l)) (left_is t p now)

      j : Known (suc t) p
      j = known (suc t) p (omega (arith, l)) later

      go : (r : Release) × (slice_get (at_choice code plan t).releases (first + p) ≡ Some r)
          × Stands (at_choice code plan t) (first + p) r (at_choice code plan (suc t)).releases → c.active (suc t) p ≡ c.active t p
      go x = by x.2.moves
        where
          y : Stands (at_choice code plan t) (first + p) x.0 (at_choice code plan (suc t)).releases
          y = x.2

          here : k.left.release ≡ x.0
          here = ap (λ (o : Option Release). unwrap_or o x.0) (sym k.left.is_there ∙ x.1)

          there : j.left.release ≡ y.release
          there = ap (λ (o : Option Release). unwrap_or o y.release) (sym j.left.is_there ∙ y.is_there)

          by : (acting (at_choice code plan t) ≡ Some (first + p))
              ⊎ ((x.0.status ≡ y.release.status) ⊎ ((x.0.status ≡ Waits) × (y.release.status ≡ Dropped))) →
              c.active (suc t) p ≡ c.active t p
          by (inl a) = absurd (cc (idle, acts_now t p a))
          by (inr (inr a)) = absurd (not_dropped (at_choice code plan (suc t)) (first + p) y.release y.is_there a.1 later)
          by (inr (inl a)) = of (cases_of t p k)
            where
              same : j.left.release.status ≡ k.left.release.status
              same = ap (λ (w : Release). w.status) there ∙ (sym a ∙ ap (λ (w : Release). w.status) (sym here))

              of : (k.left.release.status ≡ Waits) ⊎ ((a : Activity) × (k.left.release.status ≡ Started a)) →
                  c.active (suc t) p ≡ c.active t p
              of (inl z) = waiting_own (suc t) p j (same ∙ z) ∙ sym (waiting_own t p k z)
              of (inr z) = started_active (suc t) p j z.0 (same ∙ z.1) ∙ sym (started_active t p k z.0 z.1)

  f_fresh : (t p : ℕ) → t < n → c.is_left t p ≡ true → c.ready p ≡ t → c.active t p ≡ own rows c p
  unfolding is_exec run empty_state
  f_fresh zero p l e ready = absurd (not_first (k.exec))
    where
      k : Known 0 p
      k = known 0 p (omega (arith, l)) (left_is 0 p e)

      not_first : is_exec (at_choice code plan 0).phase ≡ true → ⊥
      not_first x = cc (x, ap is_exec (still_arrivals code plan (state_after code plan 0)).phase)
  f_fresh (suc t) p l e ready = waiting_own (suc t) p k waits
    where
      k : Known (suc t) p
      k = known (suc t) p (omega (arith, l)) (left_is (suc t) p e)

      before : slice_get (at_choice code plan t).releases (first + p) ≡ None
      before = go (cases_lt (first + p) (length (at_choice code plan t).releases))
        where
          go : (first + p < length (at_choice code plan t).releases) ⊎ (length (at_choice code plan t).releases ≤ first + p) →
              slice_get (at_choice code plan t).releases (first + p) ≡ None
          go (inr h) = slice_get_past (at_choice code plan t).releases (first + p) h
          go (inl h) =
              let a : c.ready p ≤ t = ready_upto t p (omega (arith, l)) h in
              absurd (omega (arith, a, ready))

      waits : k.left.release.status ≡ Waits
      waits = (step_of code plan n t living (omega (arith, l))).move.fresh (first + p) k.left.release before k.left.is_there

  pub follows : Follows rows n (mission_schedule code plan n)
  unfolding c
  follows =
      record {
        in_rows = f_rows;
        ordered = f_ordered;
        is_there = f_there;
        is_ready = f_ready;
        stays = f_stays;
        acts_left = f_acts_left;
        someone = f_someone;
        greatest = f_greatest;
        fresh = f_fresh;
        at_least = f_at_least;
        kept = f_kept;
        in_turn = f_in_turn;
      }
