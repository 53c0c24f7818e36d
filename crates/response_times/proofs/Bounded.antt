-- Response times of runs.
use Rattle.std.proofs.Common.{◌≡◌, ℕ, zero, suc, pred, ◌+◌, ◌-◌, ◌≤◌, ◌<◌, Bool, true, false, not, length, ◌⊎◌, inl, inr, Option, Some, None, if◌then◌else◌, refl, sym, ap, ◌∙◌, subst, List, length, arith}
use Rattle.std.specs.Prelude.{nat_lt, slice_get}
use Rattle.std.proofs.lemmas.Bool.{cases_Bool, or_parts, or_right, or_from}
use Rattle.scj_model.specs.Steps.{Step}
use Rattle.std.proofs.lemmas.Bool.Decides.{nat_tests}
use Rattle.std.proofs.lemmas.Option.{slice_get_within}
use Rattle.scj_model.specs.declared.phases.Phase.{Phase}
use Rattle.scj_model.specs.declared.phases.Phase.TheVariants.{Boot, Next, Init, Exec, Cleanup, Over}
use Rattle.scj_model.specs.Code.{Code}
use Rattle.scj_model.specs.Plan.{Plan}
use Rattle.scj_model.specs.State.{Release, is_exec, is_over}
use Rattle.scj_model.specs.Choice.{may_act, by_priority}
use Rattle.scj_model.specs.Run.{RunSoFar, has_ended, continued, one_more_unit, one_unit, run}
use Rattle.scj_model.specs.Reached.{Arrived, on_arrival}
use Rattle.scj_model.proofs.Reaching.{reached_run}
use Rattle.priority_laws.specs.InOrder.{IsInOrder}
use Rattle.priority_laws.proofs.ReachedOrder.{ordered}
use Rattle.priority_laws.proofs.Still.{still_arrivals}
use Rattle.response_bounds.specs.Sums.{count_below}
use Rattle.response_bounds.specs.declared.rows.Declared.{Declared}
use Rattle.response_bounds.specs.Rows.{AreDeclared, row_at}
use Rattle.response_bounds.specs.Schedule.{Follows}
use Rattle.release_turns.specs.Choices.{state_after, at_choice}
use Rattle.response_times.specs.Runs.{ready_unit, row_of_release, mission_schedule, Within, IsReadyIn, RespondsInTime, IsOfMission, RespondsInTimeIf}
use Rattle.response_times.proofs.Missions.{IsLeft, is_left, lives, count_upto, count_past}
use Rattle.response_times.proofs.Followed.{follows, handler_since, longer_upto}
use Rattle.response_bounds.proofs.Monotone.{gaps_of}
use Rattle.response_bounds.proofs.EndsInTime.{ends_in_time}

not_over : (p : Phase) → is_exec p ≡ true → is_over p ≡ false
unfolding is_exec is_over
not_over Boot e = absurd (cc (e))
not_over Next e = absurd (cc (e))
not_over Init e = absurd (cc (e))
not_over Exec e = refl
not_over Cleanup e = absurd (cc (e))
not_over Over e = absurd (cc (e))

-- a run that is stuck stays so
free_before : (code : Code) (plan : Plan) (d t : ℕ) → (run code plan by_priority (t + d)).is_stuck ≡ false →
    (run code plan by_priority t).is_stuck ≡ false
unfolding run one_more_unit
free_before code plan zero t e =
    let same : t + 0 ≡ t = omega arith in
    subst (λ k. (run code plan by_priority k).is_stuck ≡ false) same e
free_before code plan (suc d) t e =
    let same : t + suc d ≡ suc (t + d) = omega arith in
    free_before code plan d t
    (once (run code plan by_priority (t + d)) (one_unit code plan by_priority (run code plan by_priority (t + d)).state)
    (subst (λ k. (run code plan by_priority k).is_stuck ≡ false) same e))
  where
    once : (r : RunSoFar) (o : Option Step) → (if has_ended r then r else continued r o).is_stuck ≡ false → r.is_stuck ≡ false
    once r o f = go (cases_Bool r.is_stuck)
      where
        go : (r.is_stuck ≡ true) ⊎ (r.is_stuck ≡ false) → r.is_stuck ≡ false
        go (inr k) = k
        go (inl k) =
            let ended : has_ended r ≡ true = or_right (is_over r.state.phase) r.is_stuck k in
            sym (ap (λ (b : Bool). (if b then r else continued r o).is_stuck) ended) ∙ f

module _ (rows : List Declared) (gaps : (j : ℕ) → j < length rows → 1 ≤ (row_at rows j).gap) (code : Code) (plan : Plan) (n : ℕ)
    (missions : (t : ℕ) → t ≤ n → IsOfMission (at_choice code plan t))
    (free : (run code plan by_priority n).is_stuck ≡ false) (within : Within rows code plan n) where
  -- a run that may act in unit u hasn't ended before
  living : (u x : ℕ) → u ≤ n → may_act (at_choice code plan u) x ≡ true → has_ended (run code plan by_priority u) ≡ false
  living u x l e =
      let exec : is_exec (at_choice code plan u).phase ≡ true = (missions u l).exec x e in
      let before : is_exec (state_after code plan u).phase ≡ true =
      sym (ap is_exec (still_arrivals code plan (state_after code plan u)).phase) ∙ exec in
      let same : u + (n - u) ≡ n = omega (arith, l) in
      or_from (is_over (state_after code plan u).phase) (run code plan by_priority u).is_stuck
      (not_over (state_after code plan u).phase before)
      (free_before code plan (n - u) u (subst (λ k. (run code plan by_priority k).is_stuck ≡ false) (sym same) free))

  order : (u : ℕ) → has_ended (run code plan by_priority u) ≡ false → (t : ℕ) → t ≤ u → IsInOrder (at_choice code plan t)
  order u e t l =
      (ordered code plan {moment = Arrived} {s = at_choice code plan t}
      (on_arrival (state_after code plan t) (reached_run code plan by_priority t)
      (or_parts (is_over (state_after code plan t).phase) (run code plan by_priority t).is_stuck (lives code plan u t e l)).0)).order

  follows_upto : (u : ℕ) → u ≤ n → has_ended (run code plan by_priority u) ≡ false →
      Follows rows u (mission_schedule code plan u)
  follows_upto u l e =
      follows code plan u rows e (λ t k. missions t (omega (arith, k, l))) (λ t k. order u e t k)
      (λ t k exec. within.handlers t (omega (arith, k, l)) exec)

  ready_same : (u t index : ℕ) → t < u → IsReadyIn code plan t index →
      ((s : ℕ) → t ≤ s → s < u → length (at_choice code plan t).releases ≤ length (at_choice code plan s).releases) →
      ready_unit code plan u index ≡ t
  unfolding ready_unit
  ready_same u t index l ready longer =
      let a : count_below (λ s. not (nat_lt index (length (at_choice code plan s).releases))) u ≤ t =
      count_upto (λ s. not (nat_lt index (length (at_choice code plan s).releases))) u t
      (λ s k j. present index (length (at_choice code plan s).releases) (far s (longer s k j))) in
      let b : t ≤ count_below (λ s. not (nat_lt index (length (at_choice code plan s).releases))) u = least t l ready.is_new in
      omega (arith, a, b)
    where
      far : (s : ℕ) → length (at_choice code plan t).releases ≤ length (at_choice code plan s).releases →
          index < length (at_choice code plan s).releases
      far s k = let h : index < length (at_choice code plan t).releases = ready.is_there in omega (arith, k, h)

      present : (x k : ℕ) → x < k → not (nat_lt x k) ≡ false
      present x k l = grind (arith, nat_tests)

      missing : (x k : ℕ) → k ≤ x → not (nat_lt x k) ≡ true
      missing x k l = grind (arith, nat_tests)

      least : (t : ℕ) → t < u → ((s : ℕ) → s < t → length (at_choice code plan s).releases ≤ index) →
          t ≤ count_below (λ s. not (nat_lt index (length (at_choice code plan s).releases))) u
      least zero l new = omega arith
      least (suc t) l new =
          let a : t < count_below (λ s. not (nat_lt index (length (at_choice code plan s).releases))) u =
          count_past (λ s. not (nat_lt index (length (at_choice code plan s).releases))) u t (omega (arith, l))
          (λ s k. missing index (length (at_choice code plan s).releases) (new s (omega (arith, k)))) in
          omega (arith, a)

  -- lengths grow
  longer_to : (u : ℕ) → u ≤ n → has_ended (run code plan by_priority u) ≡ false → (t s : ℕ) → t ≤ s → s < u →
      length (at_choice code plan t).releases ≤ length (at_choice code plan s).releases
  longer_to u l e t s a b =
      longer_upto code plan u rows e (λ t k. missions t (omega (arith, k, l))) (λ t k. order u e t k)
      (λ t k exec. within.handlers t (omega (arith, k, l)) exec) t s a (omega (arith, b))

  handler_to : (u t q : ℕ) (r : Release) → u ≤ n → t ≤ u → has_ended (run code plan by_priority u) ≡ false →
      slice_get (at_choice code plan t).releases q ≡ Some r →
      (v : Release) × (slice_get (at_choice code plan u).releases q ≡ Some v) × (v.handler ≡ r.handler)
  handler_to u t q r l k e f =
      handler_since code plan u rows e (λ t k. missions t (omega (arith, k, l))) (λ t k. order u e t k)
      (λ t k exec. within.handlers t (omega (arith, k, l)) exec) (u - t) t q r (omega (arith, k)) f

  pub responds : RespondsInTime rows code plan n
  unfolding mission_schedule row_of_release
  responds i x t index r bound ready there of upto = go (cases_Bool (may_act (at_choice code plan (t + x)) index))
    where
      ended : (u : ℕ) → u ≡ t + x → may_act (at_choice code plan u) index ≡ true → ⊥
      ended u same e =
          let from : 1 ≤ x = bound.from in
          let l : u ≤ n = omega (arith, same, upto) in
          let alive : has_ended (run code plan by_priority u) ≡ false = living u index l e in
          let first : (at_choice code plan u).earlier_releases ≤ index = (missions u l).from index e in
          let exec : is_exec (at_choice code plan u).phase ≡ true = (missions u l).exec index e in
          let y : IsLeft (at_choice code plan u) index = is_left (at_choice code plan u) index e in
          let within_list : index < length (at_choice code plan u).releases =
          slice_get_within (at_choice code plan u).releases index y.release y.is_there in
          let k : ℕ = index - (at_choice code plan u).earlier_releases in
          let back : (at_choice code plan u).earlier_releases + (index - (at_choice code plan u).earlier_releases) ≡ index = omega (arith, first) in
          let h : (v : Release) × (slice_get (at_choice code plan u).releases index ≡ Some v) × (v.handler ≡ r.handler) =
          handler_to u t index r l (omega (arith, same)) alive there in
          let number : h.0.handler ≡ suc i = omega (arith, h.2, of) in
          let is_row : row_of_release (at_choice code plan u) index ≡ i =
          ap (λ (o : Option Release). elim o as (λ z. ℕ) [ None ↦ 0 | Some r ↦ pred r.handler ]) h.1 ∙ ap pred number in
          let when : ready_unit code plan u index ≡ t =
          ready_same u t index (omega (arith, same, from)) ready (λ s a b. longer_to u l alive t s a b) in
          let time : ready_unit code plan u ((at_choice code plan u).earlier_releases + (index - (at_choice code plan u).earlier_releases)) ≡ t =
          ap (ready_unit code plan u) back ∙ when in
          let out : may_act (at_choice code plan (ready_unit code plan u ((at_choice code plan u).earlier_releases + (index - (at_choice code plan u).earlier_releases)) + x))
          ((at_choice code plan u).earlier_releases + (index - (at_choice code plan u).earlier_releases)) ≡ false =
          ends_in_time rows u (mission_schedule code plan u) (follows_upto u l alive) (within.keeps u l exec) gaps
          i x (index - (at_choice code plan u).earlier_releases) bound (omega (arith, first, within_list))
          (ap (row_of_release (at_choice code plan u)) back ∙ is_row) (omega (arith, time, same)) in
          let at : ready_unit code plan u ((at_choice code plan u).earlier_releases + (index - (at_choice code plan u).earlier_releases)) + x ≡ u =
          omega (arith, time, same) in
          let no : may_act (at_choice code plan u) index ≡ false =
          ap (λ j. may_act (at_choice code plan u) j) (sym back)
          ∙ (ap (λ j. may_act (at_choice code plan j) ((at_choice code plan u).earlier_releases + (index - (at_choice code plan u).earlier_releases))) (sym at) ∙ out) in
          cc (e, no)

      go : (may_act (at_choice code plan (t + x)) index ≡ true) ⊎ (may_act (at_choice code plan (t + x)) index ≡ false) →
          may_act (at_choice code plan (t + x)) index ≡ false
      go (inr e) = e
      go (inl e) = absurd (ended (t + x) refl e)

pub bounded_if : (rows : List Declared) → AreDeclared rows → RespondsInTimeIf rows
bounded_if rows declared code plan n missions free within =
    responds rows (λ j l. gaps_of rows declared j) code plan n missions free within
