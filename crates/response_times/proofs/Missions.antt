-- The schedule of a mission follows priorities.
use Rattle.std.proofs.Common.{◌≡◌, ℕ, zero, suc, ◌+◌, ◌-◌, ◌≤◌, ◌<◌, ◌==◌, Bool, true, false, List, [], ◌∷◌, ◌++◌, ◌⊎◌, inl, inr, Option, Some, None, if◌then◌else◌, refl, sym, ap, ◌∙◌, subst, arith}
use Rattle.std.specs.Prelude.{nat_lt, option_map, option_to_list, slice_get, unwrap_or, is_some}
use Rattle.std.proofs.lemmas.Bool.{cases_Bool, cases_lt, or_parts}
use Rattle.std.proofs.lemmas.Bool.Decides.{nat_tests}
use Rattle.scj_rules.specs.Words.{◌>>=◌, holds}
use Rattle.scj_model.specs.Code.{Code}
use Rattle.scj_model.specs.Plan.{Plan}
use Rattle.scj_model.specs.State.{Release, State, is_exec, is_over}
use Rattle.scj_model.specs.Choice.{Candidate, candidate, candidates_from, candidates, is_more_urgent, most_urgent, chosen, may_act, by_priority}
use Rattle.scj_model.specs.Run.{RunSoFar, has_ended, continued, one_more_unit, one_unit, run}
use Rattle.response_bounds.specs.Sums.{sum_below, one_if, count_below}
use Rattle.response_bounds.specs.Schedule.{acts}
use Rattle.release_turns.specs.Choices.{at_choice, acting}
use Rattle.response_times.specs.Runs.{active_priority, shifted, mission_schedule}
use Rattle.release_turns.specs.UnitSteps.{UnitStep}
use Rattle.release_turns.proofs.Turns.{unit_step}

-- ---- counting up to a unit

count_all : (test : ℕ → Bool) (n : ℕ) → count_below test n ≤ n
unfolding sum_below
count_all test zero = omega arith
count_all test (suc n) =
    let a : count_below test n ≤ n = count_all test n in
    let b : one_if (test n) ≤ 1 = at_most (test n) in
    omega (arith, a, b)
  where
    at_most : (b : Bool) → one_if b ≤ 1
    at_most true = omega arith
    at_most false = omega arith

pub count_upto : (test : ℕ → Bool) (n t : ℕ) → ((s : ℕ) → t ≤ s → s < n → test s ≡ false) → count_below test n ≤ t
unfolding sum_below
count_upto test zero t h = omega arith
count_upto test (suc n) t h = go (count_upto test n t (λ s a b. h s a (omega (arith, b)))) (cases_lt n t)
  where
    go : count_below test n ≤ t → (n < t) ⊎ (t ≤ n) → count_below test n + one_if (test n) ≤ t
    go more (inl l) =
        let a : count_below test (suc n) ≤ suc n = count_all test (suc n) in
        omega (arith, a, l)
    go more (inr l) =
        let b : one_if (test n) ≡ 0 = ap one_if (h n l (omega arith)) in
        omega (arith, more, b)

pub count_past : (test : ℕ → Bool) (n t : ℕ) → t < n → ((s : ℕ) → s ≤ t → test s ≡ true) → t < count_below test n
unfolding sum_below
count_past test zero t l h = absurd (omega (arith, l))
count_past test (suc n) t l h = go (all n) (cases_lt t n) (count_past test n t)
  where
    all : (k : ℕ) → (k ≤ t → count_below test k ≡ k)
    all zero u = refl
    all (suc k) u =
        let a : count_below test k ≡ k = all k (omega (arith, u)) in
        let b : one_if (test k) ≡ 1 = ap one_if (h k (omega (arith, u))) in
        omega (arith, a, b)

    go : (n ≤ t → count_below test n ≡ n) → (t < n) ⊎ (n ≤ t) →
        (t < n → ((s : ℕ) → s ≤ t → test s ≡ true) → t < count_below test n) →
        t < count_below test n + one_if (test n)
    go all_here (inl k) more = let a : t < count_below test n = more k h in omega (arith, a)
    go all_here (inr k) more =
        let a : count_below test n ≡ n = all_here k in
        let b : one_if (test n) ≡ 1 = ap one_if (h n k) in
        omega (arith, a, b, l, k)

-- ---- candidates

-- who may act is a candidate
pub record IsLeft (s : State) (q : ℕ) : Type 0 where
  pub release : Release
  pub is_there : slice_get s.releases q ≡ Some release
  pub candidate_of : Candidate
  pub is_candidate : candidate s q release ≡ Some candidate_of

pub is_left : (s : State) (q : ℕ) → may_act s q ≡ true → IsLeft s q
unfolding may_act
is_left s q e = go (slice_get s.releases q) refl
  where
    by : (r : Release) → slice_get s.releases q ≡ Some r → (o : Option Candidate) → candidate s q r ≡ o →
        is_some (candidate s q r) ≡ true → IsLeft s q
    by r f None k h = absurd (cc (h, ap is_some k))
    by r f (Some c) k h = record { release = r; is_there = f; candidate_of = c; is_candidate = k }

    go : (o : Option Release) → slice_get s.releases q ≡ o → IsLeft s q
    go None f = absurd (cc (e, ap (λ (x : Option Release). holds x (λ r. is_some (candidate s q r))) f))
    go (Some r) f =
        by r f (candidate s q r) refl
        (sym (ap (λ (x : Option Release). holds x (λ r. is_some (candidate s q r))) f) ∙ e)

pub may_from : (s : State) (q : ℕ) (r : Release) (c : Candidate) → slice_get s.releases q ≡ Some r →
    candidate s q r ≡ Some c → may_act s q ≡ true
unfolding may_act
may_from s q r c e f = ap (λ (x : Option Release). holds x (λ r. is_some (candidate s q r))) e ∙ ap is_some f

pub active_of : (s : State) (q : ℕ) (r : Release) (c : Candidate) → slice_get s.releases q ≡ Some r →
    candidate s q r ≡ Some c → active_priority s q ≡ c.priority
unfolding active_priority
active_of s q r c e f =
    ap (λ (o : Option Candidate). elim o as (λ z. ℕ) [ None ↦ 0 | Some d ↦ d.priority ])
    (ap (λ (x : Option Release). x >>= candidate s q) e ∙ f)

-- ---- who acts

pub acting_chosen : (s : State) (x : ℕ) → acting s ≡ Some x → chosen s ≡ Some x
unfolding acting
acting_chosen s x e = go (cases_Bool (is_exec s.phase))
  where
    go : (is_exec s.phase ≡ true) ⊎ (is_exec s.phase ≡ false) → chosen s ≡ Some x
    go (inl f) = sym (ap (λ (b : Bool). if b then chosen s else None) f) ∙ e
    go (inr f) = absurd (cc (e, ap (λ (b : Bool). if b then chosen s else None) f))

none_left : (s : State) (first q : ℕ) (rs : List Release) (r : Release) → candidates_from s first rs ≡ [] →
    slice_get rs q ≡ Some r → candidate s (first + q) r ≡ None
unfolding candidates_from
none_left s first q [] r e f = absurd (cc (f))
none_left s first zero (x ∷ rs) r e f =
    let same : x ≡ r = ap (λ (o : Option Release). unwrap_or o x) f in
    let here : first + 0 ≡ first = omega arith in
    ap (λ n. candidate s n r) here ∙ (ap (candidate s first) (sym same) ∙ go (candidate s first x) e)
  where
    go : (o : Option Candidate) → (option_to_list o ++ candidates_from s (first + 1) rs) ≡ [] → o ≡ None
    go None k = refl
    go (Some c) k = absurd (cc (k))
none_left s first (suc q) (x ∷ rs) r e f =
    let there : first + suc q ≡ first + 1 + q = omega arith in
    ap (λ n. candidate s n r) there ∙ none_left s (first + 1) q rs r (go (candidate s first x) e) f
  where
    go : (o : Option Candidate) → (option_to_list o ++ candidates_from s (first + 1) rs) ≡ [] →
        candidates_from s (first + 1) rs ≡ []
    go None k = k
    go (Some c) k = absurd (cc (k))

no_candidate : (cs : List Candidate) → most_urgent cs ≡ None → cs ≡ []
unfolding most_urgent
no_candidate [] e = refl
no_candidate (c ∷ cs) e = go (most_urgent cs) e
  where
    go : (o : Option Candidate) →
        (elim o as (λ z. Option Candidate)
        [ None ↦ Some c | Some later ↦ Some (if is_more_urgent later c then later else c) ]) ≡ None → (c ∷ cs) ≡ []
    go None k = absurd (cc (k))
    go (Some later) k = absurd (cc (k))

-- where one may act one is chosen
pub one_chosen : (s : State) (q : ℕ) → may_act s q ≡ true → (x : ℕ) × (chosen s ≡ Some x)
unfolding chosen candidates
one_chosen s q e = go (most_urgent (candidates_from s 0 s.releases)) refl (is_left s q e)
  where
    go : (o : Option Candidate) → most_urgent (candidates_from s 0 s.releases) ≡ o → IsLeft s q →
        (x : ℕ) × (chosen s ≡ Some x)
    go (Some c) f l = (c.index, ap (λ (o : Option Candidate). option_map (λ (c : Candidate). c.index) o) f)
    go None f l =
        let none : candidate s (0 + q) l.release ≡ None =
        none_left s 0 q s.releases l.release (no_candidate (candidates_from s 0 s.releases) f) l.is_there in
        let here : 0 + q ≡ q = omega arith in
        absurd (cc (l.is_candidate, sym (ap (λ n. candidate s n l.release) here) ∙ none))

-- ---- acting by places of the mission

acts_place : (first p : ℕ) (o : Option ℕ) →
    (elim (o >>= shifted first) as (λ z. Bool) [ None ↦ false | Some q ↦ q == p ]) ≡ true → o ≡ Some (first + p)
acts_place first p None e = absurd (cc (e))
acts_place first p (Some x) e = go (cases_Bool (nat_lt x first))
  where
    of : Bool → Bool
    of b =
        elim (if b then None else Some (x - first)) as (λ z. Bool) [ None ↦ false | Some q ↦ q == p ]

    same : nat_lt x first ≡ false → (x - first == p) ≡ true → x ≡ first + p
    same a b = grind (arith, nat_tests)

    go : (nat_lt x first ≡ true) ⊎ (nat_lt x first ≡ false) → Some x ≡ Some (first + p)
    go (inl b) = absurd (cc (e, ap of b))
    go (inr b) = ap (λ (k : ℕ). Some k) (same b (sym (ap of b) ∙ e))

pub shifted_at : (first x : ℕ) → first ≤ x → shifted first x ≡ Some (x - first)
shifted_at first x l = ap (λ (b : Bool). if b then None else Some (x - first)) (no x first l)
  where
    no : (x first : ℕ) → first ≤ x → nat_lt x first ≡ false
    no x first l = grind (arith, nat_tests)

place_acts : (first p : ℕ) (o : Option ℕ) → o ≡ Some (first + p) →
    (elim (o >>= shifted first) as (λ z. Bool) [ None ↦ false | Some q ↦ q == p ]) ≡ true
place_acts first p o e =
    ap (λ (x : Option ℕ). elim (x >>= shifted first) as (λ z. Bool) [ None ↦ false | Some q ↦ q == p ]) e
    ∙ (ap (λ (x : Option ℕ). elim x as (λ z. Bool) [ None ↦ false | Some q ↦ q == p ])
    (shifted_at first (first + p) (omega arith)) ∙ same first p)
  where
    same : (first p : ℕ) → (first + p - first == p) ≡ true
    same first p = grind (arith, nat_tests)

pub acts_is : (code : Code) (plan : Plan) (n t p : ℕ) → acts (mission_schedule code plan n) t p ≡ true →
    acting (at_choice code plan t) ≡ Some ((at_choice code plan n).earlier_releases + p)
unfolding mission_schedule
acts_is code plan n t p e = acts_place (at_choice code plan n).earlier_releases p (acting (at_choice code plan t)) e

pub acts_from : (code : Code) (plan : Plan) (n t p : ℕ) →
    acting (at_choice code plan t) ≡ Some ((at_choice code plan n).earlier_releases + p) →
    acts (mission_schedule code plan n) t p ≡ true
unfolding mission_schedule
acts_from code plan n t p e = place_acts (at_choice code plan n).earlier_releases p (acting (at_choice code plan t)) e

-- ---- the units of a run that hasn't ended

lived : (code : Code) (plan : Plan) (t : ℕ) → has_ended (run code plan by_priority (suc t)) ≡ false →
    has_ended (run code plan by_priority t) ≡ false
unfolding run one_more_unit
lived code plan t e = go (cases_Bool (has_ended r))
  where
    r : RunSoFar
    r = run code plan by_priority t

    go : (has_ended r ≡ true) ⊎ (has_ended r ≡ false) → has_ended r ≡ false
    go (inr f) = f
    go (inl f) =
        sym (ap (λ (b : Bool). has_ended (if b then r else continued r (one_unit code plan by_priority r.state))) f) ∙ e

lives_since : (code : Code) (plan : Plan) (d t : ℕ) → has_ended (run code plan by_priority (t + d)) ≡ false →
    has_ended (run code plan by_priority t) ≡ false
lives_since code plan zero t e =
    let same : t + 0 ≡ t = omega arith in
    subst (λ k. has_ended (run code plan by_priority k) ≡ false) same e
lives_since code plan (suc d) t e =
    let same : t + suc d ≡ suc (t + d) = omega arith in
    lives_since code plan d t
    (lived code plan (t + d) (subst (λ k. has_ended (run code plan by_priority k) ≡ false) same e))

pub lives : (code : Code) (plan : Plan) (n t : ℕ) → has_ended (run code plan by_priority n) ≡ false → t ≤ n →
    has_ended (run code plan by_priority t) ≡ false
lives code plan n t e l =
    let same : n ≡ t + (n - t) = omega (arith, l) in
    lives_since code plan (n - t) t (subst (λ k. has_ended (run code plan by_priority k) ≡ false) same e)

pub step_of : (code : Code) (plan : Plan) (n t : ℕ) → has_ended (run code plan by_priority n) ≡ false → t < n →
    UnitStep (at_choice code plan t) (at_choice code plan (suc t))
step_of code plan n t e l =
    unit_step code plan t (lives code plan n t e (omega (arith, l)))
    (or_parts (is_over (run code plan by_priority (suc t)).state.phase) (run code plan by_priority (suc t)).is_stuck
    (lives code plan n (suc t) e (omega (arith, l)))).1
