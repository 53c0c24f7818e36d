-- The chosen release is as urgent as each that waits or is started, and a started one goes before those of its priority
-- that wait.
use Rattle.std.proofs.Common.{◌≡◌, ℕ, zero, suc, ◌+◌, ◌≤◌, ◌==◌, Bool, true, false, not, ◌&&◌, ◌||◌, List, [], ◌∷◌, ◌++◌, ◌⊎◌, inl, inr, Option, Some, None, if◌then◌else◌, refl, sym, ap, ◌∙◌, subst, arith}
use Rattle.std.specs.Prelude.{slice_get, option_map, option_to_list, nat_lt}
use Rattle.std.proofs.lemmas.Bool.Decides.{nat_tests}
use Rattle.accepted_laws.proofs.Tools.{some_inj}
use Rattle.scj_model.specs.State.{ReleaseStatus, Waits, Started, Ended, Dropped, Release, State}
use Rattle.scj_model.specs.Choice.{handler_priority, Candidate, candidate, candidates_from, candidates, is_more_urgent, most_urgent, chosen}
use Rattle.priority_laws.proofs.AreaLists.{bool_cases}

-- one candidate is at most as urgent as another
pub record IsAtMost (c best : Candidate) : Type 0 where
  pub priority : c.priority ≤ best.priority
  pub started : c.priority ≡ best.priority → c.is_started ≡ true → best.is_started ≡ true

at_most_same : (c : Candidate) → IsAtMost c c
at_most_same c = record { priority = omega arith; started = λ e s. s }

at_most_then : (c d e : Candidate) → IsAtMost c d → IsAtMost d e → IsAtMost c e
at_most_then c d e h k =
    let x = h.priority in
    let y = k.priority in
    record {
      priority = omega (arith, x, y);
      started = λ same s.
          let f : c.priority ≡ d.priority = omega (arith, x, y, same) in
          let g : d.priority ≡ e.priority = omega (arith, x, y, same) in
          k.started g (h.started f s);
    }

urgent_over : (later c : Candidate) → is_more_urgent later c ≡ true → IsAtMost c later
urgent_over later c h =
    record {
      priority = grind (arith, nat_tests);
      started = λ e s. tests (nat_lt c.priority later.priority)
          (later.priority == c.priority) later.is_started c.is_started h (less e) s;
    }
  where
    less : c.priority ≡ later.priority → nat_lt c.priority later.priority ≡ false
    less e = grind (arith, nat_tests)

    tests : (a b s r : Bool) → (a || (b && (s && not r))) ≡ true → a ≡ false → r ≡ true → s ≡ true
    tests true b s r h f x = absurd (cc (f))
    tests false true true r h f x = refl
    tests false true false r h f x = absurd (cc (h))
    tests false false s r h f x = absurd (cc (h))

not_urgent : (later c : Candidate) → is_more_urgent later c ≡ false → IsAtMost later c
not_urgent later c h =
    record {
      priority = grind (arith, nat_tests);
      started = λ e s. tests (nat_lt c.priority later.priority)
          (later.priority == c.priority) later.is_started c.is_started h (equal e) s;
    }
  where
    equal : later.priority ≡ c.priority → (later.priority == c.priority) ≡ true
    equal e = grind (arith, nat_tests)

    tests : (a b s r : Bool) → (a || (b && (s && not r))) ≡ false → b ≡ true → s ≡ true → r ≡ true
    tests true b s r h f x = absurd (cc (h))
    tests false true true true h f x = refl
    tests false true true false h f x = absurd (cc (h))
    tests false true false r h f x = absurd (cc (x))
    tests false false s r h f x = absurd (cc (f))

-- ---- the candidates

abbrev pub IsOne : Candidate → List Candidate → Type 0
IsOne c [] = ⊥
IsOne c (d ∷ ds) = (c ≡ d) ⊎ IsOne c ds

best_of : (cs : List Candidate) (best : Candidate) → most_urgent cs ≡ Some best →
    IsOne best cs × ((c : Candidate) → IsOne c cs → IsAtMost c best)
unfolding most_urgent
best_of [] best e = absurd (cc (e))
best_of (d ∷ ds) best e = go (most_urgent ds) refl (λ later f. best_of ds later f)
  where
    none : (o : Option Candidate) → most_urgent ds ≡ o → o ≡ None → (c : Candidate) → IsOne c ds → ⊥
    none o f g c h = empty ds (f ∙ g) c h
      where
        empty : (xs : List Candidate) → most_urgent xs ≡ None → (c : Candidate) → IsOne c xs → ⊥
        empty [] k c h = h
        empty (x ∷ xs) k c h = filled (most_urgent xs) k
          where
            filled : (o : Option Candidate) →
                (elim o as (λ z. Option Candidate)
                [ None ↦ Some x | Some later ↦ Some (if is_more_urgent later x then later else x) ]) ≡ None → ⊥
            filled None k = cc (k)
            filled (Some later) k = cc (k)

    go : (o : Option Candidate) → most_urgent ds ≡ o →
        ((later : Candidate) → most_urgent ds ≡ Some later → IsOne later ds ×
        ((c : Candidate) → IsOne c ds → IsAtMost c later)) → IsOne best (d ∷ ds) ×
        ((c : Candidate) → IsOne c (d ∷ ds) → IsAtMost c best)
    go None f more =
        let same : d ≡ best =
        some_inj d best
        (sym
        (ap
        (λ (o : Option Candidate). elim o as (λ z. Option Candidate)
        [ None ↦ Some d | Some later ↦ Some (if is_more_urgent later d then later else d) ]) f) ∙ e) in
        (inl (sym same), λ c h. only c same h)
      where
        only : (c : Candidate) → d ≡ best → IsOne c (d ∷ ds) → IsAtMost c best
        only c same (inl x) = subst (λ y. IsAtMost c y) (x ∙ same) (at_most_same c)
        only c same (inr x) = absurd (none None f refl c x)
    go (Some later) f more =
        pick (bool_cases (is_more_urgent later d))
      where
        chosen_is : (if is_more_urgent later d then later else d) ≡ best
        chosen_is =
            some_inj _ best
            (sym
            (ap
            (λ (o : Option Candidate). elim o as (λ z. Option Candidate)
            [ None ↦ Some d | Some later ↦ Some (if is_more_urgent later d then later else d) ]) f) ∙ e)

        pick : (is_more_urgent later d ≡ true) ⊎ (is_more_urgent later d ≡ false) → IsOne best (d ∷ ds) ×
            ((c : Candidate) → IsOne c (d ∷ ds) → IsAtMost c best)
        pick (inl t) =
            let same : later ≡ best = sym (ap (λ b. if b then later else d) t) ∙ chosen_is in
            (inr (subst (λ x. IsOne x ds) same (more later f).0), λ c h. each c same h)
          where
            each : (c : Candidate) → later ≡ best → IsOne c (d ∷ ds) → IsAtMost c best
            each c same (inl x) =
                subst (λ y. IsAtMost y best) (sym x) (subst (λ y. IsAtMost d y) same (urgent_over later d t))
            each c same (inr x) = subst (λ y. IsAtMost c y) same ((more later f).1 c x)
        pick (inr n) =
            let same : d ≡ best = sym (ap (λ b. if b then later else d) n) ∙ chosen_is in
            (inl (sym same), λ c h. each c same h)
          where
            each : (c : Candidate) → d ≡ best → IsOne c (d ∷ ds) → IsAtMost c best
            each c same (inl x) = subst (λ y. IsAtMost c y) (x ∙ same) (at_most_same c)
            each c same (inr x) =
                subst (λ y. IsAtMost c y) same (at_most_then c later d ((more later f).1 c x) (not_urgent later d n))

one_left : (c : Candidate) (cs ds : List Candidate) → IsOne c cs → IsOne c (cs ++ ds)
one_left c [] ds h = absurd h
one_left c (d ∷ cs) ds (inl e) = inl e
one_left c (d ∷ cs) ds (inr h) = inr (one_left c cs ds h)

one_right : (c : Candidate) (cs ds : List Candidate) → IsOne c ds → IsOne c (cs ++ ds)
one_right c [] ds h = h
one_right c (d ∷ cs) ds h = inr (one_right c cs ds h)

one_either : (c : Candidate) (cs ds : List Candidate) → IsOne c (cs ++ ds) → IsOne c cs ⊎ IsOne c ds
one_either c [] ds h = inr h
one_either c (d ∷ cs) ds (inl e) = inl (inl e)
one_either c (d ∷ cs) ds (inr h) = go (one_either c cs ds h)
  where
    go : IsOne c cs ⊎ IsOne c ds → IsOne c (d ∷ cs) ⊎ IsOne c ds
    go (inl x) = inl (inr x)
    go (inr x) = inr x

-- the release at a place is a candidate, by its place
is_listed : (s : State) (first q : ℕ) (rs : List Release) (r : Release) (c : Candidate) → slice_get rs q ≡ Some r →
    candidate s (first + q) r ≡ Some c → IsOne c (candidates_from s first rs)
unfolding candidates_from
is_listed s first q [] r c e k = absurd (cc (e))
is_listed s first zero (x ∷ rs) r c e k =
    one_left c (option_to_list (candidate s first x)) (candidates_from s (first + 1) rs)
    (subst (λ (o : Option Candidate). IsOne c (option_to_list o))
    (sym (ap (λ n. candidate s n x) here ∙ (ap (candidate s (first + 0)) (some_inj x r e) ∙ k))) (inl refl))
  where
    here : first ≡ first + 0
    here = omega arith
is_listed s first (suc q) (x ∷ rs) r c e k =
    one_right c (option_to_list (candidate s first x)) (candidates_from s (first + 1) rs)
    (is_listed s (first + 1) q rs r c e (ap (λ n. candidate s n r) there ∙ k))
  where
    there : first + 1 + q ≡ first + suc q
    there = omega arith

-- each candidate is a release at some place
pub record IsCandidate (s : State) (first : ℕ) (rs : List Release) (c : Candidate) : Type 0 where
  pub q : ℕ
  pub release : Release
  pub is_there : slice_get rs q ≡ Some release
  pub is_candidate : candidate s (first + q) release ≡ Some c

is_candidate : (s : State) (first : ℕ) (rs : List Release) (c : Candidate) → IsOne c (candidates_from s first rs) →
    IsCandidate s first rs c
unfolding candidates_from
is_candidate s first [] c h = absurd h
is_candidate s first (x ∷ rs) c h =
    go (one_either c (option_to_list (candidate s first x)) (candidates_from s (first + 1) rs) h)
    (is_candidate s (first + 1) rs c)
  where
    own : (o : Option Candidate) → candidate s first x ≡ o → IsOne c (option_to_list o) → IsCandidate s first (x ∷ rs) c
    own None e k = absurd k
    own (Some d) e (inl k) =
        let here : first + 0 ≡ first = omega arith in
        record {
          q = 0;
          release = x;
          is_there = refl;
          is_candidate = ap (λ n. candidate s n x) here
              ∙ (e ∙ ap (λ (y : Candidate). Some y) (sym k));
        }
    own (Some d) e (inr k) = absurd k

    later : IsCandidate s (first + 1) rs c → IsCandidate s first (x ∷ rs) c
    later k =
        let there : first + suc k.q ≡ first + 1 + k.q = omega arith in
        record {
          q = suc k.q;
          release = k.release;
          is_there = k.is_there;
          is_candidate = ap
              (λ n. candidate s n k.release) there ∙ k.is_candidate;
        }

    go : IsOne c (option_to_list (candidate s first x)) ⊎ IsOne c (candidates_from s (first + 1) rs) →
        (IsOne c (candidates_from s (first + 1) rs) → IsCandidate s (first + 1) rs c) → IsCandidate s first (x ∷ rs) c
    go (inl k) more = own (candidate s first x) refl k
    go (inr k) more = later (more k)

-- ---- the chosen one

pub record IsChosen (s : State) (index : ℕ) : Type 0 where
  pub best : Candidate
  pub release : Release
  pub is_there : slice_get s.releases index ≡ Some release
  pub is_candidate : candidate s index release ≡ Some best
  pub is_best : (q : ℕ) (r : Release) (c : Candidate) → slice_get s.releases q ≡ Some r → candidate s q r ≡ Some c →
      IsAtMost c best

placed : (s : State) (q : ℕ) (r : Release) (c : Candidate) → candidate s q r ≡ Some c → c.index ≡ q
unfolding candidate
placed s q r c e = go r.status refl
  where
    by : (d : Candidate) → candidate s q r ≡ Some d → d.index ≡ q → c.index ≡ q
    by d f same = ap (λ (x : Candidate). x.index) (sym (some_inj d c (sym f ∙ e))) ∙ same

    of : ReleaseStatus → Option Candidate
    of status =
        elim status [
          | Waits ↦ Some (record { index = q; priority = handler_priority s r.handler; is_started = false })
          | Started activity ↦ Some (record { index = q; priority = activity.priority; is_started = true })
          | Ended ↦ None
          | Dropped ↦ None
        ]

    go : (status : ReleaseStatus) → r.status ≡ status → c.index ≡ q
    go Waits f = by (record { index = q; priority = handler_priority s r.handler; is_started = false }) (ap of f) refl
    go (Started activity) f = by (record { index = q; priority = activity.priority; is_started = true }) (ap of f) refl
    go Ended f = absurd (cc (e, ap of f))
    go Dropped f = absurd (cc (e, ap of f))

pub is_chosen : (s : State) (index : ℕ) → chosen s ≡ Some index → IsChosen s index
unfolding chosen candidates
is_chosen s index e = go (most_urgent (candidates_from s 0 s.releases)) refl
  where
    listed : (q : ℕ) (r : Release) (c : Candidate) → slice_get s.releases q ≡ Some r → candidate s q r ≡ Some c →
        IsOne c (candidates_from s 0 s.releases)
    listed q r c f k =
        let there : 0 + q ≡ q = omega arith in
        is_listed s 0 q s.releases r c f (ap (λ n. candidate s n r) there ∙ k)

    found : (best : Candidate) → best.index ≡ index → IsCandidate s 0 s.releases best →
        ((c : Candidate) → IsOne c (candidates_from s 0 s.releases) → IsAtMost c best) → IsChosen s index
    found best at k most =
        let zero_first : 0 + k.q ≡ k.q = omega arith in
        let there : candidate s k.q k.release ≡ Some best = sym (ap (λ n. candidate s n k.release) zero_first)
        ∙ k.is_candidate in
        let same : k.q ≡ index = sym (placed s k.q k.release best there) ∙ at in
        record {
          best = best;
          release = k.release;
          is_there = subst (λ n. slice_get s.releases n ≡ Some k.release) same k.is_there;
          is_candidate = subst (λ n. candidate s n k.release ≡ Some best) same there;
          is_best = λ q r c f h. most c (listed q r c f h);
        }

    go : (o : Option Candidate) → most_urgent (candidates_from s 0 s.releases) ≡ o → IsChosen s index
    go None f = absurd (cc (e, f))
    go (Some best) f =
        let b : IsOne best (candidates_from s 0 s.releases) ×
        ((c : Candidate) → IsOne c (candidates_from s 0 s.releases) → IsAtMost c best) =
        best_of (candidates_from s 0 s.releases) best f in
        found best
        (some_inj best.index index (sym (ap (λ (o : Option Candidate). option_map (λ (c : Candidate). c.index) o) f)
        ∙ e))
        (is_candidate s 0 s.releases best b.0) b.1
