-- Arrivals don't change the choice but to what arrived: where the most urgent candidate is an old one, it was the most
-- urgent one before.
use Rattle.std.proofs.Common.{◌≡◌, ℕ, zero, suc, ◌+◌, ◌≤◌, ◌<◌, nat_lt, Bool, true, false, List, [], ◌∷◌, ◌++◌, length, ◌⊎◌, inl, inr, Option, Some, None, if◌then◌else◌, refl, sym, ap, ◌∙◌, subst, arith}
use Rattle.std.specs.Prelude.{option_map, option_to_list, slice_get}
use Rattle.std.proofs.lemmas.Bool.Decides.{nat_tests}
use Rattle.std.proofs.lemmas.List.{append_assoc}
use Rattle.scj_model.specs.declared.handlers.HandlerRow.{HandlerRow}
use Rattle.scj_model.specs.State.{ReleaseStatus, Waits, Started, Ended, Dropped, Release, State}
use Rattle.scj_model.specs.Choice.{Candidate, candidate, candidates, candidates_from, chosen, handler_priority, is_more_urgent, most_urgent}
use Rattle.scj_model.specs.Registry.{handler_row}
use Rattle.trace_audit.proofs.Urgent.{urgent_is, weight}
use Rattle.accepted_laws.proofs.Tools.{some_inj}

-- ---- the most urgent one of a list

abbrev of_two : Option Candidate → Candidate → Option Candidate
of_two o c =
    elim o as (λ _. Option Candidate) [ None ↦ Some c | Some later ↦ Some (if is_more_urgent later c then later else c) ]

most_more : (c : Candidate) (cs : List Candidate) → most_urgent (c ∷ cs) ≡ of_two (most_urgent cs) c
unfolding most_urgent
most_more c cs = refl

most_nothing : most_urgent [] ≡ None
unfolding most_urgent
most_nothing = refl

pub none_there : (cs : List Candidate) → most_urgent cs ≡ None → cs ≡ []
none_there [] e = refl
none_there (c ∷ cs) e = absurd (go (most_urgent cs) (sym (most_more c cs) ∙ e))
  where
    go : (o : Option Candidate) → of_two o c ≡ None → ⊥
    go None e = cc (e)
    go (Some later) e = cc (e)

-- who is the most urgent of two
record Greater (later c best : Candidate) : Type 0 where
  of_later : weight later ≤ weight best
  of_first : weight c ≤ weight best
  is_one : (best ≡ later) ⊎ (best ≡ c)

greater : (later c : Candidate) → Greater later c (if is_more_urgent later c then later else c)
greater later c = go (is_more_urgent later c) (urgent_is later c)
  where
    go : (b : Bool) → b ≡ nat_lt (weight c) (weight later) → Greater later c (if b then later else c)
    go true e = record { of_later = omega arith; of_first = over e; is_one = inl refl }
      where
        over : true ≡ nat_lt (weight c) (weight later) → weight c ≤ weight later
        over f = grind (arith, nat_tests, f)
    go false e = record { of_later = under e; of_first = omega arith; is_one = inr refl }
      where
        under : false ≡ nat_lt (weight c) (weight later) → weight later ≤ weight c
        under f = grind (arith, nat_tests, f)

-- each is at most as urgent as the most urgent one
at_most : (cs : List Candidate) (i : ℕ) (c best : Candidate) → most_urgent cs ≡ Some best → slice_get cs i ≡ Some c →
    weight c ≤ weight best
at_most [] i c best e there = absurd (cc (there))
at_most (x ∷ cs) i c best e there =
    go (most_urgent cs) refl (sym (most_more x cs) ∙ e) i there (λ b f j g. at_most cs j c b f g)
  where
    go : (o : Option Candidate) → most_urgent cs ≡ o → of_two o x ≡ Some best → (i : ℕ) →
        slice_get (x ∷ cs) i ≡ Some c →
        ((b : Candidate) → most_urgent cs ≡ Some b → (j : ℕ) → slice_get cs j ≡ Some c → weight c ≤ weight b) →
        weight c ≤ weight best
    go None f h zero there more =
        let a : x ≡ best = some_inj x best h in
        let b : x ≡ c = some_inj x c there in
        let same : weight c ≡ weight best = ap weight (sym b ∙ a) in
        omega (arith, same)
    go None f h (suc j) there more =
        let none : cs ≡ [] = none_there cs f in
        absurd (cc (there, ap (λ xs. slice_get xs j) none))
    go (Some later) f h zero there more =
        let g : Greater later x (if is_more_urgent later x then later else x) = greater later x in
        let same : (if is_more_urgent later x then later else x) ≡ best = some_inj _ best h in
        let b : x ≡ c = some_inj x c there in
        subst (λ y. weight y ≤ weight best) b (subst (λ y. weight x ≤ weight y) same g.of_first)
    go (Some later) f h (suc j) there more =
        let g : Greater later x (if is_more_urgent later x then later else x) = greater later x in
        let same : (if is_more_urgent later x then later else x) ≡ best = some_inj _ best h in
        let a : weight later ≤ weight best = subst (λ y. weight later ≤ weight y) same g.of_later in
        let b : weight c ≤ weight later = more later f j there in
        omega (arith, a, b)

-- and the most urgent one is one of them
record IsOne (cs : List Candidate) (c : Candidate) : Type 0 where
  i : ℕ
  there : slice_get cs i ≡ Some c

is_one_of : (cs : List Candidate) (best : Candidate) → most_urgent cs ≡ Some best → IsOne cs best
is_one_of [] best e = absurd (cc (e, most_nothing))
is_one_of (x ∷ cs) best e =
    go (most_urgent cs) refl (sym (most_more x cs) ∙ e) (λ b f. is_one_of cs b f)
  where
    first : x ≡ best → IsOne (x ∷ cs) best
    first same = record { i = 0; there = ap (λ y. Some y) same }

    go : (o : Option Candidate) → most_urgent cs ≡ o → of_two o x ≡ Some best →
        ((b : Candidate) → most_urgent cs ≡ Some b → IsOne cs b) → IsOne (x ∷ cs) best
    go None f h more = first (some_inj x best h)
    go (Some later) f h more = by (greater later x).is_one
      where
        same : (if is_more_urgent later x then later else x) ≡ best
        same = some_inj _ best h

        by : ((if is_more_urgent later x then later else x) ≡ later) ⊎ ((if is_more_urgent later x then later else x) ≡ x) →
            IsOne (x ∷ cs) best
        by (inl k) =
            let l : IsOne cs later = more later f in
            record { i = suc l.i; there = l.there ∙ ap (λ y. Some y) (sym k ∙ same) }
        by (inr k) = first (sym k ∙ same)

get_first : (cs ds : List Candidate) (i : ℕ) (c : Candidate) → slice_get cs i ≡ Some c →
    slice_get (cs ++ ds) i ≡ Some c
get_first [] ds i c e = absurd (cc (e))
get_first (x ∷ cs) ds zero c e = e
get_first (x ∷ cs) ds (suc i) c e = get_first cs ds i c e

-- ---- an old one that is the most urgent of old and new ones

append_nothing : (cs ds : List Candidate) → cs ++ ds ≡ [] → cs ≡ []
append_nothing [] ds e = refl
append_nothing (c ∷ cs) ds e = absurd (cc (e))

urgent_by : (l m x : Candidate) → is_more_urgent l x ≡ false → weight m ≤ weight l → is_more_urgent m x ≡ false
urgent_by l m x e h =
    urgent_is m x ∙ go (sym (urgent_is l x) ∙ e)
  where
    go : nat_lt (weight x) (weight l) ≡ false → nat_lt (weight x) (weight m) ≡ false
    go f = grind (arith, nat_tests, f, h)

pub was_most_urgent : (n : ℕ) (cs ds : List Candidate) →
    ((i : ℕ) (d : Candidate) → slice_get ds i ≡ Some d → n ≤ d.index) → (best : Candidate) →
    most_urgent (cs ++ ds) ≡ Some best → best.index < n → most_urgent cs ≡ Some best
was_most_urgent n [] ds late best e l =
    let k : IsOne ds best = is_one_of ds best e in
    let a : n ≤ best.index = late k.i best k.there in
    absurd (omega (arith, a, l))
was_most_urgent n (x ∷ cs) ds late best e l =
    most_more x cs
    ∙ go (most_urgent (cs ++ ds)) refl (sym (most_more x (cs ++ ds)) ∙ e)
    (λ b f k. was_most_urgent n cs ds late b f k)
  where
    go : (o : Option Candidate) → most_urgent (cs ++ ds) ≡ o → of_two o x ≡ Some best →
        ((b : Candidate) → most_urgent (cs ++ ds) ≡ Some b → b.index < n → most_urgent cs ≡ Some b) →
        of_two (most_urgent cs) x ≡ Some best
    go None f h more =
        let none : most_urgent cs ≡ None =
        ap most_urgent (append_nothing cs ds (none_there (cs ++ ds) f)) ∙ most_nothing in
        ap (λ o. of_two o x) none ∙ h
    go (Some later) f h more = by (is_more_urgent later x) refl
      where
        by : (b : Bool) → is_more_urgent later x ≡ b → of_two (most_urgent cs) x ≡ Some best
        by true t =
            let same : later ≡ best =
            some_inj later best (sym (ap (λ b. Some (if b then later else x)) t) ∙ h) in
            ap (λ o. of_two o x) (more later f (subst (λ (y : Candidate). y.index < n) (sym same) l)) ∙ h
        by false t = old (most_urgent cs) refl
          where
            same : x ≡ best
            same = some_inj x best (sym (ap (λ b. Some (if b then later else x)) t) ∙ h)

            old : (o : Option Candidate) → most_urgent cs ≡ o → of_two (most_urgent cs) x ≡ Some best
            old None g = ap (λ o. of_two o x) g ∙ ap (λ y. Some y) same
            old (Some m) g =
                let k : IsOne cs m = is_one_of cs m g in
                let w : weight m ≤ weight later = at_most (cs ++ ds) k.i m later f (get_first cs ds k.i m k.there) in
                ap (λ o. of_two o x) g
                ∙ (ap (λ b. Some (if b then m else x)) (urgent_by later m x t w) ∙ ap (λ y. Some y) same)

-- ---- candidates of a list with more behind it

pub candidates_more : (s : State) (first : ℕ) (rs more : List Release) →
    candidates_from s first (rs ++ more) ≡ candidates_from s first rs ++ candidates_from s (first + length rs) more
unfolding candidates_from
candidates_more s first [] more =
    let e : first ≡ first + 0 = omega arith in ap (λ n. candidates_from s n more) e
candidates_more s first (r ∷ rs) more =
    ap (λ cs. option_to_list (candidate s first r) ++ cs) (candidates_more s (first + 1) rs more)
    ∙ (sym (append_assoc (option_to_list (candidate s first r)) (candidates_from s (first + 1) rs)
    (candidates_from s (first + 1 + length rs) more))
    ∙ (let e : first + 1 + length rs ≡ first + suc (length rs) = omega arith in
    ap (λ n. (option_to_list (candidate s first r) ++ candidates_from s (first + 1) rs) ++ candidates_from s n more) e))

same_candidate : (s t : State) → t.registry ≡ s.registry → (index : ℕ) (r : Release) →
    candidate t index r ≡ candidate s index r
unfolding candidate
same_candidate s t same index r = go r.status
  where
    priority : handler_priority t r.handler ≡ handler_priority s r.handler
    priority = ap (λ (rows : List HandlerRow). elim (handler_row rows r.handler) as (λ _. ℕ) [ None ↦ 0 | Some row ↦ row.priority ]) same

    go : (status : ReleaseStatus) →
        elim status as (λ _. Option Candidate) [
          | Waits ↦ Some (record { index = index; priority = handler_priority t r.handler; is_started = false })
          | Started activity ↦ Some (record { index = index; priority = activity.priority; is_started = true })
          | Ended ↦ None
          | Dropped ↦ None
        ]
        ≡ elim status as (λ _. Option Candidate) [
          | Waits ↦ Some (record { index = index; priority = handler_priority s r.handler; is_started = false })
          | Started activity ↦ Some (record { index = index; priority = activity.priority; is_started = true })
          | Ended ↦ None
          | Dropped ↦ None
        ]
    go Waits = ap (λ p. Some (record { index = index; priority = p; is_started = false })) priority
    go (Started a) = refl
    go Ended = refl
    go Dropped = refl

same_candidates : (s t : State) → t.registry ≡ s.registry → (first : ℕ) (rs : List Release) →
    candidates_from t first rs ≡ candidates_from s first rs
unfolding candidates_from
same_candidates s t same first [] = refl
same_candidates s t same first (r ∷ rs) =
    ap (λ o. option_to_list o ++ candidates_from t (first + 1) rs) (same_candidate s t same first r)
    ∙ ap (λ cs. option_to_list (candidate s first r) ++ cs) (same_candidates s t same (first + 1) rs)

placed : (s : State) (q : ℕ) (r : Release) (c : Candidate) → candidate s q r ≡ Some c → c.index ≡ q
unfolding candidate
placed s q r c e = go r.status e
  where
    go : (status : ReleaseStatus) →
        elim status as (λ _. Option Candidate) [
          | Waits ↦ Some (record { index = q; priority = handler_priority s r.handler; is_started = false })
          | Started activity ↦ Some (record { index = q; priority = activity.priority; is_started = true })
          | Ended ↦ None
          | Dropped ↦ None
        ] ≡ Some c → c.index ≡ q
    go Waits f = ap (λ (x : Candidate). x.index) (sym (some_inj _ c f))
    go (Started a) f = ap (λ (x : Candidate). x.index) (sym (some_inj _ c f))
    go Ended f = absurd (cc (f))
    go Dropped f = absurd (cc (f))

are_late : (s : State) (first : ℕ) (rs : List Release) (i : ℕ) (d : Candidate) →
    slice_get (candidates_from s first rs) i ≡ Some d → first ≤ d.index
unfolding candidates_from
are_late s first [] i d e = absurd (cc (e))
are_late s first (r ∷ rs) i d e = go (candidate s first r) refl i e (λ j f. are_late s (first + 1) rs j d f)
  where
    go : (o : Option Candidate) → candidate s first r ≡ o → (i : ℕ) →
        slice_get (option_to_list o ++ candidates_from s (first + 1) rs) i ≡ Some d →
        ((j : ℕ) → slice_get (candidates_from s (first + 1) rs) j ≡ Some d → first + 1 ≤ d.index) → first ≤ d.index
    go None f i e more = let a : first + 1 ≤ d.index = more i e in omega (arith, a)
    go (Some c) f zero e more =
        let a : c.index ≡ first = placed s first r c f in
        let b : c ≡ d = some_inj c d e in
        let same : c.index ≡ d.index = ap (λ (x : Candidate). x.index) b in
        omega (arith, a, same)
    go (Some c) f (suc i) e more = let a : first + 1 ≤ d.index = more i e in omega (arith, a)

-- ---- the choice before arrivals

module _ (s t : State) (more : List Release) (registry : t.registry ≡ s.registry)
    (releases : t.releases ≡ s.releases ++ more) where
  both : candidates t ≡ candidates s ++ candidates_from t (length s.releases) more
  unfolding candidates
  both =
      ap (candidates_from t 0) releases
      ∙ (candidates_more t 0 s.releases more
      ∙ (ap (λ cs. cs ++ candidates_from t (0 + length s.releases) more)
      (same_candidates s t registry 0 s.releases)
      ∙ (let e : 0 + length s.releases ≡ length s.releases = omega arith in
      ap (λ n. candidates_from s 0 s.releases ++ candidates_from t n more) e)))

  pub none_was_chosen : chosen t ≡ None → chosen s ≡ None
  unfolding chosen
  none_was_chosen e = by (most_urgent (candidates t)) refl
    where
      by : (o : Option Candidate) → most_urgent (candidates t) ≡ o →
          option_map (λ (c : Candidate). c.index) (most_urgent (candidates s)) ≡ None
      by None f =
          let none : candidates s ++ candidates_from t (length s.releases) more ≡ [] =
          sym both ∙ none_there (candidates t) f in
          ap (λ cs. option_map (λ (c : Candidate). c.index) (most_urgent cs))
          (append_nothing (candidates s) (candidates_from t (length s.releases) more) none)
          ∙ ap (option_map (λ (c : Candidate). c.index)) most_nothing
      by (Some c) f = absurd (cc (e, ap (option_map (λ (c : Candidate). c.index)) f))

  pub was_chosen : (index : ℕ) → index < length s.releases → chosen t ≡ Some index → chosen s ≡ Some index
  unfolding chosen
  was_chosen index l e = by (most_urgent (candidates t)) refl
    where
      by : (o : Option Candidate) → most_urgent (candidates t) ≡ o →
          option_map (λ (c : Candidate). c.index) (most_urgent (candidates s)) ≡ Some index
      by None f = absurd (cc (e, ap (option_map (λ (c : Candidate). c.index)) f))
      by (Some c) f =
          let at : c.index ≡ index =
          some_inj c.index index (sym (ap (option_map (λ (c : Candidate). c.index)) f) ∙ e) in
          ap (option_map (λ (c : Candidate). c.index))
          (was_most_urgent (length s.releases) (candidates s) (candidates_from t (length s.releases) more)
          (are_late t (length s.releases) more) c (sym (ap most_urgent both) ∙ f)
          (subst (λ n. n < length s.releases) (sym at) l))
          ∙ ap (λ n. Some n) at
