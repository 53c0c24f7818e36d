-- The most urgent candidate is the one with the greatest rank, and of equal ones the first.
use Rattle.std.proofs.Common.{◌≡◌, ℕ, zero, suc, ◌+◌, ◌*◌, ◌<◌, ◌≤◌, ◌==◌, nat_lt, Bool, true, false, not, ◌&&◌, ◌||◌, List, [], ◌∷◌, ◌++◌, Option, None, Some, if◌then◌else◌, refl, sym, ap, ◌∙◌, subst, arith, inl, inr, ◌⊎◌}
use Rattle.std.specs.Prelude.{slice_get, option_to_list}
use Rattle.std.proofs.lemmas.Bool.Decides.{nat_tests}
use Rattle.scj_model.specs.Choice.{Candidate, is_more_urgent, most_urgent}
use Rattle.trace_audit.specs.declared.releases.Release.{Release}
use Rattle.trace_audit.specs.declared.releases.Standing.{Standing}
use Rattle.trace_audit.specs.declared.releases.Standing.TheVariants.{Waits, Started, Gone}
use Rattle.trace_audit.specs.Replay.{HandlerSeen, candidates_from, candidate_at, priority_at}
use Rattle.trace_audit.specs.Index.{rank_of}

pub some_inj : {A : Type 0} (x y : A) → Some x ≡ Some y → x ≡ y
some_inj x y e = cc (e)

-- ---- ranks of candidates

pub weight_of : ℕ → Bool → ℕ
weight_of p true = 2 * p + 1
weight_of p false = 2 * p

pub weight : Candidate → ℕ
weight c = weight_of c.priority c.is_started

pub urgent_by_weight : (p q : ℕ) (s t : Bool) →
    (nat_lt q p || ((p == q) && (s && not t))) ≡ nat_lt (weight_of q t) (weight_of p s)
unfolding weight_of
urgent_by_weight p q true true = grind (arith, nat_tests)
urgent_by_weight p q true false = grind (arith, nat_tests)
urgent_by_weight p q false true = grind (arith, nat_tests)
urgent_by_weight p q false false = grind (arith, nat_tests)

pub urgent_is : (later c : Candidate) → is_more_urgent later c ≡ nat_lt (weight c) (weight later)
unfolding weight
urgent_is later c = urgent_by_weight later.priority c.priority later.is_started c.is_started

-- a candidate of a release has its place and its rank; a release without one has no rank
pub record Stands (handlers : List HandlerSeen) (index : ℕ) (r : Release) (c : Candidate) : Type 0 where
  pub at : c.index ≡ index
  pub rank : rank_of handlers r ≡ Some (weight c)

pub data IsCandidate (handlers : List HandlerSeen) (index : ℕ) (r : Release) (o : Option Candidate) : Type 0 where
  one : (c : Candidate) → o ≡ Some c → Stands handlers index r c → IsCandidate handlers index r o
  no_one : o ≡ None → rank_of handlers r ≡ None → IsCandidate handlers index r o

pub candidate_cases : (handlers : List HandlerSeen) (index : ℕ) (r : Release) →
    IsCandidate handlers index r (candidate_at handlers index r)
unfolding weight weight_of
candidate_cases handlers index r = go r.standing refl
  where
    go : (s : Standing) → r.standing ≡ s → IsCandidate handlers index r (candidate_at handlers index r)
    go Waits e =
        let c : Candidate =
        record { index = index; priority = priority_at handlers r.handler; is_started = false } in
        one c (rw e refl) (record { at = refl; rank = rw e refl })
    go (Started p) e =
        let c : Candidate = record { index = index; priority = p; is_started = true } in
        one c (rw e refl) (record { at = refl; rank = rw e refl })
    go Gone e = no_one (rw e refl) (rw e refl)

-- ---- the most urgent one

-- the rank of a release is above that of each other one, or equal to it and the place is earlier
pub record IsBest (handlers : List HandlerSeen) (rs : List Release) (p rank : ℕ) : Type 0 where
  pub is : (q n : ℕ) (t : Release) → slice_get rs q ≡ Some t → rank_of handlers t ≡ Some n →
      (n < rank) ⊎ ((n ≡ rank) × (p ≤ q))

abbrev pub Later : Option Candidate → Candidate → Option Candidate
Later None c = Some c
Later (Some later) c = Some (if is_more_urgent later c then later else c)

-- a candidate first
pub most_urgent_with : (handlers : List HandlerSeen) (base : ℕ) (r : Release) (rs : List Release) (c : Candidate) →
    candidate_at handlers base r ≡ Some c → most_urgent (candidates_from handlers base (r ∷ rs))
    ≡ elim (most_urgent (candidates_from handlers (base + 1) rs)) as (λ _. Option Candidate) [
      | None ↦ Some c
      | Some later ↦ Some (if is_more_urgent later c then later else c)
    ]
unfolding candidates_from most_urgent
most_urgent_with handlers base r rs c e =
    ap (λ (o : Option Candidate). most_urgent (option_to_list o ++ candidates_from handlers (base + 1) rs)) e

-- none first
pub most_urgent_without : (handlers : List HandlerSeen) (base : ℕ) (r : Release) (rs : List Release) →
    candidate_at handlers base r ≡ None →
    most_urgent (candidates_from handlers base (r ∷ rs)) ≡ most_urgent (candidates_from handlers (base + 1) rs)
unfolding candidates_from
most_urgent_without handlers base r rs e =
    ap (λ (o : Option Candidate). most_urgent (option_to_list o ++ candidates_from handlers (base + 1) rs)) e

abbrev pub best_of : Option Candidate → Candidate → Option Candidate
best_of o c =
    elim o as (λ _. Option Candidate) [
      | None ↦ Some c
      | Some later ↦ Some (if is_more_urgent later c then later else c)
    ]

-- the most urgent one is the candidate of some release
pub record IsOf (handlers : List HandlerSeen) (rs : List Release) (c : Candidate) : Type 0 where
  pub index : ℕ
  pub release : Release
  pub there : slice_get rs index ≡ Some release
  pub rank : rank_of handlers release ≡ Some (weight c)

pub behind : (handlers : List HandlerSeen) (r : Release) (rs : List Release) (c : Candidate) → IsOf handlers rs c →
    IsOf handlers (r ∷ rs) c
behind handlers r rs c h =
    record { index = suc h.index; release = h.release; there = h.there; rank = h.rank }

pub nobody : (handlers : List HandlerSeen) (base : ℕ) (c : Candidate) →
    most_urgent (candidates_from handlers base []) ≡ Some c → ⊥
unfolding candidates_from most_urgent
nobody handlers base c e = cc (e)

pub is_of_first : (handlers : List HandlerSeen) (base : ℕ) (r : Release) (rs : List Release) (c : Candidate) →
    ((d : Candidate) → most_urgent (candidates_from handlers (base + 1) rs) ≡ Some d → IsOf handlers rs d) →
    most_urgent (candidates_from handlers base (r ∷ rs)) ≡ Some c → IsOf handlers (r ∷ rs) c
is_of_first handlers base r rs c more e = by_first (candidate_cases handlers base r)
  where
    by_more : (d : Candidate) → Stands handlers base r d → (o : Option Candidate) →
        most_urgent (candidates_from handlers (base + 1) rs) ≡ o → best_of o d ≡ Some c → IsOf handlers (r ∷ rs) c
    by_more d stands None f g =
        let same : d ≡ c = some_inj d c g in
        subst (λ (x : Candidate). IsOf handlers (r ∷ rs) x) same
        (record { index = 0; release = r; there = refl; rank = stands.rank })
    by_more d stands (Some later) f g = by_test (is_more_urgent later d) refl
      where
        by_test : (b : Bool) → is_more_urgent later d ≡ b → IsOf handlers (r ∷ rs) c
        by_test true t =
            let same : later ≡ c =
            some_inj later c (sym (ap (λ (b : Bool). Some (if b then later else d)) t) ∙ g) in
            subst (λ (x : Candidate). IsOf handlers (r ∷ rs) x) same (behind handlers r rs later (more later f))
        by_test false t =
            let same : d ≡ c = some_inj d c (sym (ap (λ (b : Bool). Some (if b then later else d)) t) ∙ g) in
            subst (λ (x : Candidate). IsOf handlers (r ∷ rs) x) same
            (record { index = 0; release = r; there = refl; rank = stands.rank })

    by_first : IsCandidate handlers base r (candidate_at handlers base r) → IsOf handlers (r ∷ rs) c
    by_first (one d f stands) =
        by_more d stands (most_urgent (candidates_from handlers (base + 1) rs)) refl
        (sym (most_urgent_with handlers base r rs d f) ∙ e)
    by_first (no_one f n) =
        behind handlers r rs c (more c (sym (most_urgent_without handlers base r rs f) ∙ e))

pub is_of_some : (handlers : List HandlerSeen) (base : ℕ) (rs : List Release) (c : Candidate) →
    most_urgent (candidates_from handlers base rs) ≡ Some c → IsOf handlers rs c
is_of_some handlers base [] c e = absurd (nobody handlers base c e)
is_of_some handlers base (r ∷ rs) c e =
    is_of_first handlers base r rs c (λ d f. is_of_some handlers (base + 1) rs d f) e

pub record Found (o : Option Candidate) (index rank : ℕ) : Type 0 where
  pub candidate : Candidate
  pub is : o ≡ Some candidate
  pub at : candidate.index ≡ index
  pub ranked : weight candidate ≡ rank

pub first_is_picked : (handlers : List HandlerSeen) (base : ℕ) (r0 : Release) (rs : List Release) (rank : ℕ) (r : Release) →
    Some r0 ≡ Some r → rank_of handlers r ≡ Some rank → IsBest handlers (r0 ∷ rs) 0 rank →
    Found (most_urgent (candidates_from handlers base (r0 ∷ rs))) (base + 0) rank
first_is_picked handlers base r0 rs rank r there ranked best = by_first (candidate_cases handlers base r0)
  where
    same : r0 ≡ r
    same = some_inj r0 r there

    first_rank : rank_of handlers r0 ≡ Some rank
    first_rank = ap (rank_of handlers) same ∙ ranked

    by_more : (d : Candidate) → candidate_at handlers base r0 ≡ Some d → Stands handlers base r0 d → (o : Option Candidate) →
        most_urgent (candidates_from handlers (base + 1) rs) ≡ o →
        Found (most_urgent (candidates_from handlers base (r0 ∷ rs))) (base + 0) rank
    by_more d f stands None g =
        record {
          candidate = d;
          is = most_urgent_with handlers base r0 rs d f ∙ ap (λ (o : Option Candidate). best_of o d) g;
          at = omega (arith, stands.at);
          ranked = some_inj _ _ (sym stands.rank ∙ first_rank);
        }
    by_more d f stands (Some later) g =
        let of : IsOf handlers rs later = is_of_some handlers (base + 1) rs later g in
        let w : weight d ≡ rank = some_inj _ _ (sym stands.rank ∙ first_rank) in
        let bound : (weight later < rank) ⊎ ((weight later ≡ rank) × (0 ≤ suc of.index)) =
        best.is (suc of.index) (weight later) of.release of.there of.rank in
        let no_more : is_more_urgent later d ≡ false = urgent_is later d ∙ less w bound in
        record {
          candidate = d;
          is = most_urgent_with handlers base r0 rs d f
              ∙ (ap (λ (o : Option Candidate). best_of o d) g
              ∙ ap (λ (b : Bool). Some (if b then later else d)) no_more);
          at = omega (arith, stands.at);
          ranked = w;
        }
      where
        less : weight d ≡ rank → (weight later < rank) ⊎ ((weight later ≡ rank) × (0 ≤ suc (is_of_some handlers (base + 1) rs later g).index)) →
            nat_lt (weight d) (weight later) ≡ false
        less w (inl b) = grind (arith, nat_tests, w, b)
        less w (inr b) = let e = b.0 in grind (arith, nat_tests, w, e)

    by_first : IsCandidate handlers base r0 (candidate_at handlers base r0) →
        Found (most_urgent (candidates_from handlers base (r0 ∷ rs))) (base + 0) rank
    by_first (one d f stands) =
        by_more d f stands (most_urgent (candidates_from handlers (base + 1) rs)) refl
    by_first (no_one f n) = absurd (cc (n, first_rank))

pub best_behind : (handlers : List HandlerSeen) (r0 : Release) (rs : List Release) (p rank : ℕ) →
    IsBest handlers (r0 ∷ rs) (suc p) rank → IsBest handlers rs p rank
best_behind handlers r0 rs p rank best = record { is = λ q n t e f. less q n (best.is (suc q) n t e f) }
  where
    less : (q n : ℕ) → (n < rank) ⊎ ((n ≡ rank) × (suc p ≤ suc q)) → (n < rank) ⊎ ((n ≡ rank) × (p ≤ q))
    less q n (inl h) = inl h
    less q n (inr h) = let k = h.1 in inr (h.0, omega (arith, k))

pub later_is_picked : (handlers : List HandlerSeen) (base : ℕ) (r0 : Release) (rs : List Release) (p rank : ℕ) →
    IsBest handlers (r0 ∷ rs) (suc p) rank →
    Found (most_urgent (candidates_from handlers (base + 1) rs)) (base + 1 + p) rank →
    Found (most_urgent (candidates_from handlers base (r0 ∷ rs))) (base + suc p) rank
later_is_picked handlers base r0 rs p rank best more = by_first (candidate_cases handlers base r0)
  where
    at_place : more.candidate.index ≡ base + suc p
    at_place = let e = more.at in omega (arith, e)

    by_first : IsCandidate handlers base r0 (candidate_at handlers base r0) →
        Found (most_urgent (candidates_from handlers base (r0 ∷ rs))) (base + suc p) rank
    by_first (one d f stands) =
        let above : is_more_urgent more.candidate d ≡ true =
        urgent_is more.candidate d ∙ over (best.is 0 (weight d) r0 refl stands.rank) in
        record {
          candidate = more.candidate;
          is = most_urgent_with handlers base r0 rs d f
              ∙ (ap (λ (o : Option Candidate). best_of o d) more.is
              ∙ ap (λ (b : Bool). Some (if b then more.candidate else d)) above);
          at = at_place;
          ranked = more.ranked;
        }
      where
        over : (weight d < rank) ⊎ ((weight d ≡ rank) × (suc p ≤ 0)) →
            nat_lt (weight d) (weight more.candidate) ≡ true
        over (inl h) = let w = more.ranked in grind (arith, nat_tests, w, h)
        over (inr h) = let k = h.1 in absurd (omega (arith, k))
    by_first (no_one f n) =
        record {
          candidate = more.candidate;
          is = most_urgent_without handlers base r0 rs f ∙ more.is;
          at = at_place;
          ranked = more.ranked;
        }

pub best_is_picked : (handlers : List HandlerSeen) (base : ℕ) (rs : List Release) (p rank : ℕ) (r : Release) →
    slice_get rs p ≡ Some r → rank_of handlers r ≡ Some rank → IsBest handlers rs p rank →
    Found (most_urgent (candidates_from handlers base rs)) (base + p) rank
best_is_picked handlers base [] p rank r there ranked best = absurd (cc (there))
best_is_picked handlers base (r0 ∷ rs) zero rank r there ranked best =
    first_is_picked handlers base r0 rs rank r there ranked best
best_is_picked handlers base (r0 ∷ rs) (suc p) rank r there ranked best =
    later_is_picked handlers base r0 rs p rank best
    (best_is_picked handlers (base + 1) rs p rank r there ranked (best_behind handlers r0 rs p rank best))
