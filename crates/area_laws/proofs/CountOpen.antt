-- How many areas are open, where each of them stands on a list.
use Rattle.std.specs.Prelude.{Option, Some, cond, filter, filter_map, flat_map, not, option_map, option_to_list, slice_get, if◌then◌else◌, ◌==◌}
use Rattle.std.specs.List.{cons_option}
use Rattle.std.proofs.Common.{◌≡◌, ◌∙◌, Bool, true, false, ℕ, zero, suc, ◌+◌, ◌*◌, ◌<◌, ◌≤◌, List, [], ◌∷◌, ◌++◌, None, length, ◌⊎◌, inl, inr, refl, ap, sym, subst, arith, length-append}
use Rattle.scj_rules.specs.Words.{is_among}
use Rattle.scj_model.specs.State.{Activity, Frame, MemoryArea, Release, activity_in}
use Rattle.accepted_laws.proofs.Tools.{some_inj}
use Rattle.priority_laws.specs.Nesting.{opened_by}
use Rattle.priority_laws.specs.Started.{StartedRelease, started_as, started_at, started_in}
use Rattle.priority_laws.proofs.AreaLists.{among_cases, among_here, among_later, among_left, among_right, bool_cases, other_number, same_number}
use Rattle.run_sizes.proofs.DeepSteps.{RowsAreFew}

-- ---- a list without a number

abbrev besides : ℕ → List ℕ → List ℕ
besides n xs = filter (λ b. not (b == n)) xs

-- what follows on the first element, by whether it is the number
first : (n x : ℕ) (xs : List ℕ) (c : Bool) → (x == n) ≡ c →
    besides n (x ∷ xs) ≡ (if not c then x ∷ besides n xs else besides n xs)
first n x xs c e = ap (λ (d : Bool). if not d then x ∷ besides n xs else besides n xs) e

stays : (n b : ℕ) (xs : List ℕ) → (b ≡ n → ⊥) → is_among b xs ≡ true → is_among b (besides n xs) ≡ true
stays n b [] d m = absurd (cc (m))
stays n b (x ∷ xs) d m = go (bool_cases (x == n)) (among_cases b x xs m) (stays n b xs d)
  where
    go : ((x == n) ≡ true) ⊎ ((x == n) ≡ false) → (b ≡ x) ⊎ (is_among b xs ≡ true) →
        (is_among b xs ≡ true → is_among b (besides n xs) ≡ true) → is_among b (besides n (x ∷ xs)) ≡ true
    go (inl t) (inl e) more = absurd (d (e ∙ same_number x n t))
    go (inl t) (inr k) more = subst (λ (ys : List ℕ). is_among b ys ≡ true) (sym (first n x xs true t)) (more k)
    go (inr f) (inl e) more =
        subst (λ (ys : List ℕ). is_among b ys ≡ true) (sym (first n x xs false f))
        (subst (λ (c : ℕ). is_among c (x ∷ besides n xs) ≡ true) (sym e) (among_here x (besides n xs)))
    go (inr f) (inr k) more =
        subst (λ (ys : List ℕ). is_among b ys ≡ true) (sym (first n x xs false f))
        (among_later b x (besides n xs) (more k))

no_longer : (n : ℕ) (xs : List ℕ) → length (besides n xs) ≤ length xs
no_longer n [] = omega arith
no_longer n (x ∷ xs) = go (bool_cases (x == n)) (no_longer n xs)
  where
    go : ((x == n) ≡ true) ⊎ ((x == n) ≡ false) → length (besides n xs) ≤ length xs →
        length (besides n (x ∷ xs)) ≤ length (x ∷ xs)
    go (inl t) h = let e = ap (λ (ys : List ℕ). length ys) (first n x xs true t) in omega (arith, e, h)
    go (inr f) h = let e = ap (λ (ys : List ℕ). length ys) (first n x xs false f) in omega (arith, e, h)

one_less : (n : ℕ) (xs : List ℕ) → is_among n xs ≡ true → suc (length (besides n xs)) ≤ length xs
one_less n [] m = absurd (cc (m))
one_less n (x ∷ xs) m = go (bool_cases (x == n)) (among_cases n x xs m) (one_less n xs)
  where
    go : ((x == n) ≡ true) ⊎ ((x == n) ≡ false) → (n ≡ x) ⊎ (is_among n xs ≡ true) →
        (is_among n xs ≡ true → suc (length (besides n xs)) ≤ length xs) →
        suc (length (besides n (x ∷ xs))) ≤ length (x ∷ xs)
    go (inl t) c more =
        let e = ap (λ (ys : List ℕ). length ys) (first n x xs true t) in
        let h : length (besides n xs) ≤ length xs = no_longer n xs in
        omega (arith, e, h)
    go (inr f) (inl s) more = absurd (other_number x n f (sym s))
    go (inr f) (inr k) more =
        let e = ap (λ (ys : List ℕ). length ys) (first n x xs false f) in
        let h : suc (length (besides n xs)) ≤ length xs = more k in
        omega (arith, e, h)

-- ---- the open ones of areas, numbered from n on

pub open_few : (areas : List MemoryArea) (n : ℕ) (xs : List ℕ) →
    ((i : ℕ) (x : MemoryArea) → slice_get areas i ≡ Some x → x.is_open ≡ true → is_among (n + i) xs ≡ true) →
    length (filter (λ (x : MemoryArea). x.is_open) areas) ≤ length xs
open_few [] n xs h = omega arith
open_few (x ∷ areas) n xs h = go x.is_open refl (λ ys k. open_few areas (n + 1) ys k)
  where
    next : (i : ℕ) → n + suc i ≡ n + 1 + i
    next i = omega arith

    go : (b : Bool) → x.is_open ≡ b →
        ((ys : List ℕ) → ((i : ℕ) (y : MemoryArea) → slice_get areas i ≡ Some y → y.is_open ≡ true →
        is_among (n + 1 + i) ys ≡ true) → length (filter (λ (y : MemoryArea). y.is_open) areas) ≤ length ys) →
        length (filter (λ (y : MemoryArea). y.is_open) (x ∷ areas)) ≤ length xs
    go false e more =
        let k : length (filter (λ (y : MemoryArea). y.is_open) areas) ≤ length xs =
        more xs (λ i y g t. subst (λ (m : ℕ). is_among m xs ≡ true) (next i) (h (suc i) y g t)) in
        let c : length (filter (λ (y : MemoryArea). y.is_open) (x ∷ areas))
        ≡ length (filter (λ (y : MemoryArea). y.is_open) areas) =
        ap (λ (b : Bool). length (cond b (x ∷ filter (λ (y : MemoryArea). y.is_open) areas) (filter (λ (y : MemoryArea).
        y.is_open) areas))) e in
        omega (arith, k, c)
    go true e more =
        let zero_on : n + 0 ≡ n = omega arith in
        let here : is_among n xs ≡ true = subst (λ (m : ℕ). is_among m xs ≡ true) zero_on (h 0 x refl e) in
        let k : length (filter (λ (y : MemoryArea). y.is_open) areas) ≤ length (besides n xs) =
        more (besides n xs) (λ i y g t.
        stays n (n + 1 + i) xs (λ s. omega (arith, s))
        (subst (λ (m : ℕ). is_among m xs ≡ true) (next i) (h (suc i) y g t))) in
        let c : length (filter (λ (y : MemoryArea). y.is_open) (x ∷ areas))
        ≡ suc (length (filter (λ (y : MemoryArea). y.is_open) areas)) =
        ap (λ (b : Bool). length (cond b (x ∷ filter (λ (y : MemoryArea). y.is_open) areas) (filter (λ (y : MemoryArea).
        y.is_open) areas))) e in
        let l : suc (length (besides n xs)) ≤ length xs = one_less n xs here in
        omega (arith, k, c, l)

-- ---- what started releases opened

abbrev pub opened_of : List Release → List ℕ
opened_of rs = flat_map (λ (a : Activity). opened_by a.frames) (filter_map (λ (r : Release). activity_in r.status) rs)

pub opened_among : (rs : List Release) (p : ℕ) (w : StartedRelease) (b : ℕ) → started_at rs p ≡ Some w →
    is_among b (opened_by w.activity.frames) ≡ true → is_among b (opened_of rs) ≡ true
unfolding started_at started_in
opened_among [] p w b e m = absurd (cc)
opened_among (r ∷ rs) zero w b e m = go (activity_in r.status) e
  where
    go : (o : Option Activity) → option_map (started_as r.handler) o ≡ Some w →
        is_among b (flat_map (λ (a : Activity). opened_by a.frames)
        (cons_option o (filter_map (λ (q : Release). activity_in q.status) rs))) ≡ true
    go None f = absurd (cc)
    go (Some a) f =
        let same : started_as r.handler a ≡ w = some_inj (started_as r.handler a) w f in
        let act : w.activity ≡ a = ap (λ (x : StartedRelease). x.activity) (sym same) in
        among_left b (opened_by a.frames) (opened_of rs)
        (subst (λ (x : Activity). is_among b (opened_by x.frames) ≡ true) act m)
opened_among (r ∷ rs) (suc p) w b e m = go (activity_in r.status) (opened_among rs p w b e m)
  where
    go : (o : Option Activity) → is_among b (opened_of rs) ≡ true →
        is_among b (flat_map (λ (a : Activity). opened_by a.frames)
        (cons_option o (filter_map (λ (q : Release). activity_in q.status) rs))) ≡ true
    go None k = k
    go (Some a) k = among_right b (opened_by a.frames) (opened_of rs) k

pub few_opened : (fs : List Frame) → length (opened_by fs) ≤ length fs
few_opened [] = omega arith
few_opened (f ∷ fs) = go f.opened (few_opened fs)
  where
    go : (o : Option ℕ) → length (opened_by fs) ≤ length fs →
        length (option_to_list o ++ opened_by fs) ≤ length (f ∷ fs)
    go None h = omega (arith, h)
    go (Some a) h = omega (arith, h)

pub opened_at_most : (rs : List Release) → RowsAreFew rs →
    length (opened_of rs) ≤ 64 * length (filter_map (λ (r : Release). activity_in r.status) rs)
opened_at_most [] h = omega arith
opened_at_most (r ∷ rs) h = go (activity_in r.status) h.0 (opened_at_most rs h.1)
  where
    go : (o : Option Activity) → ((a : Activity) → o ≡ Some a → length a.frames ≤ 64) →
        length (opened_of rs) ≤ 64 * length (filter_map (λ (q : Release). activity_in q.status) rs) →
        length (flat_map (λ (a : Activity). opened_by a.frames)
        (cons_option o (filter_map (λ (q : Release). activity_in q.status) rs)))
        ≤ 64 * length (cons_option o (filter_map (λ (q : Release). activity_in q.status) rs))
    go None few k = k
    go (Some a) few k =
        let own : length (opened_by a.frames) ≤ length a.frames = few_opened a.frames in
        let depth : length a.frames ≤ 64 = few a refl in
        let all : length (opened_by a.frames ++ opened_of rs) ≡ length (opened_by a.frames) + length (opened_of rs) =
        length-append (opened_by a.frames) (opened_of rs) in
        omega (arith, own, depth, all, k)

-- one of them has fewer frames than it may have
pub opened_fewer : (rs : List Release) (p : ℕ) (w : StartedRelease) → RowsAreFew rs → started_at rs p ≡ Some w →
    length w.activity.frames < 64 →
    suc (length (opened_of rs)) ≤ 64 * length (filter_map (λ (r : Release). activity_in r.status) rs)
unfolding started_at started_in
opened_fewer [] p w h e fewer = absurd (cc)
opened_fewer (r ∷ rs) zero w h e fewer = go (activity_in r.status) e (opened_at_most rs h.1)
  where
    go : (o : Option Activity) → option_map (started_as r.handler) o ≡ Some w →
        length (opened_of rs) ≤ 64 * length (filter_map (λ (q : Release). activity_in q.status) rs) →
        suc (length (flat_map (λ (a : Activity). opened_by a.frames)
        (cons_option o (filter_map (λ (q : Release). activity_in q.status) rs))))
        ≤ 64 * length (cons_option o (filter_map (λ (q : Release). activity_in q.status) rs))
    go None f k = absurd (cc)
    go (Some a) f k =
        let same : started_as r.handler a ≡ w = some_inj (started_as r.handler a) w f in
        let act : a ≡ w.activity = ap (λ (x : StartedRelease). x.activity) same in
        let frames : length a.frames ≡ length w.activity.frames = ap (λ (x : Activity). length x.frames) act in
        let own : length (opened_by a.frames) ≤ length a.frames = few_opened a.frames in
        let all : length (opened_by a.frames ++ opened_of rs) ≡ length (opened_by a.frames) + length (opened_of rs) =
        length-append (opened_by a.frames) (opened_of rs) in
        omega (arith, frames, own, fewer, all, k)
opened_fewer (r ∷ rs) (suc p) w h e fewer = go (activity_in r.status) h.0 (opened_fewer rs p w h.1 e fewer)
  where
    go : (o : Option Activity) → ((a : Activity) → o ≡ Some a → length a.frames ≤ 64) →
        suc (length (opened_of rs)) ≤ 64 * length (filter_map (λ (q : Release). activity_in q.status) rs) →
        suc (length (flat_map (λ (a : Activity). opened_by a.frames)
        (cons_option o (filter_map (λ (q : Release). activity_in q.status) rs))))
        ≤ 64 * length (cons_option o (filter_map (λ (q : Release). activity_in q.status) rs))
    go None few k = k
    go (Some a) few k =
        let own : length (opened_by a.frames) ≤ length a.frames = few_opened a.frames in
        let depth : length a.frames ≤ 64 = few a refl in
        let all : length (opened_by a.frames ++ opened_of rs) ≡ length (opened_by a.frames) + length (opened_of rs) =
        length-append (opened_by a.frames) (opened_of rs) in
        omega (arith, own, depth, all, k)
