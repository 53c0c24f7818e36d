-- The releases that the lines of a mission tell of: each handler's are counted, and no two have the same name.
use Rattle.std.proofs.Common.{◌≡◌, ℕ, zero, suc, ◌+◌, ◌≤◌, ◌==◌, Bool, true, false, List, [], ◌∷◌, ◌++◌, length, get_or, ◌⊎◌, inl, inr, Option, Some, None, refl, sym, ap, ◌∙◌, subst, arith}
use Rattle.std.specs.Prelude.{filter, slice_get, position}
use Rattle.std.proofs.lemmas.Bool.Decides.{nat_tests}
use Rattle.std.proofs.lemmas.List.Quantifiers.{position-Some}
use Rattle.std.proofs.lemmas.Option.{slice_get-get_or}
use Rattle.accepted_laws.proofs.Positions.{position_least}
use Rattle.scj_model.specs.State.{changed}
use Rattle.trace_audit.specs.declared.releases.Release.{Release}
use Rattle.trace_audit.specs.declared.releases.Standing.{Standing}
use Rattle.trace_audit.specs.declared.releases.Standing.TheVariants.{Waits}
use Rattle.trace_audit.specs.Replay.{HandlerSeen, Releases, is_named, one_more, index_of, release_named, restanding}
use Rattle.audited_runs.proofs.Changes.{AtChanged, is_changed, is_kept, at_changed, count_changed, count_else, count_more}
use Rattle.accepted_laws.proofs.Tools.{some_inj}
use Rattle.priority_laws.proofs.AreaLists.{number_cases, same_test}

-- a release of this handler
abbrev pub is_of : ℕ → Release → Bool
is_of handler r = r.handler == handler

-- how many releases a handler has
abbrev pub count_of : ℕ → List Release → ℕ
count_of handler rs = length (filter (is_of handler) rs)

-- each handler has as many releases as arrived; no two releases have the same name, and no number is above the count
pub record AreNamed (handlers : List HandlerSeen) (rs : List Release) : Type 0 where
  pub counted : (k : ℕ) (h : HandlerSeen) → slice_get handlers k ≡ Some h → h.arrived ≡ count_of (suc k) rs
  pub once : (p q : ℕ) (x y : Release) → slice_get rs p ≡ Some x → slice_get rs q ≡ Some y →
      x.handler ≡ y.handler → x.number ≡ y.number → p ≡ q
  pub below : (p : ℕ) (x : Release) → slice_get rs p ≡ Some x → x.number ≤ count_of x.handler rs

abbrev pub Named : Releases → Type 0
Named all = AreNamed all.handlers all.releases

-- ---- the place of a name

position_once : {A : Type 0} (test : A → Bool) (xs : List A) (k : ℕ) (x : A) → slice_get xs k ≡ Some x →
    test x ≡ true → ((j : ℕ) (y : A) → slice_get xs j ≡ Some y → test y ≡ true → j ≡ k) → position test xs ≡ Some k
position_once test xs k x there passes once =
    let least = position_least test xs k x there passes in
    let at = position-Some test xs least.0 x least.1 in
    let same : least.0 ≡ k =
    once least.0 (get_or xs least.0 x) (slice_get-get_or xs least.0 x at.0) at.1 in
    least.1 ∙ ap (λ (n : ℕ). Some n) same

same_handler : (handler number : ℕ) (r : Release) → is_named handler number r ≡ true → r.handler ≡ handler
same_handler handler number r h = grind (arith, nat_tests, h)

same_number : (handler number : ℕ) (r : Release) → is_named handler number r ≡ true → r.number ≡ number
same_number handler number r h = grind (arith, nat_tests, h)

named_so : (r : Release) → is_named r.handler r.number r ≡ true
named_so r = grind (arith, nat_tests)

pub place_of_name : (handlers : List HandlerSeen) (rs : List Release) → AreNamed handlers rs → (q : ℕ) (x : Release) →
    slice_get rs q ≡ Some x → index_of rs x.handler x.number ≡ Some q
place_of_name handlers rs named q x there =
    position_once (is_named x.handler x.number) rs q x there (named_so x)
    (λ j y at test. named.once j q y x at there (same_handler x.handler x.number y test)
    (same_number x.handler x.number y test))

pub release_of_name : (handlers : List HandlerSeen) (rs : List Release) → AreNamed handlers rs → (q : ℕ)
    (x : Release) → slice_get rs q ≡ Some x → release_named rs x.handler x.number ≡ Some x
release_of_name handlers rs named q x there =
    ap (λ o. elim o as (λ _. Option Release) [ None ↦ None | Some index ↦ slice_get rs index ])
    (place_of_name handlers rs named q x there) ∙ there

-- the release of this name stands otherwise
abbrev pub restood : (Standing → Standing) → ℕ → List Release → List Release
restood change q rs = changed (λ (r : Release). record r { standing = change r.standing }) q rs

pub restanding_is : (all : Releases) → Named all → (change : Standing → Standing) (q : ℕ) (x : Release) →
    slice_get all.releases q ≡ Some x →
    restanding change x.handler x.number all ≡ record all { releases = restood change q all.releases }
restanding_is all named change q x there =
    ap (λ o. record all {
      releases = elim o as (λ _. List Release) [
        | None ↦ all.releases
        | Some index ↦ changed (λ (r : Release). record r { standing = change r.standing }) index all.releases
      ];
    }) (place_of_name all.handlers all.releases named q x there)

-- ---- what keeps names

-- a release of another list has the name of one at the same place
named_as : (change : Standing → Standing) (q : ℕ) (rs : List Release) (p : ℕ) (y : Release) →
    slice_get (restood change q rs) p ≡ Some y →
    (x : Release) × (slice_get rs p ≡ Some x) × (y.handler ≡ x.handler) × (y.number ≡ x.number)
named_as change q rs p y e =
    by (at_changed (λ (r : Release). record r { standing = change r.standing }) q rs p y e)
  where
    by : AtChanged (λ (r : Release). record r { standing = change r.standing }) q rs p y →
        (x : Release) × (slice_get rs p ≡ Some x) × (y.handler ≡ x.handler) × (y.number ≡ x.number)
    by (is_changed x there same is) =
        (x, there, ap (λ (r : Release). r.handler) is, ap (λ (r : Release). r.number) is)
    by (is_kept there apart) = (y, there, refl, refl)

pub named_restood : (handlers : List HandlerSeen) (rs : List Release) (change : Standing → Standing) (q : ℕ) →
    AreNamed handlers rs → AreNamed handlers (restood change q rs)
named_restood handlers rs change q named =
    record {
      counted = λ k h e. named.counted k h e ∙ sym (same_count (suc k));
      once = λ p j x y e f g n. once p j x y (named_as change q rs p x e) (named_as change q rs j y f) g n;
      below = λ p x e. below p x (named_as change q rs p x e);
    }
  where
    same_count : (handler : ℕ) → count_of handler (restood change q rs) ≡ count_of handler rs
    same_count handler =
        count_changed (is_of handler) (λ (r : Release). record r { standing = change r.standing }) (λ x. refl) q rs

    once : (p j : ℕ) (x y : Release) →
        ((u : Release) × (slice_get rs p ≡ Some u) × (x.handler ≡ u.handler) × (x.number ≡ u.number)) →
        ((v : Release) × (slice_get rs j ≡ Some v) × (y.handler ≡ v.handler) × (y.number ≡ v.number)) →
        x.handler ≡ y.handler → x.number ≡ y.number → p ≡ j
    once p j x y a b g n =
        named.once p j a.0 b.0 a.1 b.1 (sym a.2 ∙ (g ∙ b.2)) (sym a.3 ∙ (n ∙ b.3))

    below : (p : ℕ) (x : Release) →
        ((u : Release) × (slice_get rs p ≡ Some u) × (x.handler ≡ u.handler) × (x.number ≡ u.number)) →
        x.number ≤ count_of x.handler (restood change q rs)
    below p x a =
        subst (λ n. n ≤ count_of x.handler (restood change q rs)) (sym a.3)
        (subst (λ n. a.0.number ≤ n) (ap (λ h. count_of h rs) (sym a.2) ∙ sym (same_count x.handler))
        (named.below p a.0 a.1))

-- ---- one more release

abbrev pub fresh : ℕ → ℕ → Release
fresh handler number = record { handler = handler; number = number; standing = Waits }

pub other_test : (m n : ℕ) → (m ≡ n → ⊥) → (m == n) ≡ false
other_test m n apart = go (m == n) refl
  where
    go : (b : Bool) → (m == n) ≡ b → (m == n) ≡ false
    go true e = absurd (apart (grind (arith, nat_tests, e)))
    go false e = e

count_fresh : (handler number : ℕ) (rs : List Release) →
    count_of handler (rs ++ fresh handler number ∷ []) ≡ count_of handler rs + 1
count_fresh handler number rs = count_more (is_of handler) rs (fresh handler number) (same_test handler)

count_not : (other handler number : ℕ) (rs : List Release) → (handler ≡ other → ⊥) →
    count_of other (rs ++ fresh handler number ∷ []) ≡ count_of other rs
count_not other handler number rs apart =
    count_else (is_of other) rs (fresh handler number) (other_test handler other apart)

at_least : (other handler number : ℕ) (rs : List Release) →
    count_of other rs ≤ count_of other (rs ++ fresh handler number ∷ [])
at_least other handler number rs = go (number_cases handler other)
  where
    go : (handler ≡ other) ⊎ (handler ≡ other → ⊥) →
        count_of other rs ≤ count_of other (rs ++ fresh handler number ∷ [])
    go (inl e) =
        let c : count_of other (rs ++ fresh handler number ∷ []) ≡ count_of other rs + 1 =
        subst (λ n. count_of n (rs ++ fresh handler number ∷ []) ≡ count_of n rs + 1) e
        (count_fresh handler number rs) in
        omega (arith, c)
    go (inr n) = let c = count_not other handler number rs n in omega (arith, c)

-- the handlers, once a release of one arrived
abbrev pub counted_more : ℕ → List HandlerSeen → List HandlerSeen
counted_more k handlers = changed one_more k handlers

-- what the list has at a place, with one more
pub data AtMore {A : Type 0} (xs : List A) (y : A) (p : ℕ) (x : A) : Type 0 where
  old : (there : slice_get xs p ≡ Some x) → AtMore xs y p x
  new : (is : x ≡ y) (at : p ≡ length xs) → AtMore xs y p x

more_behind : {A : Type 0} (z : A) (xs : List A) (y : A) (p : ℕ) (x : A) → AtMore xs y p x →
    AtMore (z ∷ xs) y (suc p) x
more_behind z xs y p x (old there) = old there
more_behind z xs y p x (new is at) = new is (ap suc at)

pub at_more : {A : Type 0} (xs : List A) (y : A) (p : ℕ) (x : A) → slice_get (xs ++ y ∷ []) p ≡ Some x →
    AtMore xs y p x
at_more [] y zero x e = new (sym (some_inj y x e)) refl
at_more [] y (suc p) x e = absurd (cc (e))
at_more (z ∷ xs) y zero x e = old e
at_more (z ∷ xs) y (suc p) x e = more_behind z xs y p x (at_more xs y p x e)

pub named_more : (handlers : List HandlerSeen) (rs : List Release) (k : ℕ) → AreNamed handlers rs →
    AreNamed (counted_more k handlers) (rs ++ fresh (suc k) (count_of (suc k) rs + 1) ∷ [])
named_more handlers rs k named =
    record {
      counted = λ j h e. counted j h (at_changed one_more k handlers j h e);
      once = λ p q x y e f g n. once p q x y (at_more rs next p x e) (at_more rs next q y f) g n;
      below = λ p x e. below p x (at_more rs next p x e);
    }
  where
    next : Release
    next = fresh (suc k) (count_of (suc k) rs + 1)

    counted : (j : ℕ) (h : HandlerSeen) → AtChanged one_more k handlers j h →
        h.arrived ≡ count_of (suc j) (rs ++ fresh (suc k) (count_of (suc k) rs + 1) ∷ [])
    counted j h (is_changed x there same is) =
        let a : h.arrived ≡ x.arrived + 1 = ap (λ (z : HandlerSeen). z.arrived) is in
        let b : x.arrived ≡ count_of (suc j) rs = named.counted j x there in
        let c : count_of (suc j) (rs ++ fresh (suc k) (count_of (suc k) rs + 1) ∷ []) ≡ count_of (suc j) rs + 1 =
        subst (λ n. count_of (suc n) (rs ++ fresh (suc k) (count_of (suc k) rs + 1) ∷ []) ≡ count_of (suc n) rs + 1)
        same (count_fresh (suc k) (count_of (suc k) rs + 1) rs) in
        a ∙ (ap (λ n. n + 1) b ∙ sym c)
    counted j h (is_kept there apart) =
        named.counted j h there
        ∙ sym (count_not (suc j) (suc k) (count_of (suc k) rs + 1) rs (λ e. apart (omega (arith, e))))

    too_great : (p : ℕ) (x y : Release) → slice_get rs p ≡ Some x →
        y ≡ fresh (suc k) (count_of (suc k) rs + 1) → x.handler ≡ y.handler → x.number ≡ y.number → ⊥
    too_great p x y there is g n =
        let a : x.number ≤ count_of x.handler rs = named.below p x there in
        let b : x.handler ≡ suc k = g ∙ ap (λ (z : Release). z.handler) is in
        let c : x.number ≡ count_of (suc k) rs + 1 = n ∙ ap (λ (z : Release). z.number) is in
        let d : count_of x.handler rs ≡ count_of (suc k) rs = ap (λ h. count_of h rs) b in
        omega (arith, a, c, d)

    once : (p q : ℕ) (x y : Release) → AtMore rs (fresh (suc k) (count_of (suc k) rs + 1)) p x →
        AtMore rs (fresh (suc k) (count_of (suc k) rs + 1)) q y → x.handler ≡ y.handler → x.number ≡ y.number → p ≡ q
    once p q x y (old a) (old b) g n = named.once p q x y a b g n
    once p q x y (new a u) (new b v) g n = u ∙ sym v
    once p q x y (old a) (new b v) g n = absurd (too_great p x y a b g n)
    once p q x y (new a u) (old b) g n = absurd (too_great q y x b a (sym g) (sym n))

    below : (p : ℕ) (x : Release) → AtMore rs (fresh (suc k) (count_of (suc k) rs + 1)) p x →
        x.number ≤ count_of x.handler (rs ++ fresh (suc k) (count_of (suc k) rs + 1) ∷ [])
    below p x (old a) =
        let u : x.number ≤ count_of x.handler rs = named.below p x a in
        let v : count_of x.handler rs ≤ count_of x.handler (rs ++ fresh (suc k) (count_of (suc k) rs + 1) ∷ []) =
        at_least x.handler (suc k) (count_of (suc k) rs + 1) rs in
        omega (arith, u, v)
    below p x (new is at) =
        let a : x.handler ≡ suc k = ap (λ (z : Release). z.handler) is in
        let b : x.number ≡ count_of (suc k) rs + 1 = ap (λ (z : Release). z.number) is in
        let c : count_of x.handler (rs ++ fresh (suc k) (count_of (suc k) rs + 1) ∷ []) ≡ count_of (suc k) rs + 1 =
        ap (λ h. count_of h (rs ++ fresh (suc k) (count_of (suc k) rs + 1) ∷ [])) a
        ∙ count_fresh (suc k) (count_of (suc k) rs + 1) rs in
        omega (arith, b, c)

-- ---- none yet, and one more handler

pub named_nothing : AreNamed [] []
named_nothing =
    record {
      counted = λ k h e. absurd (cc (e));
      once = λ p q x y e f g n. absurd (cc (e));
      below = λ p x e. absurd (cc (e));
    }

-- as long as no release arrived, each handler may come
pub named_handler : (handlers : List HandlerSeen) (priority : ℕ) → AreNamed handlers [] →
    AreNamed (handlers ++ record { priority = priority; arrived = 0 } ∷ []) []
named_handler handlers priority named =
    record {
      counted = λ k h e. counted k h (at_more handlers (record { priority = priority; arrived = 0 }) k h e);
      once = λ p q x y e f g n. absurd (cc (e));
      below = λ p x e. absurd (cc (e));
    }
  where
    counted : (k : ℕ) (h : HandlerSeen) → AtMore handlers (record { priority = priority; arrived = 0 }) k h →
        h.arrived ≡ count_of (suc k) []
    counted k h (old there) = named.counted k h there
    counted k h (new is at) = ap (λ (z : HandlerSeen). z.arrived) is
