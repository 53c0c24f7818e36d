-- The least bound, and what a claim that holds says.
use Rattle.std.proofs.Common.{◌≡◌, ℕ, zero, suc, ◌+◌, ◌≤◌, ◌<◌, ◌==◌, Bool, true, false, ◌&&◌, ◌⊎◌, inl, inr, List, [], ◌∷◌, length, Option, Some, None, if◌then◌else◌, refl, sym, ap, ◌∙◌, subst, arith}
use Rattle.std.specs.Prelude.{nat_le, slice_get, slice_index_or}
use Rattle.std.proofs.lemmas.Bool.{cases_eq, cases_Bool, and_parts}
use Rattle.std.proofs.lemmas.Bool.Decides.{nat_tests}
use Rattle.std.proofs.lemmas.Option.{slice_get_within}
use Rattle.response_bounds.specs.declared.rows.Declared.{Declared}
use Rattle.response_bounds.specs.declared.responses.Response.{Response}
use Rattle.response_bounds.specs.declared.responses.Response.TheVariants.{Bound, NoBound}
use Rattle.response_bounds.specs.Responses.{IsBound, serves, first_from, response, response_of, is_right, are_right_from, are_bounds}
use Rattle.response_bounds.specs.Rows.{row_at, demand}

first_is : (test : ℕ → Bool) (n s x : ℕ) → s ≤ x → x < s + n → test x ≡ true →
    ((y : ℕ) → s ≤ y → y < x → test y ≡ false) → first_from test s n ≡ Some x
unfolding first_from
first_is test zero s x l u e before = absurd (omega (arith, l, u))
first_is test (suc n) s x l u e before =
    go (λ other. first_is test n (suc s) x (omega (arith, l, other)) (omega (arith, u)) e
    (λ y a b. before y (omega (arith, a)) b)) (cases_eq s x)
  where
    go : ((s ≡ x → ⊥) → first_from test (suc s) n ≡ Some x) → (s ≡ x) ⊎ (s ≡ x → ⊥) →
        (if test s then Some s else first_from test (suc s) n) ≡ Some x
    go more (inl same) =
        let passes : test s ≡ true = ap test same ∙ e in
        ap (λ b. if b then Some s else first_from test (suc s) n) passes ∙ ap (λ k. Some k) same
    go more (inr other) =
        let fails : test s ≡ false = before s (omega arith) (omega (arith, l, other)) in
        ap (λ b. if b then Some s else first_from test (suc s) n) fails ∙ more other

first_none : (test : ℕ → Bool) (n s : ℕ) → ((y : ℕ) → s ≤ y → y < s + n → test y ≡ false) →
    first_from test s n ≡ None
unfolding first_from
first_none test zero s h = refl
first_none test (suc n) s h =
    ap (λ b. if b then Some s else first_from test (suc s) n) (h s (omega arith) (omega arith))
    ∙ first_none test n (suc s) (λ y a b. h y (omega (arith, a)) (omega (arith, b)))

pub serves_means : (rows : List Declared) (i x : ℕ) → serves rows i x ≡ true → demand rows i x ≤ x
serves_means rows i x e = grind (arith, nat_tests)

pub serves_from : (rows : List Declared) (i x : ℕ) → demand rows i x ≤ x → serves rows i x ≡ true
serves_from rows i x l = grind (arith, nat_tests)

-- what is no bound doesn't serve
no_bound : (rows : List Declared) (i y : ℕ) → i < length rows → 1 ≤ y → y ≤ (row_at rows i).gap →
    (IsBound rows i y → ⊥) → serves rows i y ≡ false
no_bound rows i y l from upto h = go (cases_Bool (serves rows i y))
  where
    go : (serves rows i y ≡ true) ⊎ (serves rows i y ≡ false) → serves rows i y ≡ false
    go (inr e) = e
    go (inl e) =
        absurd (h (record { is_row = l; from = from; upto = upto; serves = serves_means rows i y e }))

pub least_is : (rows : List Declared) (i x : ℕ) → IsBound rows i x →
    ((y : ℕ) → IsBound rows i y → x ≤ y) → response_of rows i ≡ Bound x
unfolding response_of
least_is rows i x bound least =
    ap response (first_is (serves rows i) (row_at rows i).gap 1 x bound.from (omega (arith, upto))
    (serves_from rows i x bound.serves)
    (λ y a b. no_bound rows i y bound.is_row a (omega (arith, b, upto)) (λ h. below y b h)))
  where
    upto : x ≤ (row_at rows i).gap
    upto = bound.upto

    below : (y : ℕ) → y < x → IsBound rows i y → ⊥
    below y l h = let a : x ≤ y = least y h in omega (arith, a, l)

pub none_is : (rows : List Declared) (i : ℕ) → i < length rows → ((y : ℕ) → IsBound rows i y → ⊥) →
    response_of rows i ≡ NoBound
unfolding response_of
none_is rows i l none =
    ap response (first_none (serves rows i) (row_at rows i).gap 1
    (λ y a b. no_bound rows i y l a (omega (arith, b)) (none y)))

-- a bound that is claimed and right is one
pub right_bound : (rows : List Declared) (i x : ℕ) → i < length rows → is_right rows i (Bound x) ≡ true →
    IsBound rows i x
unfolding is_right
right_bound rows i x l e =
    let a : ((nat_le 1 x && nat_le x (row_at rows i).gap) ≡ true) × (serves rows i x ≡ true) = and_parts _ _ e in
    let b : (nat_le 1 x ≡ true) × (nat_le x (row_at rows i).gap ≡ true) = and_parts _ _ a.0 in
    let d : nat_le 1 x ≡ true = b.0 in
    let f : nat_le x (row_at rows i).gap ≡ true = b.1 in
    record {
      is_row = l;
      from = grind (arith, nat_tests);
      upto = grind (arith, nat_tests);
      serves = serves_means rows i x a.1;
    }

right_at : (rows : List Declared) (claims : List Response) (first k : ℕ) (claim : Response) →
    are_right_from rows first claims ≡ true → slice_get claims k ≡ Some claim → is_right rows (first + k) claim ≡ true
unfolding are_right_from
right_at rows [] first k claim e f = absurd (cc (f))
right_at rows (c ∷ claims) first zero claim e f =
    let a : (is_right rows first c ≡ true) × (are_right_from rows (suc first) claims ≡ true) = and_parts _ _ e in
    let same : c ≡ claim = ap (λ (o : Option Response). elim o as (λ z. Response) [ None ↦ c | Some d ↦ d ]) f in
    let here : first + zero ≡ first = omega arith in
    subst (λ j. is_right rows j claim ≡ true) (sym here) (subst (λ d. is_right rows first d ≡ true) same a.0)
right_at rows (c ∷ claims) first (suc k) claim e f =
    let a : (is_right rows first c ≡ true) × (are_right_from rows (suc first) claims ≡ true) = and_parts _ _ e in
    let here : first + suc k ≡ suc first + k = omega arith in
    subst (λ j. is_right rows j claim ≡ true) (sym here) (right_at rows claims (suc first) k claim a.1 f)

-- of claims that hold, each bound is one
pub claimed_bound : (rows : List Declared) (claims : List Response) (i x : ℕ) → are_bounds rows claims ≡ true →
    slice_get claims i ≡ Some (Bound x) → IsBound rows i x
unfolding are_bounds
claimed_bound rows claims i x right claimed =
    right_bound rows i x (omega (arith, count, within))
    (subst (λ k. is_right rows k (Bound x) ≡ true) here (right_at rows claims 0 i (Bound x) parts.1 claimed))
  where
    here : 0 + i ≡ i
    here = omega arith

    parts : ((length rows == length claims) ≡ true) × (are_right_from rows 0 claims ≡ true)
    parts = and_parts _ _ right

    count : length rows ≡ length claims
    count = same (length rows) (length claims) parts.0
      where
        same : (a b : ℕ) → (a == b) ≡ true → a ≡ b
        same a b e = grind (arith, nat_tests)

    within : i < length claims
    within = slice_get_within claims i (Bound x) claimed

-- the claim at a place holds
pub right_item : (rows : List Declared) (claims : List Response) (first k : ℕ) (d : Response) → k < length claims →
    are_right_from rows first claims ≡ true → is_right rows (first + k) (slice_index_or claims k d) ≡ true
unfolding are_right_from
right_item rows [] first k d l e = absurd (omega (arith, l))
right_item rows (c ∷ claims) first zero d l e =
    let here : first + zero ≡ first = omega arith in
    subst (λ j. is_right rows j c ≡ true) (sym here) (and_parts _ _ e).0
right_item rows (c ∷ claims) first (suc k) d l e =
    let here : first + suc k ≡ suc first + k = omega arith in
    subst (λ j. is_right rows j (slice_index_or claims k d) ≡ true) (sym here)
    (right_item rows claims (suc first) k d (omega (arith, l)) (and_parts _ _ e).1)
