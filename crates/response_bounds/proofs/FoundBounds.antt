-- What the response of a row says: it is the least bound, the sum of its parts, and right as a claim.
use Rattle.std.proofs.Common.{◌≡◌, ℕ, zero, suc, ◌+◌, ◌≤◌, ◌<◌, ◌==◌, Bool, true, false, ◌&&◌, ◌⊎◌, inl, inr, List, [], ◌∷◌, ◌++◌, length, Option, Some, None, if◌then◌else◌, refl, sym, ap, ◌∙◌, subst, arith}
use Rattle.std.specs.Prelude.{nat_le}
use Rattle.std.proofs.lemmas.Bool.{cases_eq, cases_Bool, and_parts}
use Rattle.std.proofs.lemmas.Bool.Decides.{nat_tests}
use Rattle.response_bounds.specs.declared.rows.Declared.{Declared}
use Rattle.response_bounds.specs.declared.responses.Response.{Response}
use Rattle.response_bounds.specs.declared.responses.Response.TheVariants.{Bound, NoBound}
use Rattle.response_bounds.specs.Responses.{IsBound, serves, first_from, response, response_of, responses_below, responses_of, is_right, are_right_from, are_bounds}
use Rattle.response_bounds.specs.Rows.{AreDeclared, row_at, blocking, other_work, demand}
use Rattle.response_bounds.proofs.LeastBounds.{serves_means, serves_from}
use Rattle.response_bounds.proofs.Monotone.{demand_mono, gaps_of, row_there}

-- ---- the first number that passes

record IsFirst (test : ℕ → Bool) (s n x : ℕ) : Type 0 where
  from : s ≤ x
  below : x < s + n
  passes : test x ≡ true
  first : (y : ℕ) → s ≤ y → y < x → test y ≡ false

first_found : (test : ℕ → Bool) (n s x : ℕ) → first_from test s n ≡ Some x → IsFirst test s n x
unfolding first_from
first_found test zero s x e = absurd (cc (e))
first_found test (suc n) s x e = go (first_found test n (suc s) x) (cases_Bool (test s))
  where
    go : (first_from test (suc s) n ≡ Some x → IsFirst test (suc s) n x) → (test s ≡ true) ⊎ (test s ≡ false) →
        IsFirst test s (suc n) x
    go more (inl t) =
        let same : s ≡ x =
        ap (λ (o : Option ℕ). elim o as (λ z. ℕ) [ None ↦ s | Some k ↦ k ])
        (sym (ap (λ b. if b then Some s else first_from test (suc s) n) t) ∙ e) in
        record {
          from = omega (arith, same);
          below = omega (arith, same);
          passes = ap test (sym same) ∙ t;
          first = λ y a b. absurd (omega (arith, a, b, same));
        }
    go more (inr t) =
        let h : IsFirst test (suc s) n x =
        more (sym (ap (λ b. if b then Some s else first_from test (suc s) n) t) ∙ e) in
        let a : suc s ≤ x = h.from in
        let b : x < suc s + n = h.below in
        record {
          from = omega (arith, a);
          below = omega (arith, b);
          passes = h.passes;
          first = λ y l u. each y l u (cases_eq y s) h;
        }
      where
        each : (y : ℕ) → s ≤ y → y < x → (y ≡ s) ⊎ (y ≡ s → ⊥) → IsFirst test (suc s) n x → test y ≡ false
        each y l u (inl same) h = ap test same ∙ t
        each y l u (inr other) h = h.first y (omega (arith, l, other)) u

found_none : (test : ℕ → Bool) (n s : ℕ) → first_from test s n ≡ None → (y : ℕ) → s ≤ y → y < s + n → test y ≡ false
unfolding first_from
found_none test zero s e y l u = absurd (omega (arith, l, u))
found_none test (suc n) s e y l u = go (found_none test n (suc s)) (cases_Bool (test s))
  where
    go : (first_from test (suc s) n ≡ None → (y : ℕ) → suc s ≤ y → y < suc s + n → test y ≡ false) →
        (test s ≡ true) ⊎ (test s ≡ false) → test y ≡ false
    go more (inl t) =
        absurd (cc (sym (ap (λ b. if b then Some s else first_from test (suc s) n) t) ∙ e))
    go more (inr t) = by (cases_eq y s)
      where
        by : (y ≡ s) ⊎ (y ≡ s → ⊥) → test y ≡ false
        by (inl same) = ap test same ∙ t
        by (inr other) =
            more (sym (ap (λ b. if b then Some s else first_from test (suc s) n) t) ∙ e) y
            (omega (arith, l, other)) (omega (arith, u))

-- ---- the response of a row

response_is : (o : Option ℕ) (x : ℕ) → response o ≡ Bound x → o ≡ Some x
response_is None x e = absurd (cc (e))
response_is (Some y) x e =
    ap (λ (r : Response). elim r as (λ z. Option ℕ) [ Bound k ↦ Some k | NoBound ↦ None ]) e

response_none : (o : Option ℕ) → response o ≡ NoBound → o ≡ None
response_none None e = refl
response_none (Some y) e = absurd (cc (e))

pub least_found : (rows : List Declared) (i x : ℕ) → i < length rows → response_of rows i ≡ Bound x →
    IsBound rows i x × ((y : ℕ) → IsBound rows i y → x ≤ y)
unfolding response_of
least_found rows i x l e =
    (record { is_row = l; from = f.from; upto = omega (arith, below); serves = serves_means rows i x f.passes }, least)
  where
    f : IsFirst (serves rows i) 1 (row_at rows i).gap x
    f = first_found (serves rows i) (row_at rows i).gap 1 x
        (response_is (first_from (serves rows i) 1 (row_at rows i).gap) x e)

    below : x < 1 + (row_at rows i).gap
    below = f.below

    least : (y : ℕ) → IsBound rows i y → x ≤ y
    least y b = go (cases_Bool (nat_le x y))
      where
        over : (x y : ℕ) → nat_le x y ≡ false → y < x
        over x y e = grind (arith, nat_tests)

        under : (x y : ℕ) → nat_le x y ≡ true → x ≤ y
        under x y e = grind (arith, nat_tests)

        go : (nat_le x y ≡ true) ⊎ (nat_le x y ≡ false) → x ≤ y
        go (inl t) = under x y t
        go (inr t) = absurd (cc (f.first y b.from (over x y t), serves_from rows i y b.serves))

pub none_found : (rows : List Declared) (i : ℕ) → response_of rows i ≡ NoBound → (y : ℕ) → IsBound rows i y → ⊥
unfolding response_of
none_found rows i e y b =
    cc (
      found_none (serves rows i) (row_at rows i).gap 1
          (response_none (first_from (serves rows i) 1 (row_at rows i).gap) e) y b.from (omega (arith, upto)),
      serves_from rows i y b.serves,
    )
  where
    upto : y ≤ (row_at rows i).gap
    upto = b.upto

-- what is to be done in a bound is a bound itself, so the least one is what is to be done in it
pub parts_sum : (rows : List Declared) (i x : ℕ) → AreDeclared rows → i < length rows → response_of rows i ≡ Bound x →
    x ≡ blocking rows i + (row_at rows i).cost + other_work rows i x
unfolding demand
parts_sum rows i x declared l e =
    let serves : demand rows i x ≤ x = (least_found rows i x l e).0.serves in
    let cost : 1 ≤ (row_at rows i).cost = (row_there rows declared i l).cost_from in
    let upto : x ≤ (row_at rows i).gap = (least_found rows i x l e).0.upto in
    let again : demand rows i (demand rows i x) ≤ demand rows i x =
    demand_mono rows i (demand rows i x) x (gaps_of rows declared) serves in
    let least : x ≤ demand rows i x =
    (least_found rows i x l e).1 (demand rows i x)
    (record { is_row = l; from = omega (arith, cost); upto = omega (arith, serves, upto); serves = again }) in
    omega (arith, serves, least)

-- ---- responses as claims

right_found : (rows : List Declared) (i : ℕ) → i < length rows → is_right rows i (response_of rows i) ≡ true
unfolding is_right
right_found rows i l = go (response_of rows i) refl
  where
    go : (r : Response) → response_of rows i ≡ r → is_right rows i r ≡ true
    go NoBound e = refl
    go (Bound x) e = both (least_found rows i x l e).0
      where
        all : (x g d : ℕ) → 1 ≤ x → x ≤ g → d ≤ x → ((nat_le 1 x && nat_le x g) && nat_le d x) ≡ true
        all x g d a b e = grind (arith, nat_tests)

        both : IsBound rows i x → ((nat_le 1 x && nat_le x (row_at rows i).gap) && serves rows i x) ≡ true
        both b = all x (row_at rows i).gap (demand rows i x) b.from b.upto b.serves

right_more : (rows : List Declared) (claims : List Response) (i : ℕ) (r : Response) →
    are_right_from rows i claims ≡ true → is_right rows (i + length claims) r ≡ true →
    are_right_from rows i (claims ++ (r ∷ [])) ≡ true
unfolding are_right_from
right_more rows [] i r e f =
    let here : i + 0 ≡ i = omega arith in
    let g : is_right rows i r ≡ true = subst (λ k. is_right rows k r ≡ true) here f in
    ap (λ b. b && true) g
right_more rows (c ∷ claims) i r e f =
    let a : (is_right rows i c ≡ true) × (are_right_from rows (suc i) claims ≡ true) = and_parts _ _ e in
    let here : i + suc (length claims) ≡ suc i + length claims = omega arith in
    ap (λ b. b && are_right_from rows (suc i) (claims ++ (r ∷ []))) a.0
    ∙ right_more rows claims (suc i) r a.1 (subst (λ k. is_right rows k r ≡ true) here f)

count_more : (claims : List Response) (r : Response) → length (claims ++ (r ∷ [])) ≡ suc (length claims)
count_more [] r = refl
count_more (c ∷ claims) r = ap suc (count_more claims r)

pub count_below_is : (rows : List Declared) (n : ℕ) → length (responses_below rows n) ≡ n
unfolding responses_below
count_below_is rows zero = refl
count_below_is rows (suc n) =
    count_more (responses_below rows n) (response_of rows n) ∙ ap suc (count_below_is rows n)

from_none : (a n : ℕ) → a ≡ n → n ≡ 0 + a
from_none a n e = omega (arith, e)

right_below : (rows : List Declared) (n : ℕ) → n ≤ length rows → are_right_from rows 0 (responses_below rows n) ≡ true
unfolding responses_below are_right_from
right_below rows zero l = refl
right_below rows (suc n) l =
    right_more rows (responses_below rows n) 0 (response_of rows n) (right_below rows n (omega (arith, l)))
    (subst (λ k. is_right rows k (response_of rows n) ≡ true) (from_none (length (responses_below rows n)) n (count_below_is rows n))
    (right_found rows n (omega (arith, l))))

pub all_right : (rows : List Declared) → are_bounds rows (responses_of rows) ≡ true
unfolding are_bounds responses_of
all_right rows =
    both (length rows) (length (responses_below rows (length rows)))
    (are_right_from rows 0 (responses_below rows (length rows))) (count_below_is rows (length rows))
    (right_below rows (length rows) (omega arith))
  where
    both : (a b : ℕ) (r : Bool) → b ≡ a → r ≡ true → ((a == b) && r) ≡ true
    both a b r e f = grind (arith, nat_tests)
