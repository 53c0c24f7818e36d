-- A chain of as many numbers as there are holds all that is reached, whether the steps come back or not.
use Rattle.std.proofs.Common.{◌≡◌, ℕ, ◌<◌, ◌≤◌, zero, suc, List, [], ◌∷◌, ◌++◌, length, refl, sym, ap, ◌∙◌, subst, arith, Option, Some, None, Bool, true, false, ◌||◌, true≢false, ◌⊎◌, inl, inr, ⊎_elim, ◌==◌, eqb, ◌↔◌}
use Rattle.std.proofs.lemmas.Bool.Decides.{nat_tests}
use Rattle.std.specs.List.{list_any, IsDistinct, AllByRecursion}
use Rattle.std.proofs.lemmas.Map.Steps.{length-le_from_distinct_below}
use Rattle.scj_rules.specs.Chains.{Follows, one, more, ComesBack}
use Rattle.scj_rules.specs.Words.{is_among, chain, chain_behind, StaysBelow}

-- a way from a to b along `next`, on which no number stands twice
data Way (next : ℕ → Option ℕ) (b : ℕ) : ℕ → List ℕ → Type 0 where
  ends : Way next b b (b ∷ [])
  goes : {a c : ℕ} {xs : List ℕ} → next a ≡ Some c → Way next b c xs → is_among a xs ≡ false → Way next b a (a ∷ xs)

pub same_number : (x y : ℕ) → (x == y) ≡ true → x ≡ y
same_number x y e = grind (arith, nat_tests)

pub is_same_number : (x y : ℕ) → x ≡ y → (x == y) ≡ true
is_same_number x y e = grind (arith, nat_tests)

pub or_first_false : (a b : Bool) → (a || b) ≡ false → a ≡ false
or_first_false true b h = h
or_first_false false b h = refl

or_second_false : (a b : Bool) → (a || b) ≡ false → b ≡ false
or_second_false true b h = absurd (true≢false h)
or_second_false false b h = h

pub or_cases : (a b : Bool) → (a || b) ≡ true → (a ≡ true) ⊎ (b ≡ true)
or_cases true b h = inl refl
or_cases false b h = inr h

pub or_right : (a b : Bool) → b ≡ true → (a || b) ≡ true
or_right true b h = refl
or_right false b h = h

pub or_left : (a b : Bool) → a ≡ true → (a || b) ≡ true
or_left true b h = refl
or_left false b h = absurd (true≢false (sym h))

-- what is among two lists is among one of them
pub among-behind : (x : ℕ) (xs ys : List ℕ) → is_among x ys ≡ true → is_among x (xs ++ ys) ≡ true
among-behind x [] ys h = h
among-behind x (y ∷ xs) ys h = or_right (x == y) (is_among x (xs ++ ys)) (among-behind x xs ys h)

pub among-front : (x : ℕ) (xs ys : List ℕ) → is_among x xs ≡ true → is_among x (xs ++ ys) ≡ true
among-front x [] ys h = absurd (true≢false (sym h))
among-front x (y ∷ xs) ys h =
    ⊎_elim (λ (e : (x == y) ≡ true). or_left (x == y) (is_among x (xs ++ ys)) e)
    (λ (f : is_among x xs ≡ true). or_right (x == y) (is_among x (xs ++ ys)) (among-front x xs ys f))
    (or_cases (x == y) (is_among x xs) h)

pub among-cases : (x : ℕ) (xs ys : List ℕ) → is_among x (xs ++ ys) ≡ true →
    (is_among x xs ≡ true) ⊎ (is_among x ys ≡ true)
among-cases x [] ys h = inr h
among-cases x (y ∷ xs) ys h =
    ⊎_elim (λ (e : (x == y) ≡ true). inl (or_left (x == y) (is_among x xs) e))
    (λ (f : is_among x (xs ++ ys) ≡ true).
    ⊎_elim (λ (g : is_among x xs ≡ true). inl (or_right (x == y) (is_among x xs) g))
    (λ (g : is_among x ys ≡ true). inr g) (among-cases x xs ys f))
    (or_cases (x == y) (is_among x (xs ++ ys)) h)

-- the rest of a way from one of its numbers on
way_from : (next : ℕ → Option ℕ) (b a c : ℕ) (xs : List ℕ) → Way next b c xs → is_among a xs ≡ true →
    (ys : List ℕ) × Way next b a ys
way_from next b a c xs ends h =
    ⊎_elim
    (λ (e : (a == b) ≡ true).
    (b ∷ [], (let P : ℕ → Type 0 = λ x. Way next b x (b ∷ []) in subst P (sym (same_number a b e)) ends)))
    (λ (e : false ≡ true). absurd (true≢false (sym e)))
    (or_cases (a == b) false h)
way_from next b a c xs (goes {xs = ys} e w fresh) h =
    ⊎_elim
    (λ (f : (a == c) ≡ true). (
      c ∷ ys,
      (let P : ℕ → Type 0 = λ x. Way next b x (c ∷ ys) in subst P (sym (same_number a c f)) (goes e w fresh)),
    ))
    (λ (f : is_among a ys ≡ true). way_from next b a _ ys w f)
    (or_cases (a == c) (is_among a ys) h)

-- one step in front of a way
way_before : (next : ℕ → Option ℕ) (b a c : ℕ) (xs : List ℕ) → next a ≡ Some c → Way next b c xs → (t : Bool) →
    is_among a xs ≡ t → (ys : List ℕ) × Way next b a ys
way_before next b a c xs e w true h = way_from next b a c xs w h
way_before next b a c xs e w false h = (a ∷ xs, goes e w h)

way_of_follows : (next : ℕ → Option ℕ) (a b : ℕ) → Follows next a b → (xs : List ℕ) × Way next b a xs
way_of_follows next a b (one e) = way_before next b a b (b ∷ []) e ends (is_among a (b ∷ [])) refl
way_of_follows next a c (more {b = b} e f) =
    let w : (xs : List ℕ) × Way next c b xs = way_of_follows next b c f in
    way_before next c a b w.0 e w.1 (is_among a w.0) refl

-- the numbers of a way are distinct and below the bound, so they are no more than it says
pub none_same : (x : ℕ) (xs : List ℕ) → is_among x xs ≡ false → AllByRecursion (λ y. eqb x y ≡ false) xs
none_same x [] h = tt
none_same x (y ∷ xs) h =
    (or_first_false (x == y) (is_among x xs) h, none_same x xs (or_second_false (x == y) (is_among x xs) h))

way_distinct : (next : ℕ → Option ℕ) (b a : ℕ) (xs : List ℕ) → Way next b a xs → IsDistinct eqb xs
unfolding IsDistinct
way_distinct next b a xs ends = (tt, tt)
way_distinct next b a xs (goes {xs = ys} e w fresh) = (none_same a ys fresh, way_distinct next b _ ys w)

way_below : (next : ℕ → Option ℕ) (n b a : ℕ) (xs : List ℕ) → StaysBelow next n → a < n → Way next b a xs → (q : ℕ) →
    list_any (eqb q) xs ≡ true → q < n
way_below next n b a xs s l ends q h =
    ⊎_elim (λ (e : (q == b) ≡ true). (let P : ℕ → Type 0 = λ x. x < n in subst P (sym (same_number q b e)) l))
    (λ (e : false ≡ true). absurd (true≢false (sym e)))
    (or_cases (q == b) false h)
way_below next n b a xs s l (goes {c = c} {xs = ys} e w fresh) q h =
    ⊎_elim (λ (f : (q == a) ≡ true). (let P : ℕ → Type 0 = λ x. x < n in subst P (sym (same_number q a f)) l))
    (λ (f : list_any (eqb q) ys ≡ true). way_below next n b c ys s (s a c e) w q f)
    (or_cases (q == a) (list_any (eqb q) ys) h)

-- the end of a way stands on the chain
chain_step : (next : ℕ → Option ℕ) (bound a c b : ℕ) → next a ≡ Some c → is_among b (chain next bound c) ≡ true →
    is_among b (chain next (suc bound) a) ≡ true
unfolding chain
chain_step next bound a c b e h = rw e (or_right (b == a) (is_among b (chain next bound c)) h)

on_chain : (next : ℕ → Option ℕ) (b a bound : ℕ) (xs : List ℕ) → Way next b a xs → length xs ≤ bound →
    is_among b (chain next bound a) ≡ true
unfolding chain
on_chain next b a zero xs ends l = absurd (omega (arith, l))
on_chain next b a (suc bound) xs ends l = or_left (b == b) _ (is_same_number b b refl)
on_chain next b a zero xs (goes e w fresh) l = absurd (omega (arith, l))
on_chain next b a (suc bound) xs (goes {c = c} {xs = ys} e w fresh) l =
    chain_step next bound a c b e (on_chain next b c bound ys w (omega (arith, l)))

first_or_rest : (next : ℕ → Option ℕ) (b a bound : ℕ) (o : Option ℕ) → next a ≡ o →
    is_among b (a ∷ elim o [ None ↦ [] | Some c ↦ chain next bound c ]) ≡ true
    → ((c : ℕ) → is_among b (chain next bound c) ≡ true → (c ≡ b) ⊎ Follows next c b) → (a ≡ b) ⊎ Follows next a b
first_or_rest next b a bound None e h later =
    ⊎_elim (λ (f : (b == a) ≡ true). inl (sym (same_number b a f))) (λ (f : false ≡ true). absurd (true≢false (sym f)))
    (or_cases (b == a) false h)
first_or_rest next b a bound (Some c) e h later =
    ⊎_elim (λ (f : (b == a) ≡ true). inl (sym (same_number b a f)))
    (λ (f : is_among b (chain next bound c) ≡ true). inr (⊎_elim
    (λ (g : c ≡ b). one (e ∙ ap (λ (x : ℕ). Some x) g))
    (λ (g : Follows next c b). more e g)
    (later c f)))
    (or_cases (b == a) (is_among b (chain next bound c)) h)

-- what stands on a chain is its first number or is reached from it
pub on_chain_follows : (next : ℕ → Option ℕ) (b a bound : ℕ) → is_among b (chain next bound a) ≡ true →
    (a ≡ b) ⊎ Follows next a b
unfolding chain
on_chain_follows next b a zero h = absurd (true≢false (sym h))
on_chain_follows next b a (suc bound) h =
    first_or_rest next b a bound (next a) refl h (λ c k. on_chain_follows next b c bound k)

-- a chain holds exactly its first number and what is reached from it
pub chain_reaches : (next : ℕ → Option ℕ) (n a b : ℕ) → StaysBelow next n → a < n →
    (is_among b (chain next n a) ≡ true) ↔ ((a ≡ b) ⊎ Follows next a b)
chain_reaches next n a b s l = (
  on_chain_follows next b a n,
  ⊎_elim
      (λ (e : a ≡ b). (let P : ℕ → Type 0 = λ x. is_among x (chain next n a) ≡ true in subst P e (first_on_chain n l)))
      (λ (f : Follows next a b).
      let w : (xs : List ℕ) × Way next b a xs = way_of_follows next a b f in
      on_chain next b a n w.0 w.1
      (length-le_from_distinct_below w.0 n (way_distinct next b a w.0 w.1) (way_below next n b a w.0 s l w.1))),
)
  where
    first_on_chain : (n : ℕ) → a < n → is_among a (chain next n a) ≡ true
    first_on_chain n l = on_chain next a a n (a ∷ []) ends (omega (arith, l))

-- what stands behind a on its chain holds a exactly where the steps come back to it
pub chain_comes_back : (next : ℕ → Option ℕ) (n a : ℕ) → StaysBelow next n →
    (is_among a (chain_behind next n a) ≡ true) ↔ ComesBack next a
unfolding chain_behind
chain_comes_back next n a s = (comes_back_from (next a) refl, back_on_chain)
  where
    comes_back_from : (o : Option ℕ) → next a ≡ o → is_among a (elim o [ None ↦ [] | Some b ↦ chain next n b ]) ≡ true →
        ComesBack next a
    comes_back_from None e h = absurd (true≢false (sym h))
    comes_back_from (Some b) e h =
        ⊎_elim (λ (g : b ≡ a). one (e ∙ ap (λ (x : ℕ). Some x) g)) (λ (g : Follows next b a). more e g)
        (on_chain_follows next a b n h)

    back_on_chain : Follows next a a → is_among a (elim (next a) [ None ↦ [] | Some b ↦ chain next n b ]) ≡ true
    back_on_chain (one e) = rw e ((chain_reaches next n a a s (s a a e)).1 (inl refl))
    back_on_chain (more {b = b} e f) = rw e ((chain_reaches next n b a s (s a b e)).1 (inr f))
