-- Numbers among those of lists.
use Rattle.std.specs.Prelude.{◌||◌, ◌==◌}
use Rattle.std.proofs.Common.{◌≡◌, ℕ, List, [], ◌∷◌, ◌++◌, Bool, true, false, refl, sym, ◌∙◌, ap, arith, true≢false, ◌⊎◌, inl, inr}
use Rattle.std.proofs.lemmas.Bool.Decides.{nat_tests}
use Rattle.scj_rules.specs.Words.{is_among}
use Rattle.scope_flow.proofs.Known.{bool_cases}

pub among_later : (a : ℕ) (xs ys : List ℕ) → is_among a ys ≡ true → is_among a (xs ++ ys) ≡ true
among_later a [] ys h = h
among_later a (x ∷ xs) ys h = go (a == x) (among_later a xs ys h)
  where
    go : (t : Bool) → is_among a (xs ++ ys) ≡ true → (t || is_among a (xs ++ ys)) ≡ true
    go true h = refl
    go false h = h

pub among_first : (a : ℕ) (xs : List ℕ) → is_among a (a ∷ xs) ≡ true
among_first a xs = let t : (a == a) ≡ true = grind (arith, nat_tests) in ap (λ b. b || is_among a xs) t

pub among_one : (a b : ℕ) → is_among a (b ∷ []) ≡ true → a ≡ b
among_one a b h = go (bool_cases (a == b))
  where
    go : ((a == b) ≡ true) ⊎ ((a == b) ≡ false) → a ≡ b
    go (inl t) = let same : a ≡ b = grind (arith, nat_tests) in same
    go (inr t) = absurd (true≢false (sym h ∙ ap (λ t. t || false) t))

pub among_either : (a : ℕ) (xs ys : List ℕ) → is_among a (xs ++ ys) ≡ true →
    (is_among a xs ≡ true) ⊎ (is_among a ys ≡ true)
among_either a [] ys h = inr h
among_either a (x ∷ xs) ys h = go (a == x) h (among_either a xs ys)
  where
    go : (t : Bool) → (t || is_among a (xs ++ ys)) ≡ true →
        (is_among a (xs ++ ys) ≡ true → (is_among a xs ≡ true) ⊎ (is_among a ys ≡ true)) →
        ((t || is_among a xs) ≡ true) ⊎ (is_among a ys ≡ true)
    go true h ih = inl refl
    go false h ih = ih h

pub among_left : (a : ℕ) (xs ys : List ℕ) → is_among a xs ≡ true → is_among a (xs ++ ys) ≡ true
among_left a [] ys h = absurd (true≢false (sym h))
among_left a (x ∷ xs) ys h = go (a == x) h (among_left a xs ys)
  where
    go : (t : Bool) → (t || is_among a xs) ≡ true → (is_among a xs ≡ true → is_among a (xs ++ ys) ≡ true) →
        (t || is_among a (xs ++ ys)) ≡ true
    go true h ih = refl
    go false h ih = ih h
