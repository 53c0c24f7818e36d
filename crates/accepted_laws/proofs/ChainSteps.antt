-- A chain that never comes back is its first number and the chain of the next one, of the same bound.
use Rattle.std.proofs.Common.{◌≡◌, ℕ, ◌<◌, ◌≤◌, zero, suc, List, [], ◌∷◌, length, refl, sym, ap, ◌∙◌, subst, arith, Option, Some, None, true, false, ◌||◌, true≢false, ◌⊎◌, inl, inr, ⊎_elim, ◌==◌, eqb}
use Rattle.std.proofs.lemmas.Bool.{cases_Bool}
use Rattle.std.specs.List.{list_any, IsDistinct, AllByRecursion}
use Rattle.std.proofs.lemmas.Map.Steps.{length-le_from_distinct_below}
use Rattle.scj_rules.specs.Chains.{Follows, one, more, ComesBack}
use Rattle.scj_rules.specs.Words.{is_among, chain, StaysBelow}
use Rattle.scj_rules.proofs.ChainLemmas.{same_number, is_same_number, or_cases, or_left, or_right}

module _ (next : ℕ → Option ℕ) where
  abbrev rest : ℕ → Option ℕ → List ℕ
  rest bound o = elim o [ None ↦ [] | Some b ↦ chain next bound b ]

  abbrev Full : ℕ → ℕ → Type 0
  Full m b = (chain next m b ≡ chain next (suc m) b) ⊎ (length (chain next (suc m) b) ≡ suc m)

  full_step : (m b : ℕ) → ((c : ℕ) → Full m c) → Full (suc m) b
  unfolding chain
  full_step m b ih = go (next b)
    where
      go : (o : Option ℕ) → (b ∷ rest m o ≡ b ∷ rest (suc m) o) ⊎ (length (b ∷ rest (suc m) o) ≡ suc (suc m))
      go None = inl refl
      go (Some c) = elim (ih c) as (λ z. (b ∷ chain next m c ≡ b ∷ chain next (suc m) c) ⊎ (length (b ∷ chain next (suc m) c) ≡ suc (suc m))) [ inl e ↦ inl (ap (λ xs. b ∷ xs) e) | inr e ↦ inr (ap suc e) ]

  same_or_full : (m b : ℕ) → Full m b
  unfolding chain
  same_or_full zero b = inr (go (next b))
    where
      go : (o : Option ℕ) → length (b ∷ rest 0 o) ≡ 1
      go None = refl
      go (Some c) = refl
  same_or_full (suc m) b = full_step m b (same_or_full m)

  reached : (m a x : ℕ) → is_among x (chain next m a) ≡ true → (a ≡ x) ⊎ Follows next a x
  unfolding chain
  reached zero a x h = absurd (true≢false (sym h))
  reached (suc m) a x h = go (next a) refl (or_cases (x == a) (is_among x (rest m (next a))) h) (reached m)
    where
      go : (o : Option ℕ) → next a ≡ o → ((x == a) ≡ true) ⊎ (is_among x (rest m o) ≡ true) → ((c y : ℕ) → is_among y (chain next m c) ≡ true → (c ≡ y) ⊎ Follows next c y) → (a ≡ x) ⊎ Follows next a x
      go o e (inl s) ih = inl (sym (same_number x a s))
      go None e (inr s) ih = absurd (true≢false (sym s))
      go (Some c) e (inr s) ih = elim (ih c x s) as (λ z. (a ≡ x) ⊎ Follows next a x) [ inl f ↦ inr (one (e ∙ ap (λ y. Some y) f)) | inr f ↦ inr (more e f) ]

  none_same : (x : ℕ) (xs : List ℕ) → (is_among x xs ≡ true → ⊥) → AllByRecursion (λ y. eqb x y ≡ false) xs
  none_same x [] h = tt
  none_same x (y ∷ xs) h = (⊎_elim (λ (t : (x == y) ≡ true). absurd (h (ap (λ b. b || is_among x xs) t))) (λ (f : (x == y) ≡ false). f) (cases_Bool (x == y)), none_same x xs (λ k. h (elim (x == y) as (λ b. (b || is_among x xs) ≡ true) [ true ↦ refl | false ↦ k ])))

  module _ (n : ℕ) (stays : StaysBelow next n) (acyclic : (a : ℕ) → ComesBack next a → ⊥) where
    distinct : (m a : ℕ) → IsDistinct eqb (chain next m a)
    unfolding chain IsDistinct
    distinct zero a = tt
    distinct (suc m) a = go (next a) refl (distinct m)
      where
        go : (o : Option ℕ) → next a ≡ o → ((c : ℕ) → IsDistinct eqb (chain next m c)) → IsDistinct eqb (a ∷ rest m o)
        go None e ih = (tt, tt)
        go (Some c) e ih = (none_same a (chain next m c) (λ h. ⊎_elim (λ (f : c ≡ a). acyclic a (one (e ∙ ap (λ y. Some y) f))) (λ (f : Follows next c a). acyclic a (more e f)) (reached m c a h)), ih c)

    below_bound : (m a : ℕ) → a < n → (q : ℕ) → list_any (eqb q) (chain next m a) ≡ true → q < n
    unfolding chain
    below_bound zero a l q h = absurd (true≢false (sym h))
    below_bound (suc m) a l q h = go (next a) refl (or_cases (q == a) (is_among q (rest m (next a))) h) (below_bound m)
      where
        go : (o : Option ℕ) → next a ≡ o → ((q == a) ≡ true) ⊎ (is_among q (rest m o) ≡ true) → ((c : ℕ) → c < n → (q : ℕ) → list_any (eqb q) (chain next m c) ≡ true → q < n) → q < n
        go o e (inl s) ih = subst (λ x. x < n) (sym (same_number q a s)) l
        go None e (inr s) ih = absurd (true≢false (sym s))
        go (Some c) e (inr s) ih = ih c (stays a c e) q s

    -- the bound is enough
    pub unroll : (a : ℕ) → a < n → chain next n a ≡ a ∷ rest n (next a)
    unfolding chain
    unroll a l = elim (same_or_full n a) as (λ z. chain next n a ≡ a ∷ rest n (next a)) [
      | inl e ↦ e
      | inr e ↦ absurd (let m : length (chain next (suc n) a) ≤ n = length-le_from_distinct_below (chain next (suc n) a) n (distinct (suc n) a) (below_bound (suc n) a l) in omega (arith, m, e))
    ]

    module _ (top : ℕ) (alone : (a : ℕ) → a < n → next a ≡ None → a ≡ top) where
      -- a chain that is shorter than its bound has ended
      ended : (m a : ℕ) → a < n → length (chain next m a) < m → is_among top (chain next m a) ≡ true
      unfolding chain
      ended zero a l s = absurd (omega (arith, s))
      ended (suc m) a l s = go (next a) refl s (ended m)
        where
          go : (o : Option ℕ) → next a ≡ o → length (a ∷ rest m o) < suc m → ((c : ℕ) → c < n → length (chain next m c) < m → is_among top (chain next m c) ≡ true) → is_among top (a ∷ rest m o) ≡ true
          go None e s ih = or_left (top == a) false (is_same_number top a (sym (alone a l e)))
          go (Some c) e s ih = or_right (top == a) (is_among top (chain next m c)) (ih c (stays a c e) (omega (arith, s)))

      short : (a : ℕ) → a < n → length (chain next (suc n) a) ≤ n
      short a l = length-le_from_distinct_below (chain next (suc n) a) n (distinct (suc n) a) (below_bound (suc n) a l)

      -- the chain ends with the one number that has no next one
      pub ends : (a : ℕ) → a < n → is_among top (chain next n a) ≡ true
      ends a l = elim (same_or_full n a) as (λ z. is_among top (chain next n a) ≡ true) [
        | inl e ↦ ap (is_among top) e ∙ (let m = short a l in ended (suc n) a l (omega (arith, m)))
        | inr e ↦ absurd (let m = short a l in omega (arith, m, e))
      ]
