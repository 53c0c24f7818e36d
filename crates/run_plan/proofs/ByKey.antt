-- Lists by a number of each element: the elements of a number, and those of the numbers below it.
use Rattle.std.proofs.Common.{◌≡◌, ◌∙◌, ℕ, zero, suc, ◌+◌, ◌<◌, ◌≤◌, ◌==◌, nat_lt, true, false, List, [], ◌∷◌, length, All, filter, take_while, drop, refl, ap, sym, inl, inr, arith, one-add, nat_cmp, is_lt}
use Rattle.std.proofs.lemmas.Bool.{cases_order, lt-ltb, le-ltb, eq-eqb, ne_eqb}
use Rattle.std.proofs.lemmas.Bool.Decides.{nat_tests}
use Rattle.std.proofs.lemmas.List.Elements.{filter_agree}
use Rattle.std.specs.List.Sorted.{IsNonDecreasingBy, IsStableByKey, ties}

module _ {X : Type 0} (n : X → ℕ) where
  pub none_below : (k : ℕ) (xs : List X) → All (λ x. k ≤ n x) xs → filter (λ x. nat_lt (n x) k) xs ≡ []
  none_below k [] h = refl
  none_below k (x ∷ xs) h =
      let here : nat_lt (n x) k ≡ false = le-ltb (n x) k (h 0 x (omega arith)) in
      rw here (none_below k xs (λ i d l. h (suc i) d (omega arith)))

  pub none_at : (k : ℕ) (xs : List X) → All (λ x. k < n x) xs → filter (λ x. n x == k) xs ≡ []
  none_at k [] h = refl
  none_at k (x ∷ xs) h =
      let above : k < n x = h 0 x (omega arith) in
      let here : (n x == k) ≡ false = ne_eqb (n x) k (λ e. omega arith) in
      rw here (none_at k xs (λ i d l. h (suc i) d (omega arith)))

  -- in ascending elements those of a number stand together, behind all that are below it
  pub together : (k : ℕ) (xs : List X) → IsNonDecreasingBy n xs → take_while (λ x. n x == k) (drop (length (filter (λ x. nat_lt (n x) k) xs)) xs) ≡ filter (λ x. n x == k) xs
  together k [] up = refl
  together k (x ∷ xs) up =
      let rest = together k xs (λ i j d a b. up (suc i) (suc j) d (omega arith) (omega arith)) in
      elim (cases_order (n x) k) [
        | inl same ↦
            let below : nat_lt (n x) k ≡ false = le-ltb (n x) k (omega arith) in
            let here : (n x == k) ≡ true = eq-eqb (n x) k same in
            let none : filter (λ x. nat_lt (n x) k) xs ≡ [] = none_below k xs (λ i d l. omega (arith, up 0 (suc i) d (omega arith) (omega arith))) in
            let stand = rw none at rest in
            rw (below, none, here, one-add) (ap (λ (ys : List X). x ∷ ys) stand)
        | inr (inl less) ↦
            let below : nat_lt (n x) k ≡ true = lt-ltb (n x) k less in
            let here : (n x == k) ≡ false = ne_eqb (n x) k (λ e. omega arith) in
            rw (below, here) rest
        | inr (inr more) ↦
            let below : nat_lt (n x) k ≡ false = le-ltb (n x) k (omega arith) in
            let here : (n x == k) ≡ false = ne_eqb (n x) k (λ e. omega arith) in
            let none : filter (λ x. nat_lt (n x) k) xs ≡ [] = none_below k xs (λ i d l. omega (arith, up 0 (suc i) d (omega arith) (omega arith))) in
            let other : filter (λ x. n x == k) xs ≡ [] = none_at k xs (λ i d l. omega (arith, up 0 (suc i) d (omega arith) (omega arith))) in
            rw (below, none, here, other) refl
      ]

  -- those below the next number are those below the number and those of it
  pub next_count : (k : ℕ) (xs : List X) → length (filter (λ x. nat_lt (n x) (suc k)) xs) ≡ length (filter (λ x. nat_lt (n x) k) xs) + length (filter (λ x. n x == k) xs)
  next_count k [] = refl
  next_count k (x ∷ xs) =
      let rest = next_count k xs in
      elim (cases_order (n x) k) [
        | inl same ↦
            let next : nat_lt (n x) (suc k) ≡ true = lt-ltb (n x) (suc k) (omega arith) in
            let below : nat_lt (n x) k ≡ false = le-ltb (n x) k (omega arith) in
            let here : (n x == k) ≡ true = eq-eqb (n x) k same in
            rw (next, below, here) (omega arith)
        | inr (inl less) ↦
            let next : nat_lt (n x) (suc k) ≡ true = lt-ltb (n x) (suc k) (omega arith) in
            let below : nat_lt (n x) k ≡ true = lt-ltb (n x) k less in
            let here : (n x == k) ≡ false = ne_eqb (n x) k (λ e. omega arith) in
            rw (next, below, here) (omega arith)
        | inr (inr more) ↦
            let next : nat_lt (n x) (suc k) ≡ false = le-ltb (n x) (suc k) (omega arith) in
            let below : nat_lt (n x) k ≡ false = le-ltb (n x) k (omega arith) in
            let here : (n x == k) ≡ false = ne_eqb (n x) k (λ e. omega arith) in
            rw (next, below, here) rest
      ]

  -- two lists with the same elements of each number have as many below each number
  pub same_counts : (xs ys : List X) → ((k : ℕ) → filter (λ x. n x == k) ys ≡ filter (λ x. n x == k) xs) → (k : ℕ) → length (filter (λ x. nat_lt (n x) k) ys) ≡ length (filter (λ x. nat_lt (n x) k) xs)
  same_counts xs ys same zero =
      let none_x : filter (λ x. nat_lt (n x) 0) xs ≡ [] = none_below 0 xs (λ i d l. omega arith) in
      let none_y : filter (λ x. nat_lt (n x) 0) ys ≡ [] = none_below 0 ys (λ i d l. omega arith) in
      ap length (none_y ∙ sym none_x)
  same_counts xs ys same (suc k) =
      let before : length (filter (λ x. nat_lt (n x) k) ys) ≡ length (filter (λ x. nat_lt (n x) k) xs) = same_counts xs ys same k in
      let here : length (filter (λ x. n x == k) ys) ≡ length (filter (λ x. n x == k) xs) = ap length (same k) in
      let step_x = next_count k xs in
      let step_y = next_count k ys in
      omega arith

  -- a stable sort keeps the elements of the number of an element as they stand
  ties_are : (x y : X) → ties (λ x y. is_lt (nat_cmp (n x) (n y))) x y ≡ (n y == n x)
  ties_are x y = grind (arith, nat_tests)

  pub same_of_number : (xs ys : List X) → IsStableByKey n nat_cmp xs ys → (x : X) → filter (λ y. n y == n x) ys ≡ filter (λ y. n y == n x) xs
  same_of_number xs ys stable x =
      sym (filter_agree (ties (λ x y. is_lt (nat_cmp (n x) (n y))) x) (λ y. n y == n x) (ties_are x) ys)
      ∙ stable x
      ∙ filter_agree (ties (λ x y. is_lt (nat_cmp (n x) (n y))) x) (λ y. n y == n x) (ties_are x) xs
