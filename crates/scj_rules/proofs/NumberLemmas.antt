-- The numbers of the elements of a list, from one on.
use Rattle.std.proofs.Common.{◌≡◌, ℕ, zero, suc, ◌+◌, ◌≤◌, ◌<◌, Bool, false, ◌||◌, List, [], ◌∷◌, ◌++◌, length, drop, flat_map, refl, sym, ap, ◌∙◌, arith, append_assoc, append-nil}
use Rattle.std.specs.List.{list_any}
use Rattle.std.proofs.lemmas.List.{drop_all}
use Rattle.scj_tree.specs.Recursion.{joined_below}
use Rattle.scj_rules.specs.ClassRules.{numbers_from}

-- the numbers from one on, and from the next
pub numbers_next : {A : Type 0} (q : ℕ → Bool) (k : ℕ) (xs : List A) → k < length xs →
    list_any q (numbers_from k (drop k xs)) ≡ (q k || list_any q (numbers_from (k + 1) (drop (k + 1) xs)))
unfolding numbers_from
numbers_next {A} q k xs l = go k xs l k
  where
    go : (i : ℕ) (xs : List A) → i < length xs → (k : ℕ) →
        list_any q (numbers_from k (drop i xs)) ≡ (q k || list_any q (numbers_from (k + 1) (drop (i + 1) xs)))
    go i [] l k = absurd (omega (arith, l))
    go zero (x ∷ xs) l k = refl
    go (suc i) (x ∷ xs) l k = let n : suc i + 1 ≡ suc (i + 1) = omega arith in go i xs (omega (arith, l)) k
        ∙ ap (λ m. q k || list_any q (numbers_from (k + 1) (drop m (x ∷ xs)))) (sym n)

pub numbers_end : {A : Type 0} (q : ℕ → Bool) (k : ℕ) (xs : List A) → length xs ≤ k →
    false ≡ list_any q (numbers_from k (drop k xs))
unfolding numbers_from
numbers_end {A} q k xs l = ap (λ (ys : List A). list_any q (numbers_from k ys)) (sym (drop_all k xs l))

-- the lists of f at all of them, end to end
joined_from : {A X : Type 0} (f : ℕ → List A) (first : ℕ) (xs : List X)
    → joined_below f first ++ flat_map f (numbers_from first xs) ≡ joined_below f (first + length xs)
unfolding joined_below numbers_from
joined_from f first [] = append-nil (joined_below f first)
    ∙ (let e : first ≡ first + 0 = omega arith in ap (joined_below f) e)
joined_from f first (x ∷ xs) =
    let e : (first + 1) + length xs ≡ first + suc (length xs) = omega arith in
    let one : first + 1 ≡ suc first = omega arith in
    sym (append_assoc (joined_below f first) (f first) (flat_map f (numbers_from (first + 1) xs)))
    ∙ ap (λ n. joined_below f n ++ flat_map f (numbers_from (first + 1) xs)) (sym one)
    ∙ joined_from f (first + 1) xs ∙ ap (joined_below f) e

pub joined_all : {A X : Type 0} (f : ℕ → List A) (xs : List X) →
    flat_map f (numbers_from 0 xs) ≡ joined_below f (length xs)
unfolding joined_below
joined_all f xs = joined_from f 0 xs
    ∙ (let e : 0 + length xs ≡ length xs = omega arith in ap (joined_below f) e)
