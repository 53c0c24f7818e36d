-- Rows that are set, and lists that are read from their end.
use Rattle.std.proofs.Common.{◌≡◌, ℕ, zero, suc, ◌+◌, ◌≤◌, List, [], ◌∷◌, ◌++◌, length, drop, Some, slice_get, slice_set, refl, ap, arith}

pub set_here : {A : Type 0} (xs ys : List A) (x y : A) → slice_set (xs ++ x ∷ ys) (length xs) y ≡ xs ++ y ∷ ys
set_here [] ys x y = refl
set_here (z ∷ xs) ys x y = ap (λ l. z ∷ l) (set_here xs ys x y)

pub drop_here : {A : Type 0} (xs : List A) (k : ℕ) (x : A) → slice_get xs k ≡ Some x →
    drop k xs ≡ x ∷ drop (k + 1) xs
drop_here [] k x e = absurd (cc (e))
drop_here (y ∷ ys) zero x e = let same : y ≡ x = cc in ap (λ z. z ∷ ys) same
drop_here (y ∷ ys) (suc k) x e =
    let f : suc k + 1 ≡ suc (k + 1) = omega arith in
    rw f (drop_here ys k x e)

pub drop_behind : {A : Type 0} (xs : List A) (k : ℕ) → length xs ≤ k → drop k xs ≡ []
drop_behind [] zero h = refl
drop_behind [] (suc k) h = refl
drop_behind (x ∷ xs) zero h = absurd (omega (arith, h))
drop_behind (x ∷ xs) (suc k) h = drop_behind xs k (omega (arith, h))
