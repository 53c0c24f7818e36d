-- The equations of the two recursions over nodes, and that a list made node by node holds what is said of each node.
use Rattle.std.proofs.Common.{◌≡◌, ℕ, ◌+◌, ◌-◌, ◌<◌, ◌≤◌, zero, suc, List, [], ◌∷◌, ◌++◌, length, replicate, refl, sym, ap, ◌∙◌, arith, length-append, append_assoc, nat_lt, true, false, subst, Bool, ◌⊎◌, inl, inr, ⊎_elim}
use Rattle.std.specs.List.{Contains}
use Rattle.std.proofs.lemmas.Bool.{cases_lt}
use Rattle.std.proofs.lemmas.Bool.Decides.{nat_tests}
use Rattle.std.proofs.lemmas.List.Elements.{Contains-append_left, Contains-append_right, Contains-append_cases}
use Rattle.scj_tree.specs.Recursion.{below, above, lookup, listed, joined_below, bottom_up, by_smaller, top_down, by_larger}

pub lookup-front : {A : Type 0} (default : A) (xs ys : List A) (n : ℕ) → n < length xs →
    lookup default (xs ++ ys) n ≡ lookup default xs n
lookup-front default [] ys n h = absurd (omega (arith, h))
lookup-front default (x ∷ xs) ys zero h = refl
lookup-front default (x ∷ xs) ys (suc n) h = lookup-front default xs ys n (omega (arith, h))

pub lookup-next : {A : Type 0} (default : A) (xs : List A) (x : A) (n : ℕ) → length xs ≡ n →
    lookup default (xs ++ x ∷ []) n ≡ x
lookup-next default [] x zero h = refl
lookup-next default [] x (suc n) h = absurd (omega (arith, h))
lookup-next default (y ∷ xs) x zero h = absurd (omega (arith, h))
lookup-next default (y ∷ xs) x (suc n) h = lookup-next default xs x n (omega (arith, h))

pub lookup-behind : {A : Type 0} (default : A) (xs : List A) (n : ℕ) → length xs ≤ n → lookup default xs n ≡ default
lookup-behind default [] n h = refl
lookup-behind default (x ∷ xs) zero h = absurd (omega (arith, h))
lookup-behind default (x ∷ xs) (suc n) h = lookup-behind default xs n (omega (arith, h))

pub lookup-replicate : {A : Type 0} (default : A) (n k : ℕ) → lookup default (replicate n default) k ≡ default
lookup-replicate default zero k = lookup-behind default [] k (omega arith)
lookup-replicate default (suc n) zero = refl
lookup-replicate default (suc n) (suc k) = lookup-replicate default n k

pub length-bottom_up : {A : Type 0} (default : A) (step : ℕ → (ℕ → A) → A) (n : ℕ) →
    length (bottom_up default step n) ≡ n
unfolding bottom_up
length-bottom_up default step zero = refl
length-bottom_up default step (suc n) = rw length-append (omega (arith, length-bottom_up default step n))

below-or-not : (k n : ℕ) → ((nat_lt k n ≡ true) × (k < n)) ⊎ ((nat_lt k n ≡ false) × (n ≤ k))
below-or-not k n = go (nat_lt k n) refl
  where
    go : (b : Bool) → nat_lt k n ≡ b → ((nat_lt k n ≡ true) × (k < n)) ⊎ ((nat_lt k n ≡ false) × (n ≤ k))
    go true e = inl (e, grind (arith, nat_tests))
    go false e = inr (e, grind (arith, nat_tests))

-- a list that is made bottom up holds at each place what is said of that number alone
pub bottom_up-at : {A : Type 0} (default : A) (step : ℕ → (ℕ → A) → A) (n k : ℕ) → k < n →
    lookup default (bottom_up default step n) k ≡ by_smaller default step k
unfolding bottom_up
bottom_up-at default step zero k h = absurd (omega (arith, h))
bottom_up-at {A} default step (suc n) k h =
    ⊎_elim
    (λ (l : (nat_lt k n ≡ true) × (k < n)). lookup-front default (bottom_up default step n) _ k
    (omega (arith, length-bottom_up default step n, l.1)) ∙ bottom_up-at default step n k l.1)
    (λ (m : (nat_lt k n ≡ false) × (n ≤ k)).
    let e : n ≡ k = omega (arith, h, m.1) in
    (let P : ℕ → Type 0 = λ (j : ℕ). lookup default (bottom_up default step (suc n)) j ≡ by_smaller default step j in
    subst P e refl))
    (below-or-not k n)

-- the whole of such a list, as a function: what is said of the numbers below its length
pub bottom_up-below : {A : Type 0} (default : A) (step : ℕ → (ℕ → A) → A) (n k : ℕ) →
    lookup default (bottom_up default step n) k ≡ below default n (by_smaller default step) k
bottom_up-below default step n k =
    ⊎_elim
    (λ (l : (nat_lt k n ≡ true) × (k < n)). rw l.0 (bottom_up-at default step n k l.1))
    (λ (m : (nat_lt k n ≡ false) × (n ≤ k)). rw m.0
    (lookup-behind default (bottom_up default step n) k (omega (arith, length-bottom_up default step n, m.1))))
    (below-or-not k n)

-- bottom up, a number is told what is said of the smaller ones
pub by_smaller-is : {A : Type 0} (default : A) (step : ℕ → (ℕ → A) → A) (n : ℕ) →
    by_smaller default step n ≡ step n (below default n (by_smaller default step))
unfolding bottom_up
by_smaller-is default step n =
    lookup-next default (bottom_up default step n) _ n (length-bottom_up default step n)
    ∙ ap (step n) (λ i k. bottom_up-below default step n k i)

pub length-top_down : {A : Type 0} (default : A) (step : ℕ → (ℕ → A) → A) (first count : ℕ) →
    length (top_down default step first count) ≡ count
unfolding top_down
length-top_down default step first zero = refl
length-top_down default step first (suc count) = ap suc (length-top_down default step (first + 1) count)

-- the rest of a list that is made top down is the list from a later number on
top_down-drop : {A : Type 0} (default : A) (step : ℕ → (ℕ → A) → A) (first count k j : ℕ) →
    lookup default (top_down default step first (k + count)) (k + j) ≡ lookup default
    (top_down default step (first + k) count) j
unfolding top_down
top_down-drop default step first count zero j =
    let e : 0 + count ≡ count = omega arith in
    let f : first + 0 ≡ first = omega arith in
    let g : 0 + j ≡ j = omega arith in
    rw (e, f, g) refl
top_down-drop default step first count (suc k) j =
    let e : suc k + count ≡ suc (k + count) = omega arith in
    let f : first + suc k ≡ (first + 1) + k = omega arith in
    let g : suc k + j ≡ suc (k + j) = omega arith in
    rw (e, f, g) (top_down-drop default step (first + 1) count k j)

top_down-later : {A : Type 0} (default : A) (step : ℕ → (ℕ → A) → A) (k m j : ℕ)
    → above default k (λ (i : ℕ). lookup default (top_down default step (k + 1) m) (i - (k + 1))) j ≡ above default k
    (by_larger default step ((k + 1) + m)) j
top_down-later default step k m j =
    ⊎_elim
    (λ (l : (nat_lt k j ≡ true) × (k < j)).
    let e : (k + 1) + (j - (k + 1)) ≡ j = omega (arith, l.1) in
    let f : 0 + (k + 1) ≡ k + 1 = omega arith in
    let drop : lookup default (top_down default step 0 ((k + 1) + m)) ((k + 1) + (j - (k + 1))) ≡ lookup default
    (top_down default step (0 + (k + 1)) m) (j - (k + 1)) = top_down-drop default step 0 m (k + 1) (j - (k + 1)) in
    rw l.0 (sym (rw (e, f) at drop)))
    (λ (l : (nat_lt k j ≡ false) × (j ≤ k)). rw l.0 refl)
    (below-or-not k j)

-- top down, a number below the bound is told what is said of the larger ones
pub by_larger-is : {A : Type 0} (default : A) (step : ℕ → (ℕ → A) → A) (n k : ℕ) → k < n →
    by_larger default step n k ≡ step k (above default k (by_larger default step n))
unfolding top_down
by_larger-is {A} default step n k h =
    let m : ℕ = n - (k + 1) in
    let e : k + suc m ≡ n = omega (arith, h) in
    let f : (k + 1) + m ≡ n = omega (arith, h) in
    let a : k + 0 ≡ k = omega arith in
    let b : 0 + k ≡ k = omega arith in
    let first : lookup default (top_down default step 0 (k + suc m)) (k + 0) ≡ lookup default
    (top_down default step (0 + k) (suc m)) 0 = top_down-drop default step 0 (suc m) k 0 in
    let later : above default k (λ (i : ℕ). lookup default (top_down default step (k + 1) m) (i - (k + 1)))
    ≡ above default k (by_larger default step ((k + 1) + m)) = λ i j. top_down-later default step k m j i in
    (rw (e, a, b) at first) ∙ ap (step k) (rw f at later)

pub length-listed : {A : Type 0} (f : ℕ → A) (n : ℕ) → length (listed f n) ≡ n
unfolding listed
length-listed f zero = refl
length-listed f (suc n) = rw length-append (omega (arith, length-listed f n))

-- a list that is made number by number holds at each place below its length what is said of that number
pub listed-at : {A : Type 0} (default : A) (f : ℕ → A) (n k : ℕ) → lookup default (listed f n) k ≡ below default n f k
unfolding listed
listed-at default f zero k =
    let t : nat_lt k 0 ≡ false = grind (arith, nat_tests) in
    rw t refl
listed-at {A} default f (suc n) k =
    ⊎_elim
    (λ (l : (nat_lt k n ≡ true) × (k < n)).
    let t : nat_lt k (suc n) ≡ true = grind (arith, nat_tests) in
    rw t (lookup-front default (listed f n) (f n ∷ []) k (omega (arith, length-listed f n, l.1))
    ∙ (rw l.0 at (listed-at default f n k))))
    (λ (m : (nat_lt k n ≡ false) × (n ≤ k)). ⊎_elim
    (λ (u : (nat_lt k (suc n) ≡ true) × (k < suc n)).
    let e : n ≡ k = omega (arith, u.1, m.1) in
    rw u.0 (lookup-next default (listed f n) (f n) k (omega (arith, length-listed f n, e)) ∙ ap f e))
    (λ (v : (nat_lt k (suc n) ≡ false) × (suc n ≤ k)). rw v.0
    (lookup-behind default (listed f (suc n)) k (omega (arith, length-listed f (suc n), v.1))))
    (below-or-not k (suc n)))
    (below-or-not k n)

below-same : {A : Type 0} (default : A) (f g : ℕ → A) (n : ℕ) → ((k : ℕ) → k < n → f k ≡ g k) → (k : ℕ) →
    below default n f k ≡ below default n g k
below-same default f g n h k =
    ⊎_elim
    (λ (l : (nat_lt k n ≡ true) × (k < n)). rw l.0 (h k l.1))
    (λ (m : (nat_lt k n ≡ false) × (n ≤ k)). rw m.0 refl)
    (below-or-not k n)

-- the equation of a list that is made bottom up
pub bottom_up-is : {A : Type 0} (default : A) (step : ℕ → (ℕ → A) → A) (n k : ℕ) → k < n
    → lookup default (bottom_up default step n) k ≡ step k (below default k (lookup default (bottom_up default step n)))
bottom_up-is default step n k h =
    let same : (j : ℕ) → below default k (by_smaller default step) j ≡ below default k
    (lookup default (bottom_up default step n)) j =
    below-same default (by_smaller default step) (lookup default (bottom_up default step n)) k
    (λ j l. sym (bottom_up-at default step n j (omega (arith, l, h)))) in
    bottom_up-at default step n k h ∙ by_smaller-is default step k ∙ ap (step k) (λ i j. same j i)

-- one item more
pub listed_more : {A : Type 0} (f : ℕ → A) (n : ℕ) (said : List A) (v : A) → said ≡ listed f n → v ≡ f n → said ++ v
    ∷ [] ≡ listed f (n + 1)
unfolding listed
listed_more f n said v e h = ap (λ x. said ++ x ∷ []) h ∙ ap (λ xs. xs ++ f n ∷ []) e
    ∙ ap (listed f) (let g : suc n ≡ n + 1 = omega arith in g)

-- one list more
pub joined_next : {A : Type 0} (f : ℕ → List A) (n : ℕ) (first : List A) →
    first ++ joined_below f (n + 1) ≡ (first ++ joined_below f n) ++ f n
unfolding joined_below
joined_next f n first = ap (λ m. first ++ joined_below f m) (let count : n + 1 ≡ suc n = omega arith in count)
    ∙ sym (append_assoc first (joined_below f n) (f n))

-- an element of joined lists stands in one of them
pub from_joined : {X : Type 0} (f : ℕ → List X) (n : ℕ) (x : X) → Contains (joined_below f n) x → (k : ℕ) × (k < n) ×
    Contains (f k) x
unfolding joined_below
from_joined f zero x h = absurd (let l : h.0 < 0 = h.1 in omega (arith, l))
from_joined f (suc n) x h =
    ⊎_elim (λ (e : Contains (joined_below f n) x). let r = from_joined f n x e in
    (r.0, (let l : r.0 < n = r.1 in omega (arith, l)), r.2))
    (λ (e : Contains (f n) x). (n, omega arith, e))
    (Contains-append_cases (joined_below f n) (f n) x h)

pub to_joined : {X : Type 0} (f : ℕ → List X) (n k : ℕ) (x : X) → k < n → Contains (f k) x →
    Contains (joined_below f n) x
unfolding joined_below
to_joined f zero k x l h = absurd (omega (arith, l))
to_joined f (suc n) k x l h =
    ⊎_elim (λ (e : k < n). Contains-append_left (joined_below f n) (f n) x (to_joined f n k x e h))
    (λ (e : n ≤ k). let same : k ≡ n = omega (arith, e, l) in
    Contains-append_right (joined_below f n) (f n) x (subst (λ m. Contains (f m) x) same h))
    (cases_lt k n)
