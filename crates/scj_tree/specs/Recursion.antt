-- Definitions over the nodes of a program by recursion: bottom up, by the values of a node's children, which have
-- smaller numbers, and top down, by the value of its parent, which has a larger one.
use Rattle.std.specs.Prelude.{ℕ, zero, suc, ◌+◌, ◌-◌, List, [], ◌∷◌, ◌++◌, slice_index_or, nat_lt, if◌then◌else◌}

-- f at a number below the bound, and the default at any other
abbrev pub below : {A : Type 0} → A → ℕ → (ℕ → A) → ℕ → A
below default bound f n = if nat_lt n bound then f n else default

-- f at a number above the bound, and the default at any other
abbrev pub above : {A : Type 0} → A → ℕ → (ℕ → A) → ℕ → A
above default bound f n = if nat_lt bound n then f n else default

-- the item of a list at a place, and the default behind its end
abbrev pub lookup : {A : Type 0} → A → List A → ℕ → A
lookup default said n = slice_index_or said n default

-- f at the numbers from 0 up to n, as a list
unfoldable pub listed : {A : Type 0} → (ℕ → A) → ℕ → List A
listed f zero = []
listed f (suc n) = listed f n ++ f n ∷ []

-- the lists of f at the numbers from 0 up to n, end to end
unfoldable pub joined_below : {A : Type 0} → (ℕ → List A) → ℕ → List A
joined_below f zero = []
joined_below f (suc n) = joined_below f n ++ f n

-- the values of the smaller numbers, and behind them that of n, which `step` makes of theirs
abbrev pub with_next : {A : Type 0} → A → (ℕ → (ℕ → A) → A) → ℕ → List A → List A
with_next default step n said = said ++ step n (lookup default said) ∷ []

-- bottom up: the value of each number below n, which `step` makes of the values of the smaller ones
unfoldable pub bottom_up : {A : Type 0} → A → (ℕ → (ℕ → A) → A) → ℕ → List A
bottom_up default step zero = []
bottom_up default step (suc n) = with_next default step n (bottom_up default step n)

-- the value of one number, bottom up
abbrev pub by_smaller : {A : Type 0} → A → (ℕ → (ℕ → A) → A) → ℕ → A
by_smaller default step n = lookup default (bottom_up default step (suc n)) n

-- the values of the larger numbers, and before them that of n, which `step` makes of theirs
abbrev pub with_previous : {A : Type 0} → A → (ℕ → (ℕ → A) → A) → ℕ → List A → List A
with_previous default step n said = step n (above default n (λ m. lookup default said (m - (n + 1)))) ∷ said

-- top down: the values of `count` numbers from the first on, which `step` makes of the values of the larger ones
unfoldable pub top_down : {A : Type 0} → A → (ℕ → (ℕ → A) → A) → ℕ → ℕ → List A
top_down default step first zero = []
top_down default step first (suc count) = with_previous default step first (top_down default step (first + 1) count)

-- the value of one number below n, top down
abbrev pub by_larger : {A : Type 0} → A → (ℕ → (ℕ → A) → A) → ℕ → ℕ → A
by_larger default step n = lookup default (top_down default step 0 n)
