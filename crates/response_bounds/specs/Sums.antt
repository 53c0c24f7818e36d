-- Sums and greatest values over the numbers below a number, and how many of them pass a test.
use Rattle.std.specs.Prelude.{ℕ, zero, suc, ◌+◌, Bool, if◌then◌else◌, max}

-- f 0 + f 1 + .. + f (n - 1)
unfoldable pub sum_below : (ℕ → ℕ) → ℕ → ℕ
sum_below f zero = 0
sum_below f (suc n) = sum_below f n + f n

-- the greatest of f 0, f 1, .., f (n - 1); 0 of none
unfoldable pub max_below : (ℕ → ℕ) → ℕ → ℕ
max_below f zero = 0
max_below f (suc n) = max (max_below f n) (f n)

abbrev pub one_if : Bool → ℕ
one_if b = if b then 1 else 0

-- how many numbers below n pass
abbrev pub count_below : (ℕ → Bool) → ℕ → ℕ
count_below test n = sum_below (λ k. one_if (test k)) n
