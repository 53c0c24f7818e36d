-- The size that is given with `--size`: one to three decimal digits, the first of which isn't 0, of a value from 1 to
-- 250.
use Rattle.std.specs.Prelude.{ℕ, ◌+◌, ◌-◌, ◌*◌, ◌≤◌, ◌==◌, ◌&&◌, nat_le, List, [], ◌∷◌, Option, Some, None, if◌then◌else◌, option_map}
use Rattle.std.specs.Option.{option_and_then}

-- the number that a decimal digit is
unfoldable pub digit_of : ℕ → Option ℕ
digit_of b = if nat_le 48 b && nat_le b 57 then Some (b - 48) else None

-- the same of a number's first digit, which isn't 0
unfoldable pub first_digit : ℕ → Option ℕ
first_digit b = if b == 48 then None else digit_of b

-- a number with a further digit behind it
unfoldable pub with_digit : ℕ → ℕ → Option ℕ
with_digit n b = option_map (λ d. 10 * n + d) (digit_of b)

-- the number that one, two or three digits are
unfoldable pub number_of : List ℕ → Option ℕ
number_of (a ∷ []) = first_digit a
number_of (a ∷ b ∷ []) = option_and_then (λ n. with_digit n b) (first_digit a)
number_of (a ∷ b ∷ c ∷ []) =
    option_and_then (λ n. with_digit n c) (option_and_then (λ n. with_digit n b) (first_digit a))
number_of _ = None

-- a size that there is
abbrev pub IsSize : ℕ → Type 0
IsSize n = (1 ≤ n) × (n ≤ 250)

-- the size that a text is
unfoldable pub size_of : List ℕ → Option ℕ
size_of text = option_and_then (λ n. if nat_le 1 n && nat_le n 250 then Some n else None) (number_of text)
