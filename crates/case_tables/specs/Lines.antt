-- The bytes that a line of a table stands for.
use Rattle.std.specs.Prelude.{ℕ, ◌+◌, ◌*◌, ◌-◌, List, [], ◌∷◌, ◌++◌, length, take, Bool, cond, ◌==◌, nat_le, ◌&&◌, slice_index}

-- the value of a digit from 0 to 9 and a to f, and 0 of another byte
abbrev pub digit_of : ℕ → ℕ
digit_of byte =
    cond (nat_le 48 byte && nat_le byte 57) (byte - 48)
    (cond (nat_le 97 byte && nat_le byte 102) (byte - 87) 0)

-- whether two bytes are a backslash and an x, behind which two digits tell one byte
abbrev pub is_escape : ℕ → ℕ → Bool
is_escape first second = (first == 92) && (second == 120)

-- the bytes that a text stands for
unfoldable pub text_bytes : List ℕ → List ℕ
text_bytes [] = []
text_bytes (a ∷ []) = a ∷ []
text_bytes (a ∷ b ∷ []) = a ∷ b ∷ []
text_bytes (a ∷ b ∷ c ∷ []) = a ∷ b ∷ c ∷ []
text_bytes (a ∷ b ∷ c ∷ d ∷ rest) =
    cond (is_escape a b) ((digit_of c * 16 + digit_of d) ∷ text_bytes rest) (a ∷ text_bytes (b ∷ c ∷ d ∷ rest))

-- whether the last byte is a backslash
abbrev pub is_open : List ℕ → Bool
is_open line = slice_index line (length line - 1) == 92

-- the bytes that a line stands for: a backslash at its end takes its line feed away
unfoldable pub line_bytes : List ℕ → List ℕ
line_bytes line = cond (is_open line) (text_bytes (take (length line - 1) line)) (text_bytes line ++ 10 ∷ [])
