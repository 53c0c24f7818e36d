-- Rows of bytes, as names and texts are.
use Rattle.std.specs.Prelude.{ℕ, Bool, ◌==◌, List}
use Rattle.std.specs.List.{list_any}
use Rattle.std.specs.Cmp.Lexicographic.{pointwise}

-- two rows of bytes are the same
abbrev pub is_same : List ℕ → List ℕ → Bool
is_same = pointwise ◌==◌

-- the row of bytes is one of these
abbrev pub is_one_of : List ℕ → List (List ℕ) → Bool
is_one_of bytes rows = list_any (is_same bytes) rows
