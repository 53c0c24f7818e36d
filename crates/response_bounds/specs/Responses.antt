-- The response that follows from what is declared: the least number of units in which all work is done.
use Rattle.std.specs.Prelude.{◌≤◌, ◌<◌, ℕ, zero, suc, ◌==◌, nat_le, Bool, true, ◌&&◌, List, [], ◌∷◌, ◌++◌, length, Option, Some, None, if◌then◌else◌}
use Rattle.response_bounds.specs.declared.rows.Declared.{Declared}
use Rattle.response_bounds.specs.declared.responses.Response.{Response}
use Rattle.response_bounds.specs.declared.responses.Response.TheVariants.{Bound, NoBound}
use Rattle.response_bounds.specs.Rows.{row_at, demand}

-- x units are a bound for row i: from 1 to its gap, and no more is to be done in them
pub record IsBound (rows : List Declared) (i x : ℕ) : Type 0 where
  pub is_row : i < length rows
  pub from : 1 ≤ x
  pub upto : x ≤ (row_at rows i).gap
  pub serves : demand rows i x ≤ x

-- ---- the response of a row: the least bound, and none exactly where there is no bound

abbrev pub serves : List Declared → ℕ → ℕ → Bool
serves rows i x = nat_le (demand rows i x) x

-- the first of the n numbers from x on that passes
unfoldable pub first_from : (ℕ → Bool) → ℕ → ℕ → Option ℕ
first_from test x zero = None
first_from test x (suc n) = if test x then Some x else first_from test (suc x) n

abbrev pub response : Option ℕ → Response
response None = NoBound
response (Some x) = Bound x

unfoldable pub response_of : List Declared → ℕ → Response
response_of rows i = response (first_from (serves rows i) 1 (row_at rows i).gap)

-- those of the first n rows
unfoldable pub responses_below : List Declared → ℕ → List Response
responses_below rows zero = []
responses_below rows (suc n) = responses_below rows n ++ (response_of rows n ∷ [])

unfoldable pub responses_of : List Declared → List Response
responses_of rows = responses_below rows (length rows)

-- ---- claimed responses

-- what is claimed for row i holds: a bound is one, and to claim none is always right
unfoldable pub is_right : List Declared → ℕ → Response → Bool
is_right rows i NoBound = true
is_right rows i (Bound x) = (nat_le 1 x && nat_le x (row_at rows i).gap) && serves rows i x

-- for row i and those behind it
unfoldable pub are_right_from : List Declared → ℕ → List Response → Bool
are_right_from rows i [] = true
are_right_from rows i (claim ∷ rest) = is_right rows i claim && are_right_from rows (suc i) rest

-- one for each row, and each holds
unfoldable pub are_bounds : List Declared → List Response → Bool
are_bounds rows claims = (length rows == length claims) && are_right_from rows 0 claims
