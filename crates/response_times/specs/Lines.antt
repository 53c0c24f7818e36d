-- The lines that tell responses.
use Rattle.std.specs.Prelude.{ℕ, suc, List, [], ◌∷◌, ◌++◌, codes, decimal}
use Rattle.response_bounds.specs.declared.rows.Declared.{Declared}
use Rattle.response_bounds.specs.declared.responses.Response.{Response}
use Rattle.response_bounds.specs.declared.responses.Response.TheVariants.{Bound, NoBound}
use Rattle.response_bounds.specs.Rows.{row_at, blocking, other_work}

-- `K bound X block B own C other O` for a bound, and else `K none`
abbrev pub response_line : List Declared → ℕ → Response → List ℕ
response_line rows i NoBound = decimal (suc i) ++ codes " none\n"
response_line rows i (Bound x) =
    decimal (suc i) ++ (codes " bound " ++ (decimal x
    ++ (codes " block " ++ (decimal (blocking rows i)
    ++ (codes " own " ++ (decimal (row_at rows i).cost
    ++ (codes " other " ++ (decimal (other_work rows i x) ++ codes "\n"))))))))

-- for row i and those behind it
unfoldable pub lines_from : List Declared → ℕ → List Response → List ℕ
lines_from rows i [] = []
lines_from rows i (response ∷ rest) = response_line rows i response ++ lines_from rows (suc i) rest

unfoldable pub response_lines : List Declared → List Response → List ℕ
response_lines rows responses = lines_from rows 0 responses
