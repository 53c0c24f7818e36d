-- The rows of code as lists.
use Rattle.std.specs.Prelude.{slice_index_or}
use Rattle.std.specs.Global.{Vec}
use Rattle.std.proofs.Common.{◌≡◌, ℕ, zero, suc, ◌<◌, List, [], ◌∷◌, length, refl, arith}
use Rattle.directed_graphs.specs.Graphs.{rows_of, successors}

pub row_is : (rows : List (Vec ℕ)) (k : ℕ) (row : Vec ℕ) → k < length rows →
    (slice_index_or rows k row).items ≡ successors (rows_of rows) k
row_is [] k row l = absurd (omega (arith, l))
row_is (x ∷ rows) zero row l = refl
row_is (x ∷ rows) (suc k) row l = row_is rows k row (omega (arith, l))

pub as_many : (rows : List (Vec ℕ)) → length (rows_of rows) ≡ length rows
as_many [] = refl
as_many (x ∷ rows) = let e = as_many rows in omega (arith, e)
