-- The texts of a call's files.
use Rattle.std.specs.Prelude.{ℕ, List, map}

-- the bytes of the files, without their names
abbrev pub texts_of : List (List ℕ × List ℕ) → List (List ℕ)
texts_of sources = map (λ s. s.1) sources
