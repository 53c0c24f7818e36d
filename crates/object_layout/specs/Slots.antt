-- The places of fields among those of an object, by one table for all classes.
use Rattle.std.specs.Prelude.{◌≡◌, ℕ, ◌+◌, ◌%◌, ◌^◌, List, [], ◌∷◌, slice_get, slice_set, Some}
use Rattle.scj_tree.specs.Recursion.{lookup}

-- the table has the place of each of these fields
abbrev pub HasIndices : List ℕ → List ℕ → Type 0
HasIndices indices fields = (k id : ℕ) → slice_get fields k ≡ Some id → lookup 0 indices id ≡ k

-- the table in which the places of these fields are noted, from a place on. Behind 2 ^ 32 - 1 comes 0.
unfoldable pub noted : List ℕ → ℕ → List ℕ → List ℕ
noted indices index [] = indices
noted indices index (id ∷ ids) = noted (slice_set indices id index) ((index + 1) % 2 ^ 32) ids
