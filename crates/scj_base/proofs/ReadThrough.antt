-- An element of a list of references, and that of the list of what they point to.
use Rattle.std.proofs.Common.{◌≡◌, ℕ, zero, suc, ◌<◌, List, [], ◌∷◌, map, length, Some, slice_get, slice_index_or, Bor, refl, arith}

at_map : (rs : List (Bor (List ℕ))) (i : ℕ) (d : Bor (List ℕ)) → i < length rs →
    slice_get (map (λ r. r.now) rs) i ≡ Some (slice_index_or rs i d).now
at_map [] i d h = absurd (omega arith)
at_map (r ∷ rs) zero d h = refl
at_map (r ∷ rs) (suc i) d h = at_map rs i d (omega arith)

pub at_place : (rs : List (Bor (List ℕ))) (xs : List (List ℕ)) (i : ℕ) (d : Bor (List ℕ)) → map (λ r. r.now) rs ≡ xs →
    i < length rs → slice_get xs i ≡ Some (slice_index_or rs i d).now
at_place rs xs i d e h = rw (← e) (at_map rs i d h)
