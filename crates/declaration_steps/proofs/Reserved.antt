-- A list of words from a place on.
use Rattle.std.proofs.Common.{◌≡◌, ℕ, zero, suc, ◌+◌, ◌||◌, List, [], ◌∷◌, Some, drop, slice_get, refl, add-one}
use Rattle.scj_base.specs.Bytes.{is_one_of, is_same}

one_behind : (b : List ℕ) (ws : List (List ℕ)) (i : ℕ) (w : List ℕ) → slice_get ws i ≡ Some w →
    is_one_of b (drop i ws) ≡ (is_same b w || is_one_of b (drop (suc i) ws))
one_behind b [] i w h = cc
one_behind b (v ∷ ws) zero w h = let e : v ≡ w = cc in rw e refl
one_behind b (v ∷ ws) (suc i) w h = one_behind b ws i w h

pub one_more : (b : List ℕ) (ws : List (List ℕ)) (i : ℕ) (w : List ℕ) → slice_get ws i ≡ Some w →
    is_one_of b (drop i ws) ≡ (is_same b w || is_one_of b (drop (i + 1) ws))
one_more b ws i w h = rw add-one (one_behind b ws i w h)
