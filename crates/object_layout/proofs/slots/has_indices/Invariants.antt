use Rattle.std.proofs.Common.{◌≡◌, ◌<◌, ℕ, Some, slice_get}
use Rattle.scj_tree.specs.Recursion.{lookup}
use Rattle.object_layout.proofs.slots.has_indices.Given as goal

-- the table has the places of the fields so far
abbrev pub invariant-loop-k : goal.invariant-loop-k
invariant-loop-k l = (j id : ℕ) → j < l.k → slice_get l.fields j ≡ Some id → lookup 0 l.indices id ≡ j
