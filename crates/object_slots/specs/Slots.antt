-- The hidden fields with which a new object begins, by how many it has.
use Rattle.std.specs.Prelude.{ℕ, ◌==◌, List, [], ◌∷◌, if◌then◌else◌, pos}
use Rattle.scj_base.specs.declared.values.Value.{Value}
use Rattle.scj_base.specs.declared.values.Value.TheVariants.{Int}

-- of a periodic handler priority, storage, start and period, and of an aperiodic one priority and storage
unfoldable pub hidden_start : ℕ → List Value
hidden_start count =
    if count == 4 then Int (pos 1) ∷ Int (pos 0) ∷ Int (pos 0) ∷ Int (pos 1) ∷ []
    else (if count == 2 then Int (pos 1) ∷ Int (pos 0) ∷ [] else [])
