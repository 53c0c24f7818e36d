-- The open areas, in the order in which they were opened.
use Rattle.std.specs.Prelude.{ℕ, ◌+◌, List, [], ◌∷◌, if◌then◌else◌}
use Rattle.scj_model.specs.State.{MemoryArea, Object}
use Rattle.region_heap.specs.declared.open_areas.Area.{Area}
use Rattle.region_heap.specs.Kept.{used_bytes}

-- those that are open of these areas, numbered from n on, with the bytes that these objects take of each
unfoldable pub open_areas : List Object → ℕ → List MemoryArea → List Area
open_areas objects n [] = []
open_areas objects n (x ∷ xs) =
    if x.is_open
    then record { name = x.scope; bytes = x.bytes; used = used_bytes objects n } ∷ open_areas objects (n + 1) xs
    else open_areas objects (n + 1) xs
