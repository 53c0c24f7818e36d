-- The children of a node, as code tells them.
use Rattle.std.specs.Prelude.{ℕ, List, [], ◌∷◌, ◌++◌}
use Rattle.scj_tree.specs.declared.parts.Parts.{Parts}
use Rattle.scj_tree.specs.declared.parts.Parts.TheVariants.{Nothing, One, Two, Four, Listed}
use Rattle.scj_tree.specs.Shape.{optional}

abbrev pub ids_of : Parts → List ℕ
ids_of Nothing = []
ids_of (One child) = child ∷ []
ids_of (Two first second) = first ∷ second ∷ []
ids_of (Four first second third fourth) =
    optional first ++ (optional second ++ (optional third ++ optional fourth))
ids_of (Listed first second list) = optional first ++ (optional second ++ list.now)
