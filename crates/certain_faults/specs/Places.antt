-- The certain fault of a node with its place, as a list.
use Rattle.std.specs.Prelude.{ℕ, List, [], ◌∷◌, Some, None}
use Rattle.scj_model.specs.Code.{Code, position_of_node}
use Rattle.certain_faults.specs.declared.found.CertainFault.{CertainFault}
use Rattle.certain_faults.specs.Faults.{certain_fault}

unfoldable pub found_at : Code → ℕ → List CertainFault
found_at code id =
    elim (certain_fault code id) [
      | None ↦ []
      | Some fault ↦ record { pos = position_of_node code id; fault = fault } ∷ []
    ]
