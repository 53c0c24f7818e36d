-- Classes whose constructors begin with the form of a handler.
use Rattle.std.specs.Prelude.{◌≡◌, ℕ, Bool, List, [], ◌∷◌, Option, Some, None}
use Rattle.scj_rules.specs.Words.{holds}
use Rattle.scj_rules.specs.Classes.{superclass_in}
use Rattle.scj_rules.specs.Contexts.{Declarations}
use Rattle.scj_rules.specs.Types.{has_form, form_in}
use Rattle.memory_needs.specs.Causes.{class_with_form}

abbrev pub begins_with_form : Declarations → ℕ → Bool
begins_with_form p class = holds (superclass_in p.classes class) has_form

-- where a class of the chain begins with the form, it is one
pub record IsFormed (p : Declarations) (class : ℕ) : Type 0 where
  pub formed : (c : ℕ) → class_with_form p class ≡ Some c → (parts : List ℕ) × (form_in p c ≡ Some parts)

-- the storage among the arguments of a form: the last one
unfoldable pub storage_argument : List ℕ → Option ℕ
storage_argument (priority ∷ storage ∷ []) = Some storage
storage_argument (priority ∷ release ∷ storage ∷ []) = Some storage
storage_argument _ = None
