-- Rows that are listed class after class.
use Rattle.std.specs.Prelude.{◌≡◌, ℕ, Bool, List, [], ◌∷◌, ◌++◌, map, Contains, if◌then◌else◌}
use Rattle.scj_model.specs.Code.{Code}
use Rattle.memory_needs.specs.declared.answers.BoundRow.{BoundRow}
use Rattle.memory_needs.specs.Rows.{is_concrete_handler, IsAnswer}

-- a number by itself, if it passes a test
abbrev pub if_picked : (ℕ → Bool) → ℕ → List ℕ
if_picked test n = if test n then n ∷ [] else []

-- there is a row for each of these classes, with its answer
pub record AreRowsFor (code : Code) (classes : List ℕ) (rows : List BoundRow) : Type 0 where
  pub of_classes : map (λ (row : BoundRow). row.handler) rows ≡ classes
  pub are_answers : (row : BoundRow) → Contains rows row → IsAnswer code row.handler row.answer

-- the rows go on with that of a class, if it is a concrete handler class
pub record IsWithRow (code : Code) (class : ℕ) (before after : List BoundRow) : Type 0 where
  pub more : List BoundRow
  pub is : after ≡ before ++ more
  pub are : AreRowsFor code (if_picked (is_concrete_handler code.program) class) more
