-- What is broken at a class, and rows in which each class stands.
use Rattle.std.specs.Prelude.{◌≡◌, ◌<◌, ℕ, true, List, length}
use Rattle.scj_base.specs.declared.findings.Found.{Found}
use Rattle.scj_tree.specs.Forest.{Forest}
use Rattle.scj_rules.specs.Words.{is_among}
use Rattle.scj_rules.specs.Contexts.{declarations_of}
use Rattle.scj_rules.specs.Phases.{at_class}
use Rattle.class_rules.specs.Parts.{class_found}

-- what is broken at a class
abbrev pub broken_at_class : Forest → ℕ → List Found
broken_at_class forest class = at_class (declarations_of forest) (class_found (declarations_of forest)) class

-- each class is among these
abbrev pub HasEach : Forest → List ℕ → Type 0
HasEach forest classes = (class : ℕ) → class < length (declarations_of forest).classes → is_among class classes ≡ true
