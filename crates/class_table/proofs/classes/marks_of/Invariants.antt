use Rattle.std.proofs.Common.{◌≡◌, ℕ, true, false}
use Rattle.scj_tree.specs.Recursion.{lookup}
use Rattle.scj_rules.specs.Words.{is_among}
use Rattle.class_table.proofs.classes.marks_of.Given as goal

-- what is marked so far is among the classes
abbrev pub invariant-loop-class : goal.invariant-loop-class
invariant-loop-class l = (class : ℕ) → lookup false l.marks.items class ≡ true → is_among class l.classes ≡ true
