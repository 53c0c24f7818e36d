-- Programs that are accepted: read from some texts, and breaking no rule.
use Rattle.scj_tree.specs.Forest.{Forest, IsForest}
use Rattle.scj_rules.specs.CheckedProgram.{IsReadFromTexts}
use Rattle.scj_rules.specs.Phases.{IsAccepted}

-- the program is a forest, some texts read as it, and no rule is broken in it
pub record IsAcceptedProgram (forest : Forest) : Type 0 where
  pub whole : IsForest forest
  pub is_read : IsReadFromTexts forest
  pub is_accepted : IsAccepted forest
