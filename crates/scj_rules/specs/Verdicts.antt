-- The report on the texts of the files of a call.
use Rattle.std.specs.Prelude.{ℕ, List, [], ◌∷◌, None}
use Rattle.scj_base.specs.declared.findings.Found.{Found}
use Rattle.scj_tree.specs.Forest.{Forest}
use Rattle.scj_rules.specs.Phases.{Reports}
use Rattle.scj_rules.specs.Syntax.{Reads, BreaksSyntax}

-- the first break of L or P in the texts, or, where they have none, the report of the program that they are, which is
-- empty exactly where no rule is broken
pub data IsReportOf (texts : List (List ℕ)) : List Found → Type 0 where
  in_texts : {found : Found} → BreaksSyntax texts found → IsReportOf texts (found ∷ [])
  in_program : {forest : Forest} {found : List Found}
      → Reads texts forest
      → Reports forest None found
      → IsReportOf texts found
