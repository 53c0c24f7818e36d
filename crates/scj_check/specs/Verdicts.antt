-- What a verdict says of the texts of a call's files, and what the phases leave of a program.
use Rattle.std.specs.Prelude.{◌≡◌, ◌<◌, ℕ, List, length, None}
use Rattle.scj_tree.specs.Forest.{Forest}
use Rattle.scj_rules.specs.Syntax.{Reads}
use Rattle.scj_rules.specs.Contexts.{declarations_of}
use Rattle.scj_rules.specs.Bindings.{bindings_in}
use Rattle.scj_rules.specs.Phases.{Reports, IsAccepted}
use Rattle.scj_rules.specs.Verdicts.{IsReportOf}
use Rattle.scj_check.specs.declared.verdicts.Verdict.{Verdict}
use Rattle.scj_check.specs.declared.verdicts.Verdict.TheVariants.{Accepted, Refused}
use Rattle.scj_check.specs.declared.phases.Judgement.{Judgement}
use Rattle.scj_check.specs.declared.phases.Judgement.TheVariants.{Broken, Right}

-- the texts are the program, which breaks no rule; or the report is theirs and isn't empty
abbrev pub IsVerdict : List (List ℕ) → Verdict → Type 0
IsVerdict texts (Accepted checked) = Reads texts checked.program × IsAccepted checked.program
IsVerdict texts (Refused report) = (0 < length report) × IsReportOf texts report

-- the same of a program that was read
abbrev pub IsVerdictOn : Forest → Verdict → Type 0
IsVerdictOn forest (Accepted checked) = (checked.program ≡ forest) × IsAccepted forest
IsVerdictOn forest (Refused report) = (0 < length report) × Reports forest None report

-- what the phases leave: the report, or that there is none with what the nodes stand for
abbrev pub IsJudgement : Forest → Judgement → Type 0
IsJudgement forest (Broken found) = (0 < length found.items) × Reports forest None found.items
IsJudgement forest (Right bindings) = IsAccepted forest × (bindings ≡ bindings_in (declarations_of forest))
