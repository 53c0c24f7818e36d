-- What a run that tells its memory areas puts on `out`.
use Rattle.std.specs.Prelude.{ℕ, List, []}
use Rattle.plain_machine.specs.AreaTexts.{areas_text}
use Rattle.scj_cli.specs.Outcomes.{Outcome, Reported, Unplanned, Ran}
use Rattle.scj_cli.specs.Reports.{report_text}

abbrev pub areas_out : List (List ℕ) → Outcome → List ℕ
areas_out names (Reported found) = report_text names found
areas_out names (Unplanned refusal) = []
areas_out names (Ran forest p) = areas_text forest p names
