use Rattle.std.proofs.Common.{◌≡◌, length}
use Rattle.scj_cli.specs.Summaries.{last_line_from}
use Rattle.scj_cli.proofs.summaries.last_line.Given as goal

abbrev pub invariant-loop-rest : goal.invariant-loop-rest
invariant-loop-rest l = last_line_from l.line l.rest ≡ last_line_from l.text l.text

abbrev pub decreases-loop-rest : goal.decreases-loop-rest
decreases-loop-rest l = length l.rest
