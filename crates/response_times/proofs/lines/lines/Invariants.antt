use Rattle.std.proofs.Common.{◌≡◌, ◌++◌, drop, string_bytes}
use Rattle.response_times.specs.Lines.{lines_from}
use Rattle.response_times.proofs.lines.lines.Given as goal

abbrev pub invariant-loop-response : goal.invariant-loop-response
invariant-loop-response l =
    (l.row ≡ l.response-index)
    × (string_bytes l.text ++ lines_from l.rows l.row (drop l.response-index l.responses)
    ≡ lines_from l.rows 0 l.responses)
