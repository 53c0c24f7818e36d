use Rattle.std.proofs.Common.{◌≡◌, map, string_bytes, take}
use Rattle.std.specs.List.{flat_map}
use Rattle.scj_cli.specs.Reports.{finding_line}
use Rattle.scj_cli.proofs.reports.lines.Given as goal

abbrev pub invariant-loop-finding : goal.invariant-loop-finding
invariant-loop-finding l = string_bytes l.text ≡ flat_map (finding_line (map string_bytes l.names))
    (take l.finding-index l.found)
