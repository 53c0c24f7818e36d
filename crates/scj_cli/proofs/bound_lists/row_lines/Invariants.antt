use Rattle.std.proofs.Common.{◌≡◌, map, string_bytes, take}
use Rattle.std.specs.List.{flat_map}
use Rattle.scj_rules.specs.Contexts.{declarations_of}
use Rattle.scj_cli.specs.BoundLists.{row_line}
use Rattle.scj_cli.proofs.bound_lists.row_lines.Given as goal

abbrev pub invariant-loop-row : goal.invariant-loop-row
invariant-loop-row l = l.text.items ≡ flat_map (row_line (declarations_of l.classes) (map string_bytes l.names))
    (take l.row-index l.rows)
