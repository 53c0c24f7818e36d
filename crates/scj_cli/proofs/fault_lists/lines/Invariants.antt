use Rattle.std.proofs.Common.{◌≡◌, map, string_bytes, take}
use Rattle.std.specs.List.{flat_map}
use Rattle.scj_cli.specs.FaultLists.{fault_line}
use Rattle.scj_cli.proofs.fault_lists.lines.Given as goal

abbrev pub invariant-loop-fault : goal.invariant-loop-fault
invariant-loop-fault l = string_bytes l.text ≡ flat_map (fault_line (map string_bytes l.names))
    (take l.fault-index l.faults)
