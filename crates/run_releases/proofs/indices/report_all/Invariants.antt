use Rattle.std.proofs.Common.{◌≡◌, ◌++◌, take}
use Rattle.std.specs.List.{flat_map}
use Rattle.run_releases.specs.Counts.{report_at}
use Rattle.run_releases.proofs.indices.report_all.Given as goal

abbrev pub invariant-loop-index : goal.invariant-loop-index
invariant-loop-index l =
    l.reported.items ≡ l.initial.reported.items ++ flat_map (report_at l.rows l.unit) (take l.index-index l.indices)
