use Rattle.std.proofs.Common.{◌≡◌, false, take}
use Rattle.std.specs.List.{list_any}
use Rattle.run_releases.specs.Counts.{is_under_way_at}
use Rattle.run_releases.proofs.indices.any_started.Given as goal

abbrev pub invariant-loop-index : goal.invariant-loop-index
invariant-loop-index l = list_any (is_under_way_at l.rows) (take l.index-index l.indices) ≡ false
