use Rattle.std.proofs.Common.{◌≡◌, ◌+◌, ◌≤◌, true, length}
use Rattle.scj_cli.specs.Summaries.{prints_from}
use Rattle.scj_cli.proofs.summaries.print_count.Given as goal

-- those that were counted and those that are left are all
abbrev pub invariant-loop-rest : goal.invariant-loop-rest
invariant-loop-rest l = record {
  same : l.count + prints_from l.is_begin l.rest ≡ prints_from true l.text;
  small : l.count + length l.rest ≤ length l.text;
}

abbrev pub decreases-loop-rest : goal.decreases-loop-rest
decreases-loop-rest l = length l.rest
