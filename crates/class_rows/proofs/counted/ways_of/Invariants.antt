use Rattle.std.proofs.Common.{◌≡◌}
use Rattle.scj_tree.specs.Recursion.{listed}
use Rattle.scj_rules.specs.Contexts.{declarations_of}
use Rattle.class_headers.specs.Ways.{way_in}
use Rattle.class_rows.proofs.counted.ways_of.Given as goal

abbrev pub invariant-loop-number : goal.invariant-loop-number
invariant-loop-number l = l.ways.items ≡ listed (way_in (declarations_of l.written).classes) l.number
