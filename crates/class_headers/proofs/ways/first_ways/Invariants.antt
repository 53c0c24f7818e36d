use Rattle.std.proofs.Common.{◌≡◌, map}
use Rattle.scj_tree.specs.Recursion.{listed}
use Rattle.class_headers.specs.Ways.{way_by}
use Rattle.class_headers.proofs.ways.first_ways.Given as goal

abbrev pub invariant-loop-class : goal.invariant-loop-class
invariant-loop-class l = l.ways.items ≡ listed (way_by l.rows (map (λ v. v.items) l.lists)) l.class
