use Rattle.std.proofs.Common.{◌≡◌, length, max}
use Rattle.scj_tree.specs.Heights.{highest}
use Rattle.scj_parser.specs.HeightRowsSupport.{row}
use Rattle.scj_parser.proofs.heights.Heights.of_list.Given as goal

abbrev pub invariant-loop-rest : goal.invariant-loop-rest
invariant-loop-rest l = highest (row l.self.first l.self.rows.items) l.fn.list ≡ max l.highest
    (highest (row l.self.first l.self.rows.items) l.rest)

abbrev pub decreases-loop-rest : goal.decreases-loop-rest
decreases-loop-rest l = length l.rest
