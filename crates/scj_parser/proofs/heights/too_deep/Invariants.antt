use Rattle.std.proofs.Common.{◌≡◌}
use Rattle.scj_parser.proofs.HeightLemmas.{Gone}
use Rattle.scj_parser.proofs.heights.too_deep.Given as goal

abbrev pub invariant-loop-next : goal.invariant-loop-next
invariant-loop-next l = record {
  gone : Gone l.nodes l.heights.first l.heights.rows.items l.next;
  first : l.heights.first ≡ l.first;
}
