use Rattle.std.proofs.Common.{length}
use Rattle.symbol_table.proofs.ways.chain_above.Given as goal

abbrev pub decreases-loop-at : goal.decreases-loop-at
decreases-loop-at l = length l.chain
