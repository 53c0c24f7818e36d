use Rattle.std.proofs.Common.{◌≡◌, ◌+◌, length}
use Rattle.std.specs.Prelude.{min}
use Rattle.scj_tree.specs.Recursion.{lookup}
use Rattle.memory_needs.specs.Need.{sum_of, too_much}
use Rattle.memory_needs.proofs.sums.sum_of.Given as goal

abbrev pub invariant-loop-rest : goal.invariant-loop-rest
invariant-loop-rest l = record {
  same : min too_much (sum_of (lookup 0 l.rows) l.fn.ids) ≡ min too_much (l.all + sum_of (lookup 0 l.rows) l.rest);
  small : min too_much l.all ≡ l.all;
}

abbrev pub decreases-loop-rest : goal.decreases-loop-rest
decreases-loop-rest l = length l.rest
