use Rattle.std.proofs.Common.{◌≡◌, length}
use Rattle.memory_needs.specs.Stores.{all_yes}
use Rattle.memory_needs.proofs.bounds.all_yes.Given as goal

abbrev pub invariant-loop-rest : goal.invariant-loop-rest
invariant-loop-rest l = all_yes l.rest ≡ all_yes l.fn.rows

abbrev pub decreases-loop-rest : goal.decreases-loop-rest
decreases-loop-rest l = length l.rest
