use Rattle.std.proofs.Common.{◌≡◌, ◌++◌, length}
use Rattle.memory_needs.proofs.edges.note_all.Given as goal

abbrev pub invariant-loop-rest : goal.invariant-loop-rest
invariant-loop-rest l = l.row.items ++ l.rest ≡ l.initial.row.items ++ l.initial.rest

abbrev pub decreases-loop-rest : goal.decreases-loop-rest
decreases-loop-rest l = length l.rest
