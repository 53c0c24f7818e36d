use Rattle.std.proofs.Common.{◌≡◌, ◌++◌, length}
use Rattle.memory_needs.specs.Edges.{vertices_behind}
use Rattle.memory_needs.proofs.edges.note_bodies.Given as goal

abbrev pub invariant-loop-rest : goal.invariant-loop-rest
invariant-loop-rest l =
    l.row.items ++ vertices_behind l.count l.rest ≡ l.initial.row.items ++ vertices_behind l.count l.initial.rest

abbrev pub decreases-loop-rest : goal.decreases-loop-rest
decreases-loop-rest l = length l.rest
