use Rattle.std.proofs.Common.{length}
use Rattle.directed_graphs.proofs.Noting.{IsNoting}
use Rattle.directed_graphs.proofs.reach.note_all.Given as goal

abbrev pub invariant-loop-index : goal.invariant-loop-index
invariant-loop-index l =
    IsNoting l.vertices (length l.initial.marks.items) l.initial.found.items l.marks.items l.found.items l.index
