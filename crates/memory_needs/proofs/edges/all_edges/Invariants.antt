use Rattle.scj_model.specs.Code.{code_of}
use Rattle.memory_needs.specs.Edges.{edges_of_vertex}
use Rattle.memory_needs.specs.Sites.{IsTable}
use Rattle.memory_needs.proofs.edges.all_edges.Given as goal

abbrev pub invariant-loop-vertex : goal.invariant-loop-vertex
invariant-loop-vertex l = IsTable (edges_of_vertex (code_of l.code)) l.vertex l.table.items
