-- The graph of a program. Its vertices are the nodes, each by its number, and behind them the bodies, each by that of its
-- node. An edge leads from a node to its parts and to the bodies that it may run, and from a body to its node.
use Rattle.std.specs.Prelude.{◌≡◌, ℕ, ◌<◌, ◌+◌, ◌-◌, nat_lt, if◌then◌else◌, List, [], ◌∷◌, ◌++◌, length, slice_get, None, Some}
use Rattle.directed_graphs.specs.Graphs.{Graph, successors}
use Rattle.scj_rules.specs.declared.views.Body.{Body}
use Rattle.scj_rules.specs.declared.views.Body.TheVariants.{Written, Empty}
use Rattle.scj_model.specs.Code.{Code}
use Rattle.memory_needs.specs.Targets.{targets_here, targets_entered}
use Rattle.memory_needs.specs.Reach.{run_parts}

-- the nodes of the bodies that are written
unfoldable pub written_nodes : List Body → List ℕ
written_nodes [] = []
written_nodes (Written node ∷ bodies) = node ∷ written_nodes bodies
written_nodes (Empty ∷ bodies) = written_nodes bodies

-- the bodies that the node of a number runs, here and in the area that it enters
unfoldable pub runs_here : Code → ℕ → List ℕ
runs_here code id =
    elim (slice_get code.program.nodes id) [ None ↦ [] | Some node ↦ written_nodes (targets_here code id node) ]

unfoldable pub runs_entered : Code → ℕ → List ℕ
runs_entered code id =
    elim (slice_get code.program.nodes id) [ None ↦ [] | Some node ↦ written_nodes (targets_entered code id node) ]

unfoldable pub parts_of : Code → ℕ → List ℕ
parts_of code id = elim (slice_get code.program.nodes id) [ None ↦ [] | Some node ↦ run_parts node ]

abbrev pub count : Code → ℕ
count code = length code.program.nodes

abbrev pub body_vertex : Code → ℕ → ℕ
body_vertex code node = count code + node

-- the vertex of a body behind so many nodes, if its node is one of them
abbrev pub vertex_behind : ℕ → ℕ → List ℕ
vertex_behind count node = if nat_lt node count then (count + node) ∷ [] else []

unfoldable pub vertices_behind : ℕ → List ℕ → List ℕ
vertices_behind count [] = []
vertices_behind count (node ∷ nodes) = vertex_behind count node ++ vertices_behind count nodes

abbrev pub body_vertices : Code → List ℕ → List ℕ
body_vertices code nodes = vertices_behind (count code) nodes

abbrev pub edges_of_node : Code → ℕ → List ℕ
edges_of_node code id = parts_of code id ++ body_vertices code (runs_here code id ++ runs_entered code id)

-- out of the vertex of a number
unfoldable pub edges_of_vertex : Code → ℕ → List ℕ
edges_of_vertex code vertex =
    if nat_lt vertex (count code) then edges_of_node code vertex else (vertex - count code) ∷ []

pub record IsGraphOf (code : Code) (graph : Graph) : Type 0 where
  pub whole : length graph ≡ count code + count code
  pub of_nodes : (id : ℕ) → id < count code → successors graph id ≡ edges_of_node code id
  pub of_bodies : (id : ℕ) → id < count code → successors graph (body_vertex code id) ≡ id ∷ []
