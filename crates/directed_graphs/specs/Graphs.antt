-- Directed graphs: of each vertex, by its number, the vertices to which it has an edge.
use Rattle.std.specs.Prelude.{◌≡◌, ◌↔◌, ℕ, ◌<◌, ◌+◌, Bool, true, false, List, [], ◌∷◌, ◌++◌, length, map, Contains, slice_index_or, if◌then◌else◌}
use Rattle.std.specs.Global.{Vec}

abbrev pub Graph : Type 0
Graph = List (List ℕ)

-- as code has it
abbrev pub rows_of : List (Vec ℕ) → Graph
rows_of rows = map (λ (row : Vec ℕ). row.items) rows

-- the vertices to which a vertex has an edge; a number behind the end of the list has none
abbrev pub successors : Graph → ℕ → List ℕ
successors graph v = slice_index_or graph v []

-- what is reached from a vertex: itself, and where edges lead from what is reached
pub data IsReached (graph : Graph) (from : ℕ) : ℕ → Type 0 where
  start : IsReached graph from from
  along : (v w : ℕ) → IsReached graph from v → Contains (successors graph v) w → IsReached graph from w

-- the marks of what is reached
pub record IsReachOf (graph : Graph) (from : ℕ) (marks : List Bool) : Type 0 where
  pub whole : length marks ≡ length graph
  pub exact : (v : ℕ) → v < length graph → (slice_index_or marks v false ≡ true) ↔ IsReached graph from v

-- each edge leads to a vertex
abbrev pub EdgesStay : Graph → Type 0
EdgesStay graph = (v w : ℕ) → Contains (successors graph v) w → w < length graph

-- a vertex leads to itself: by an edge, and on from where that leads
pub record LeadsToItself (graph : Graph) (v : ℕ) : Type 0 where
  pub next : ℕ
  pub edge : Contains (successors graph v) next
  pub back : IsReached graph next v

-- the number at a place
abbrev pub at : List ℕ → ℕ → ℕ
at xs k = slice_index_or xs k 0

-- all vertices in an order, and whether each leads to itself: one that doesn't stands behind all to which it has an edge
pub record AreInOrder (graph : Graph) (order : List ℕ) (loops : List Bool) : Type 0 where
  pub whole : length loops ≡ length graph
  pub all : (v : ℕ) → v < length graph → Contains order v
  pub are : (v : ℕ) → Contains order v → v < length graph
  pub exact : (v : ℕ) → v < length graph → (slice_index_or loops v false ≡ true) ↔ LeadsToItself graph v
  pub behind : (k w : ℕ) → k < length order → slice_index_or loops (at order k) false ≡ false →
      Contains (successors graph (at order k)) w → (j : ℕ) × (j < k) × (at order j ≡ w)

-- ---- vertices that are noted while they are looked for

unfoldable pub count_of : List Bool → ℕ
count_of [] = 0
count_of (mark ∷ marks) = (if mark then 1 else 0) + count_of marks

-- the marked vertices are listed, each once
pub record AreNoted (marks : List Bool) (found : List ℕ) : Type 0 where
  pub listed : (v : ℕ) → slice_index_or marks v false ≡ true → Contains found v
  pub marked : (v : ℕ) → Contains found v → slice_index_or marks v false ≡ true
  pub once : length found ≡ count_of marks

-- the list goes on with such vertices
pub record IsLonger (before : List ℕ) (Is : ℕ → Type 0) (after : List ℕ) : Type 0 where
  pub more : List ℕ
  pub is : after ≡ before ++ more
  pub each : (v : ℕ) → Contains more v → Is v
