-- A walk along the edges of a graph that finds which vertices lead to themselves: the vertices on the path, in groups in
-- each of which every vertex is reached from every other one; the edges out of each group that are still to be followed;
-- and the vertices from which all has been followed (the path-based algorithm for strong components).
use Rattle.std.specs.Prelude.{◌≡◌, ◌↔◌, ℕ, ◌<◌, ◌≤◌, ◌+◌, ◌⊎◌, nat_lt, Bool, true, false, List, [], ◌∷◌, ◌++◌, length, slice_set, Contains, slice_get, Some, slice_index_or, if◌then◌else◌}
use Rattle.directed_graphs.specs.declared.order.Group.{Group}
use Rattle.directed_graphs.specs.declared.order.Mark.{Mark}
use Rattle.directed_graphs.specs.declared.order.Search.{Search}
use Rattle.directed_graphs.specs.declared.order.Mark.TheVariants.{Unseen, OnPath, Done}
use Rattle.directed_graphs.specs.Graphs.{Graph, successors, IsReached, LeadsToItself, at}

pub record Walk : Type 0 where
  pub marks : List Mark
  pub path : List ℕ
  pub edges : List ℕ
  pub groups : List Group
  pub order : List ℕ
  pub loops : List Bool

-- how many groups begin at a place or before it, by where each begins
unfoldable pub level : (Group → ℕ) → List Group → ℕ → ℕ
level begin [] n = 0
level begin (g ∷ gs) n = (if nat_lt n (begin g) then 0 else 1) + level begin gs n

-- the group in which a vertex stands, by its place on the path, and that of an edge, counted from 1
abbrev pub group_of : Walk → ℕ → ℕ
group_of m i = level (λ (g : Group). g.vertex) m.groups i

abbrev pub group_of_edge : Walk → ℕ → ℕ
group_of_edge m e = level (λ (g : Group). g.edge) m.groups e

-- each group has a vertex, and begins behind those before it
pub record AreGroups (m : Walk) : Type 0 where
  pub rise : (a b : ℕ) (g h : Group) → slice_get m.groups a ≡ Some g → slice_get m.groups b ≡ Some h → a < b →
      (g.vertex < h.vertex) × (g.edge ≤ h.edge)
  pub within : (a : ℕ) (g : Group) → slice_get m.groups a ≡ Some g → (g.vertex < length m.path) × (g.edge ≤ length m.edges)
  pub first : (i : ℕ) → i < length m.path → 0 < group_of m i

-- where a vertex is
abbrev pub mark_of : Walk → ℕ → Mark
mark_of m v = slice_index_or m.marks v Unseen

-- the marks tell where vertices are
pub record AreMarked (graph : Graph) (m : Walk) : Type 0 where
  pub marked : length m.marks ≡ length graph
  pub on_path : (v k : ℕ) → mark_of m v ≡ OnPath k → (k < length m.path) × (at m.path k ≡ v)
  pub has_mark : (k : ℕ) → k < length m.path → mark_of m (at m.path k) ≡ OnPath k
  pub done : (v : ℕ) → mark_of m v ≡ Done → Contains m.order v
  pub is_done : (v : ℕ) → Contains m.order v → mark_of m v ≡ Done

-- an edge to a vertex is still to be followed, out of this group
pub record IsLeft (m : Walk) (group w : ℕ) : Type 0 where
  pub edge : ℕ
  pub within : edge < length m.edges
  pub is : at m.edges edge ≡ w
  pub of_group : group_of_edge m edge ≡ group

-- a vertex stands on the path, in this group or behind it
pub record StandsFrom (m : Walk) (group w : ℕ) : Type 0 where
  pub index : ℕ
  pub within : index < length m.path
  pub is : at m.path index ≡ w
  pub from : group ≤ group_of m index

-- what is known of the edges of the vertices on the path; `Late` are those that have just been taken
pub record AreEdges (graph : Graph) (m : Walk) (Late : ℕ → ℕ → Type 0) : Type 0 where
  pub reach : (i j : ℕ) → i < length m.path → j < length m.path → group_of m i ≤ group_of m j →
      IsReached graph (at m.path i) (at m.path j)
  pub left : (e : ℕ) → e < length m.edges →
      (i : ℕ) × (i < length m.path) × (group_of m i ≡ group_of_edge m e)
      × Contains (successors graph (at m.path i)) (at m.edges e)
  pub followed : (i w : ℕ) → i < length m.path → Contains (successors graph (at m.path i)) w →
      IsLeft m (group_of m i) w ⊎ (Contains m.order w ⊎ (StandsFrom m (group_of m i) w ⊎ Late (group_of m i) w))

-- an edge leads from a vertex of a group to one of the same
pub record HasEdgeInside (graph : Graph) (m : Walk) (group : ℕ) : Type 0 where
  pub from : ℕ
  pub to : ℕ
  pub from_within : from < length m.path
  pub to_within : to < length m.path
  pub from_group : group_of m from ≡ group
  pub to_group : group_of m to ≡ group
  pub edge : Contains (successors graph (at m.path from)) (at m.path to)

-- a group has one vertex, and no edge from it to itself has been followed
pub record IsAlone (graph : Graph) (m : Walk) (Late : ℕ → ℕ → Type 0) (group : ℕ) : Type 0 where
  pub one : (i j : ℕ) → i < length m.path → j < length m.path → group_of m i ≡ group → group_of m j ≡ group → i ≡ j
  pub no_edge : (i : ℕ) → i < length m.path → group_of m i ≡ group →
      Contains (successors graph (at m.path i)) (at m.path i) → IsLeft m group (at m.path i) ⊎ Late group (at m.path i)

-- the groups in which an edge leads back are marked
pub record AreReported (graph : Graph) (m : Walk) (Late : ℕ → ℕ → Type 0) : Type 0 where
  pub loop : (a : ℕ) (g : Group) → slice_get m.groups a ≡ Some g → g.loops ≡ true → HasEdgeInside graph m (a + 1)
  pub alone : (a : ℕ) (g : Group) → slice_get m.groups a ≡ Some g → g.loops ≡ false → IsAlone graph m Late (a + 1)

-- of the vertices from which all has been followed all is known
pub record AreDone (graph : Graph) (m : Walk) : Type 0 where
  pub whole : length m.loops ≡ length graph
  pub closed : (v w : ℕ) → Contains m.order v → Contains (successors graph v) w → Contains m.order w
  pub exact : (v : ℕ) → Contains m.order v → (slice_index_or m.loops v false ≡ true) ↔ LeadsToItself graph v
  pub behind : (k w : ℕ) → k < length m.order → slice_index_or m.loops (at m.order k) false ≡ false →
      Contains (successors graph (at m.order k)) w → (j : ℕ) × (j < k) × (at m.order j ≡ w)

pub record IsWalkBut (graph : Graph) (m : Walk) (Late : ℕ → ℕ → Type 0) : Type 0 where
  pub groups : AreGroups m
  pub marks : AreMarked graph m
  pub edges : AreEdges graph m Late
  pub reported : AreReported graph m Late
  pub done : AreDone graph m

abbrev pub IsWalk : Graph → Walk → Type 0
IsWalk graph m = IsWalkBut graph m (λ group w. ⊥)

-- an edge out of the last group, to this vertex, is being followed
abbrev pub Follows : Walk → ℕ → ℕ → ℕ → Type 0
Follows m w group x = (group ≡ length m.groups) × (x ≡ w)

pub record IsFollowing (graph : Graph) (m : Walk) (w : ℕ) : Type 0 where
  pub walk : IsWalkBut graph m (Follows m w)
  pub source : ℕ
  pub within : source < length m.path
  pub of_group : group_of m source ≡ length m.groups
  pub edge : Contains (successors graph (at m.path source)) w

-- ---- steps

-- as code has it
abbrev pub walk_of : Search → Walk
walk_of s = record {
  marks = s.marks.items;
  path = s.path.items;
  edges = s.edges.items;
  groups = s.groups.items;
  order = s.order.items;
  loops = s.loops.items;
}

-- a vertex as the last group
abbrev pub entering : Walk → Group
entering m = record { vertex = length m.path; edge = length m.edges; loops = false }

abbrev pub entered : Graph → Walk → ℕ → Walk
entered graph m w = record {
  marks = slice_set m.marks w (OnPath (length m.path));
  path = m.path ++ w ∷ [];
  edges = m.edges ++ successors graph w;
  groups = m.groups ++ entering m ∷ [];
  order = m.order;
  loops = m.loops;
}

-- the first groups, and one in which an edge leads back
abbrev pub marked_loop : Group → Group
marked_loop g = record g { loops = true }

abbrev pub merged : Walk → List Group → Group → Walk
merged m gs g = record m { groups = gs ++ marked_loop g ∷ [] }

pub record IsMerged (m : Walk) (index : ℕ) (after : Walk) : Type 0 where
  pub first : List Group
  pub last : Group
  pub more : List Group
  pub split : m.groups ≡ first ++ last ∷ more
  pub from : last.vertex ≤ index
  pub behind : (k : ℕ) (h : Group) → slice_get more k ≡ Some h → index < h.vertex
  pub is : after ≡ merged m first last

-- what is told of vertices is as it was but for those of a list
pub record AreSet {A : Type 0} (default value : A) (list : List ℕ) (before after : List A) : Type 0 where
  pub whole : length after ≡ length before
  pub each : (v : ℕ) → (Contains list v × (slice_index_or after v default ≡ value))
      ⊎ ((Contains list v → ⊥) × (slice_index_or after v default ≡ slice_index_or before v default))

-- the vertices of a group that was the last one are listed; it is gone from the groups before
pub record IsClosed (group : Group) (m : Walk) (after : Walk) : Type 0 where
  pub low : List ℕ
  pub high : List ℕ
  pub split : m.path ≡ low ++ high
  pub begins : length low ≡ group.vertex
  pub marked : AreSet Unseen Done high m.marks after.marks
  pub reported : AreSet false group.loops high m.loops after.loops
  pub path : after.path ≡ low
  pub edges : after.edges ≡ m.edges
  pub groups : after.groups ≡ m.groups
  pub order : after.order ≡ m.order ++ high

-- ---- how far the walk is

-- of each vertex that hasn't been seen two steps, and one for each of its edges
unfoldable pub steps_unseen : Graph → List Mark → ℕ
steps_unseen [] marks = 0
steps_unseen (row ∷ rows) [] = 0
steps_unseen (row ∷ rows) (Unseen ∷ marks) = length row + 2 + steps_unseen rows marks
steps_unseen (row ∷ rows) (mark ∷ marks) = steps_unseen rows marks

abbrev pub steps_left : Graph → Walk → ℕ
steps_left graph m = steps_unseen graph m.marks + length m.edges + length m.groups

-- what was seen is seen
pub record SeesMore (m : Walk) (after : Walk) : Type 0 where
  pub is : (v : ℕ) → mark_of after v ≡ Unseen → mark_of m v ≡ Unseen

-- the walk goes on, and no more steps are left
pub record GoesOn (graph : Graph) (m : Walk) (after : Walk) : Type 0 where
  pub walk : IsWalk graph after
  pub no_more : steps_left graph after ≤ steps_left graph m
  pub sees : SeesMore m after

-- the walk goes on, and fewer steps are left
pub record Advances (graph : Graph) (m : Walk) (after : Walk) : Type 0 where
  pub walk : IsWalk graph after
  pub fewer : steps_left graph after < steps_left graph m
  pub sees : SeesMore m after

-- the walk has come to its end: no group is left on the path
pub record Ends (graph : Graph) (m : Walk) (after : Walk) : Type 0 where
  pub walk : IsWalk graph after
  pub none : after.groups ≡ []
  pub sees : SeesMore m after
