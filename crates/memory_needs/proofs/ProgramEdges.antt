-- The edges of the graph of a program, one by one.
use Rattle.std.specs.Prelude.{◌⊎◌, Option, Some, None, slice_get, Contains, nat_lt, if◌then◌else◌}
use Rattle.std.proofs.Common.{◌≡◌, inl, inr, ℕ, ◌+◌, ◌<◌, List, [], ◌∷◌, ◌++◌, Bool, true, false, refl, sym, ap, subst, arith, ⊎_elim}
use Rattle.std.proofs.lemmas.Bool.Decides.{nat_tests}
use Rattle.std.proofs.lemmas.List.Elements.{Contains-append_left, Contains-append_right, Contains-append_cases}
use Rattle.directed_graphs.specs.Graphs.{Graph, successors}
use Rattle.scj_tree.specs.declared.nodes.Node.{Node}
use Rattle.scj_rules.proofs.ReportLemmas.{Contains-head, Contains-tail, Contains-cases, none_contained}
use Rattle.scj_rules.specs.declared.views.Body.{Body}
use Rattle.scj_rules.specs.declared.views.Body.TheVariants.{Written, Empty}
use Rattle.scj_model.specs.Code.{Code}
use Rattle.memory_needs.specs.Targets.{targets_here, targets_entered, targets}
use Rattle.memory_needs.specs.Reach.{run_parts}
use Rattle.memory_needs.specs.Edges.{written_nodes, runs_here, runs_entered, parts_of, count, body_vertex, body_vertices, vertex_behind, vertices_behind, IsGraphOf}

-- ---- lists

pub written_in : (bodies : List Body) (node : ℕ) → Contains bodies (Written node) → Contains (written_nodes bodies) node
unfolding written_nodes
written_in [] node c = absurd (none_contained (Written node) c)
written_in (Written n ∷ bodies) node c =
    of (Contains-cases (Written n) bodies (Written node) c) (λ h. written_in bodies node h)
  where
    of : (Written n ≡ Written node) ⊎ Contains bodies (Written node) →
        (Contains bodies (Written node) → Contains (written_nodes bodies) node) → Contains (n ∷ written_nodes bodies) node
    of (inl e) t =
        (let s : n ≡ node = cc (e) in
        subst (Contains (n ∷ written_nodes bodies)) s (Contains-head n (written_nodes bodies)))
    of (inr h) t = Contains-tail n (written_nodes bodies) node (t h)
written_in (Empty ∷ bodies) node c =
    ⊎_elim (λ (e : Empty ≡ Written node). absurd (cc (e))) (λ h. written_in bodies node h)
    (Contains-cases Empty bodies (Written node) c)

pub written_from : (bodies : List Body) (node : ℕ) → Contains (written_nodes bodies) node → Contains bodies (Written node)
unfolding written_nodes
written_from [] node c = absurd (none_contained node c)
written_from (Written n ∷ bodies) node c =
    ⊎_elim
    (λ (e : n ≡ node). subst (λ m. Contains (Written n ∷ bodies) (Written m)) e (Contains-head (Written n) bodies))
    (λ h. Contains-tail (Written n) bodies (Written node) (written_from bodies node h))
    (Contains-cases n (written_nodes bodies) node c)
written_from (Empty ∷ bodies) node c = Contains-tail Empty bodies (Written node) (written_from bodies node c)

module _ (code : Code) where
  vertex_there : (n node : ℕ) → n ≡ node → node < count code →
      Contains (vertex_behind (count code) n) (body_vertex code node)
  vertex_there n node s l =
      let t : nat_lt n (count code) ≡ true = grind (arith, nat_tests, s, l) in
      subst (λ xs. Contains xs (body_vertex code node)) (sym (ap (λ b. if b then (count code + n) ∷ [] else []) t))
      (subst (λ m. Contains (body_vertex code n ∷ []) (body_vertex code m)) s (Contains-head (body_vertex code n) []))

  pub vertex_in : (nodes : List ℕ) (node : ℕ) → Contains nodes node → node < count code →
      Contains (body_vertices code nodes) (body_vertex code node)
  unfolding vertices_behind
  vertex_in [] node c l = absurd (none_contained node c)
  vertex_in (n ∷ nodes) node c l =
      ⊎_elim
      (λ (s : n ≡ node). Contains-append_left (vertex_behind (count code) n) (vertices_behind (count code) nodes)
      (body_vertex code node) (vertex_there n node s l))
      (λ h. Contains-append_right (vertex_behind (count code) n) (vertices_behind (count code) nodes)
      (body_vertex code node) (vertex_in nodes node h l))
      (Contains-cases n nodes node c)

  pub vertex_from : (nodes : List ℕ) (v : ℕ) → Contains (body_vertices code nodes) v →
      (node : ℕ) × (v ≡ body_vertex code node) × (node < count code) × Contains nodes node
  unfolding vertices_behind
  vertex_from [] v c = absurd (none_contained v c)
  vertex_from (n ∷ nodes) v c =
      ⊎_elim (λ h. of (nat_lt n (count code)) refl h) (λ h. later (vertex_from nodes v h))
      (Contains-append_cases (vertex_behind (count code) n) (vertices_behind (count code) nodes) v c)
    where
      later : (node : ℕ) × (v ≡ body_vertex code node) × (node < count code) × Contains nodes node →
          (node : ℕ) × (v ≡ body_vertex code node) × (node < count code) × Contains (n ∷ nodes) node
      later h = (h.0, h.1, h.2, Contains-tail n nodes h.0 h.3)

      of : (b : Bool) → nat_lt n (count code) ≡ b → Contains (if b then (count code + n) ∷ [] else []) v →
          (node : ℕ) × (v ≡ body_vertex code node) × (node < count code) × Contains (n ∷ nodes) node
      of true e c =
          ⊎_elim
          (λ (s : body_vertex code n ≡ v). (n, sym s, (let l : n < count code = grind (arith, nat_tests) in l), Contains-head n nodes))
          (λ h. absurd (none_contained v h))
          (Contains-cases (body_vertex code n) [] v c)
      of false e c = absurd (none_contained v c)

  -- ---- an edge

  pub is_part : (id x : ℕ) (node : Node) → slice_get code.program.nodes id ≡ Some node → Contains (run_parts node) x →
      Contains (parts_of code id) x
  unfolding parts_of
  is_part id x node is c =
      subst (λ (o : Option Node). Contains (elim o [ None ↦ [] | Some n ↦ run_parts n ]) x) (sym is) c

  pub part_from : (id x : ℕ) → Contains (parts_of code id) x →
      (node : Node) × (slice_get code.program.nodes id ≡ Some node) × Contains (run_parts node) x
  unfolding parts_of
  part_from id x c = of (slice_get code.program.nodes id) refl c
    where
      of : (o : Option Node) → slice_get code.program.nodes id ≡ o →
          Contains (elim o [ None ↦ [] | Some n ↦ run_parts n ]) x →
          (node : Node) × (slice_get code.program.nodes id ≡ Some node) × Contains (run_parts node) x
      of None e c = absurd (none_contained x c)
      of (Some node) e c = (node, e, c)

  run_in : (id node : ℕ) → Contains (targets code id) (Written node) →
      Contains (runs_here code id ++ runs_entered code id) node
  unfolding targets runs_here runs_entered
  run_in id node c = of (slice_get code.program.nodes id) c
    where
      of : (o : Option Node) →
          Contains (elim o [ None ↦ [] | Some n ↦ targets_here code id n ++ targets_entered code id n ]) (Written node) →
          Contains (elim o [ None ↦ [] | Some n ↦ written_nodes (targets_here code id n) ]
          ++ elim o [ None ↦ [] | Some n ↦ written_nodes (targets_entered code id n) ]) node
      of None c = absurd (none_contained (Written node) c)
      of (Some n) c =
          ⊎_elim
          (λ h. Contains-append_left (written_nodes (targets_here code id n)) (written_nodes (targets_entered code id n)) node
          (written_in (targets_here code id n) node h))
          (λ h. Contains-append_right (written_nodes (targets_here code id n)) (written_nodes (targets_entered code id n)) node
          (written_in (targets_entered code id n) node h))
          (Contains-append_cases (targets_here code id n) (targets_entered code id n) (Written node) c)

  pub run_from : (id node : ℕ) → Contains (runs_here code id ++ runs_entered code id) node →
      Contains (targets code id) (Written node)
  unfolding targets runs_here runs_entered
  run_from id node c = of (slice_get code.program.nodes id) c
    where
      of : (o : Option Node) →
          Contains (elim o [ None ↦ [] | Some n ↦ written_nodes (targets_here code id n) ]
          ++ elim o [ None ↦ [] | Some n ↦ written_nodes (targets_entered code id n) ]) node →
          Contains (elim o [ None ↦ [] | Some n ↦ targets_here code id n ++ targets_entered code id n ]) (Written node)
      of None c = absurd (none_contained node c)
      of (Some n) c =
          ⊎_elim
          (λ h. Contains-append_left (targets_here code id n) (targets_entered code id n) (Written node)
          (written_from (targets_here code id n) node h))
          (λ h. Contains-append_right (targets_here code id n) (targets_entered code id n) (Written node)
          (written_from (targets_entered code id n) node h))
          (Contains-append_cases (written_nodes (targets_here code id n)) (written_nodes (targets_entered code id n)) node c)

  -- from a node to another one, or to a body
  pub data IsNext (id : ℕ) : ℕ → Type 0 where
    to_part : (x : ℕ) (node : Node) → slice_get code.program.nodes id ≡ Some node → Contains (run_parts node) x →
        IsNext id x
    to_body : (node : ℕ) → node < count code → Contains (targets code id) (Written node) →
        IsNext id (body_vertex code node)

  module _ (graph : Graph) (is : IsGraphOf code graph) where
    pub part_edge : (id x : ℕ) (node : Node) → id < count code → slice_get code.program.nodes id ≡ Some node →
        Contains (run_parts node) x → Contains (successors graph id) x
    part_edge id x node l there c =
        subst (λ xs. Contains xs x) (sym (is.of_nodes id l))
        (Contains-append_left (parts_of code id) (body_vertices code (runs_here code id ++ runs_entered code id)) x
        (is_part id x node there c))

    pub run_edge : (id node : ℕ) → id < count code → node < count code → Contains (targets code id) (Written node) →
        Contains (successors graph id) (body_vertex code node)
    run_edge id node l m c =
        subst (λ xs. Contains xs (body_vertex code node)) (sym (is.of_nodes id l))
        (Contains-append_right (parts_of code id) (body_vertices code (runs_here code id ++ runs_entered code id))
        (body_vertex code node) (vertex_in (runs_here code id ++ runs_entered code id) node (run_in id node c) m))

    pub body_edge : (id : ℕ) → id < count code → Contains (successors graph (body_vertex code id)) id
    body_edge id l = subst (λ xs. Contains xs id) (sym (is.of_bodies id l)) (Contains-head id [])

    pub from_node : (id v : ℕ) → id < count code → Contains (successors graph id) v → IsNext id v
    from_node id v l c =
        ⊎_elim
        (λ h. (let p = part_from id v h in to_part v p.0 p.1 p.2))
        (λ h. (let p = vertex_from (runs_here code id ++ runs_entered code id) v h in
        subst (IsNext id) (sym p.1) (to_body p.0 p.2 (run_from id p.0 p.3))))
        (Contains-append_cases (parts_of code id) (body_vertices code (runs_here code id ++ runs_entered code id)) v
        (subst (λ xs. Contains xs v) (is.of_nodes id l) c))

    pub from_body : (id v : ℕ) → id < count code → Contains (successors graph (body_vertex code id)) v → v ≡ id
    from_body id v l c =
        ⊎_elim (λ (e : id ≡ v). sym e) (λ h. absurd (none_contained v h))
        (Contains-cases id [] v (subst (λ xs. Contains xs v) (is.of_bodies id l) c))
