-- What is reached in the graph of a program is what is reached in the program.
use Rattle.std.specs.Prelude.{◌⊎◌, ◌↔◌, Some, slice_get, Contains, nat_lt}
use Rattle.std.proofs.Common.{◌≡◌, inl, inr, ℕ, zero, suc, ◌<◌, List, [], ◌∷◌, length, Bool, true, false, refl, sym, subst, arith}
use Rattle.std.proofs.lemmas.Bool.Decides.{nat_tests}
use Rattle.directed_graphs.specs.Graphs.{Graph, successors, IsReached, start, along, LeadsToItself}
use Rattle.directed_graphs.proofs.Paths.{reached_then, stays_in}
use Rattle.scj_tree.specs.declared.nodes.Node.{Node}
use Rattle.scj_tree.specs.Forest.{ChildrenFirst}
use Rattle.scj_rules.specs.declared.views.Body.{Body}
use Rattle.scj_rules.specs.declared.views.Body.TheVariants.{Written, Empty}
use Rattle.scj_model.specs.Code.{Code}
use Rattle.memory_needs.specs.Targets.{targets}
use Rattle.memory_needs.specs.Reach.{run_parts, IsIn, itself, in_part, IsInBody, MayRun, Leads, at_once, by_another, handler_body, Reaches, begins, goes_on}
use Rattle.memory_needs.specs.Edges.{count, body_vertex, IsGraphOf}
use Rattle.memory_needs.proofs.Agree.{part_is_smaller}
use Rattle.memory_needs.proofs.Settled.{runs_none, no_node}
use Rattle.memory_needs.proofs.ProgramEdges.{IsNext, to_part, to_body, part_edge, run_edge, body_edge, from_node, from_body}

module _ (code : Code) (first : ChildrenFirst 0 code.program.nodes) (graph : Graph) (is : IsGraphOf code graph) where
  -- a node that is there
  pub there_is : (nodes : List Node) (id : ℕ) (node : Node) → slice_get nodes id ≡ Some node → id < length nodes
  there_is [] id node e = absurd (cc (e))
  there_is (n ∷ nodes) zero node e = omega arith
  there_is (n ∷ nodes) (suc id) node e = let l = there_is nodes id node e in omega (arith, l)

  pub inside_below : (whole id : ℕ) → whole < count code → IsIn code.program.nodes whole id → id < count code
  inside_below whole _ l itself = l
  inside_below whole id l (in_part between _ node h there c) =
      let a = inside_below whole between l h in
      let b = part_is_smaller code.program.nodes first between id node there c in omega (arith, a, b)

  -- ---- from the program to the graph

  pub inside_reached : (whole id : ℕ) → whole < count code → IsIn code.program.nodes whole id → IsReached graph whole id
  inside_reached whole _ l itself = start
  inside_reached whole id l (in_part between _ node h there c) =
      along between id (inside_reached whole between l h)
      (part_edge code graph is between id node (inside_below whole between l h) there c)

  pub run_reached : (whole target : ℕ) → whole < count code → target < count code →
      MayRun code (Written whole) (Written target) → IsReached graph whole (body_vertex code target)
  unfolding IsInBody
  run_reached whole target l m r =
      along r.id (body_vertex code target) (inside_reached whole r.id l r.is_in)
      (run_edge code graph is r.id target (inside_below whole r.id l r.is_in) m r.is_target)

  -- what runs something is a node
  pub runs_something : (whole : ℕ) (target : Body) → MayRun code (Written whole) target → whole < count code
  runs_something whole target r = of (nat_lt whole (count code)) refl
    where
      of : (b : Bool) → nat_lt whole (count code) ≡ b → whole < count code
      of true e = grind (arith, nat_tests)
      of false e =
          absurd (runs_none code whole target (no_node code.program.nodes whole (grind (arith, nat_tests))) r)

  empty_runs_none : (target : Body) → MayRun code Empty target → ⊥
  unfolding IsInBody
  empty_runs_none target r = r.is_in

  pub leads_reached : (whole target : ℕ) → whole < count code → target < count code →
      Leads code (Written whole) (Written target) → IsReached graph whole (body_vertex code target)
  leads_reached whole target l m (at_once _ r) = run_reached whole target l m r
  leads_reached whole target l m (by_another (Written b) _ h r) =
      let k = runs_something b (Written target) r in
      reached_then graph whole (body_vertex code b) (body_vertex code target) (leads_reached whole b l k h)
      (reached_then graph (body_vertex code b) b (body_vertex code target)
      (along (body_vertex code b) b start (body_edge code graph is b k)) (run_reached b target k m r))
  leads_reached whole target l m (by_another Empty _ h r) = absurd (empty_runs_none (Written target) r)

  -- ---- from the graph to the program

  -- a node is in a body that is led to, or a body is led to
  pub data IsOn (from : ℕ) : ℕ → Type 0 where
    in_itself : (id : ℕ) → id < count code → IsIn code.program.nodes from id → IsOn from id
    in_other : (body id : ℕ) → id < count code → Leads code (Written from) (Written body) →
        IsIn code.program.nodes body id → IsOn from id
    at_body : (body : ℕ) → body < count code → Leads code (Written from) (Written body) →
        IsOn from (body_vertex code body)

  runs_by : (body id target : ℕ) → IsIn code.program.nodes body id → Contains (targets code id) (Written target) →
      MayRun code (Written body) (Written target)
  unfolding IsInBody
  runs_by body id target h c = record { id = id; is_in = h; is_target = c }

  small_part : (id x : ℕ) (node : Node) → id < count code → slice_get code.program.nodes id ≡ Some node →
      Contains (run_parts node) x → x < count code
  small_part id x node l there c =
      let a = part_is_smaller code.program.nodes first id x node there c in omega (arith, a, l)

  next_on : (from v w : ℕ) → IsOn from v → Contains (successors graph v) w → IsOn from w
  next_on from v w (in_itself _ l h) c = of w (from_node code graph is v w l c)
    where
      of : (w : ℕ) → IsNext code v w → IsOn from w
      of _ (to_part x node there d) = in_itself x (small_part v x node l there d) (in_part v x node h there d)
      of _ (to_body node m d) = at_body node m (at_once (Written node) (runs_by from v node h d))
  next_on from v w (in_other body _ l b h) c = of w (from_node code graph is v w l c)
    where
      of : (w : ℕ) → IsNext code v w → IsOn from w
      of _ (to_part x node there d) = in_other body x (small_part v x node l there d) b (in_part v x node h there d)
      of _ (to_body node m d) =
          at_body node m (by_another (Written body) (Written node) b (runs_by body v node h d))
  next_on from _ w (at_body body l b) c =
      subst (IsOn from) (sym (from_body code graph is body w l c)) (in_other body body l b itself)

  pub reached_on : (from v : ℕ) → from < count code → IsReached graph from v → IsOn from v
  reached_on from v l r = stays_in graph (IsOn from) (next_on from) from v r (in_itself from l itself)

  -- a body that is reached from a node is led to
  pub body_led : (from body : ℕ) → from < count code → body < count code →
      IsReached graph from (body_vertex code body) → Leads code (Written from) (Written body)
  body_led from body l m r = of (body_vertex code body) refl (reached_on from (body_vertex code body) l r)
    where
      of : (v : ℕ) → v ≡ body_vertex code body → IsOn from v → Leads code (Written from) (Written body)
      of _ e (in_itself id k h) = absurd (omega (arith, e, k))
      of _ e (in_other b id k h i) = absurd (omega (arith, e, k))
      of _ e (at_body b k h) =
          let same : b ≡ body = omega (arith, e) in subst (λ x. Leads code (Written from) (Written x)) same h

  -- ---- what leads to itself

  pub itself_led : (body : ℕ) → body < count code →
      LeadsToItself graph (body_vertex code body) ↔ Leads code (Written body) (Written body)
  itself_led body l = (to, from)
    where
      to : LeadsToItself graph (body_vertex code body) → Leads code (Written body) (Written body)
      to h =
          body_led body body l l
          (subst (λ x. IsReached graph x (body_vertex code body)) (from_body code graph is body h.next l h.edge) h.back)

      from : Leads code (Written body) (Written body) → LeadsToItself graph (body_vertex code body)
      from h = record { next = body; edge = body_edge code graph is body l; back = leads_reached body body l l h }

  -- a node that leads to itself comes by a body that does
  pub data IsBack (v : ℕ) : ℕ → Type 0 where
    smaller : (u : ℕ) → u < v → IsBack v u
    by_body : (u body : ℕ) → body < count code → IsReached graph v (body_vertex code body) →
        IsReached graph (body_vertex code body) u → IsBack v u

  module _ (v : ℕ) (vertex : v < count code) where
    next_back : (u w : ℕ) → IsReached graph v u × IsBack v u → Contains (successors graph u) w →
        IsReached graph v w × IsBack v w
    next_back u w (r, by_body _ body l there k) c =
        (along u w r c, by_body w body l there (along u w k c))
    next_back u w (r, smaller _ l) c = (along u w r c, of w (from_node code graph is u w (omega (arith, l, vertex)) c) (along u w r c))
      where
        of : (w : ℕ) → IsNext code u w → IsReached graph v w → IsBack v w
        of _ (to_part x node there d) s =
            smaller x (let m = part_is_smaller code.program.nodes first u x node there d in omega (arith, l, m))
        of _ (to_body node m d) s = by_body (body_vertex code node) node m s start

    back_from : (u : ℕ) → IsReached graph v u → Contains (successors graph v) u → IsBack v u
    back_from u r c = of u (from_node code graph is v u vertex c) r
      where
        of : (u : ℕ) → IsNext code v u → IsReached graph v u → IsBack v u
        of _ (to_part x node there d) s = smaller x (part_is_smaller code.program.nodes first v x node there d)
        of _ (to_body node m d) s = by_body (body_vertex code node) node m s start

    pub loop_has_body : LeadsToItself graph v →
        (body : ℕ) × (body < count code) × IsReached graph v (body_vertex code body)
        × IsReached graph (body_vertex code body) v
    loop_has_body h =
        of v refl (stays_in graph (λ u. IsReached graph v u × IsBack v u) next_back h.next v h.back
        (along v h.next start h.edge, back_from h.next (along v h.next start h.edge) h.edge)).1
      where
        of : (u : ℕ) → u ≡ v → IsBack v u →
            (body : ℕ) × (body < count code) × IsReached graph v (body_vertex code body)
            × IsReached graph (body_vertex code body) v
        of _ e (smaller u l) = absurd (omega (arith, e, l))
        of _ e (by_body u body l r k) = (body, l, r, subst (IsReached graph (body_vertex code body)) e k)

  -- ---- what a handler class reaches

  pub reaches_led : (class : ℕ) (handler : ℕ) → handler_body code class ≡ Some (Written handler) → (body : Body) →
      Reaches code class body → (body ≡ Written handler) ⊎ Leads code (Written handler) body
  reaches_led class handler e body (begins _ h) = inl (let a = h in cc (a, e))
  reaches_led class handler e body (goes_on from _ h r) = of (reaches_led class handler e from h)
    where
      of : (from ≡ Written handler) ⊎ Leads code (Written handler) from →
          (body ≡ Written handler) ⊎ Leads code (Written handler) body
      of (inl s) = inr (at_once body (subst (λ b. MayRun code b body) s r))
      of (inr l) = inr (by_another from body l r)

  pub led_reaches : (class : ℕ) (handler : ℕ) → handler_body code class ≡ Some (Written handler) → (body : Body) →
      Leads code (Written handler) body → Reaches code class body
  led_reaches class handler e body (at_once _ r) = goes_on (Written handler) body (begins (Written handler) e) r
  led_reaches class handler e body (by_another from _ l r) =
      goes_on from body (led_reaches class handler e from l) r
