-- What a handler class reaches, by the marks of the vertices that are reached from its body.
use Rattle.std.specs.Prelude.{◌⊎◌, Some, None, slice_get, slice_index_or, Contains, nat_lt}
use Rattle.std.proofs.Common.{◌≡◌, inl, inr, ℕ, ◌<◌, List, length, Bool, true, false, refl, sym, ◌∙◌, ap, subst, arith}
use Rattle.std.proofs.lemmas.Bool.Decides.{nat_tests}
use Rattle.directed_graphs.specs.Graphs.{Graph, successors, IsReached, start, along, LeadsToItself, AreInOrder}
use Rattle.directed_graphs.proofs.Paths.{reached_then, first_edge}
use Rattle.scj_base.specs.declared.positions.Position.{Position}
use Rattle.scj_tree.specs.declared.nodes.Node.{Node}
use Rattle.scj_tree.specs.Forest.{ChildrenFirst}
use Rattle.scj_tree.specs.Recursion.{lookup}
use Rattle.scj_rules.specs.declared.views.Body.{Body}
use Rattle.scj_rules.specs.declared.views.Body.TheVariants.{Written, Empty}
use Rattle.scj_model.specs.Code.{Code, position_of_node}
use Rattle.memory_needs.specs.Reach.{IsIn, itself, IsInBody, MayRun, Leads, at_once, by_another, handler_body, Reaches, begins, goes_on, ReachesNode}
use Rattle.memory_needs.specs.Need.{body_need, RunsHere, HasNeed, by_targets, need, AreNeeds}
use Rattle.memory_needs.specs.Causes.{Recurs}
use Rattle.memory_needs.specs.Solved.{reported_by, need_by, solved}
use Rattle.memory_needs.specs.Edges.{count, body_vertex, IsGraphOf}
use Rattle.memory_needs.proofs.Agree.{need_agrees, need_is_one, runs_here}
use Rattle.memory_needs.proofs.Settled.{alone_there, in_then, no_node, reported_is}
use Rattle.memory_needs.proofs.ProgramEdges.{body_edge, from_body}
use Rattle.memory_needs.proofs.Leading.{there_is, inside_reached, leads_reached, runs_something, IsOn, in_itself, in_other, at_body, reached_on, body_led, itself_led, loop_has_body, reaches_led, led_reaches}
use Rattle.memory_needs.proofs.Solving.{IsGood, solved_needs, solved_whole}

module _ (code : Code) (first : ChildrenFirst 0 code.program.nodes) (graph : Graph) (is : IsGraphOf code graph)
    (class handler : ℕ) (handles : handler_body code class ≡ Some (Written handler)) (there : handler < count code) where
  abbrev from : ℕ
  from = body_vertex code handler

  -- ---- bodies

  by_handler : (v : ℕ) → IsReached graph handler v → IsReached graph (body_vertex code handler) v
  by_handler v r =
      reached_then graph (body_vertex code handler) handler v
      (along (body_vertex code handler) handler start (body_edge code graph is handler there)) r

  pub body_reached : (body : ℕ) → body < count code → Reaches code class (Written body) →
      IsReached graph (body_vertex code handler) (body_vertex code body)
  body_reached body l r = of (reaches_led code first graph is class handler handles (Written body) r)
    where
      of : (Written body ≡ Written handler) ⊎ Leads code (Written handler) (Written body) →
          IsReached graph (body_vertex code handler) (body_vertex code body)
      of (inl e) =
          (let same : handler ≡ body = cc (e) in
          subst (λ b. IsReached graph (body_vertex code handler) (body_vertex code b)) same start)
      of (inr h) = by_handler (body_vertex code body) (leads_reached code first graph is handler body there l h)

  -- on from the body of the handler
  onwards : (v : ℕ) → IsReached graph (body_vertex code handler) v →
      (v ≡ body_vertex code handler) ⊎ IsReached graph handler v
  onwards v r = of (first_edge graph (body_vertex code handler) v r)
    where
      of : (body_vertex code handler ≡ v)
          ⊎ ((x : ℕ) × Contains (successors graph (body_vertex code handler)) x × IsReached graph x v) →
          (v ≡ body_vertex code handler) ⊎ IsReached graph handler v
      of (inl e) = inl (sym e)
      of (inr h) = inr (subst (λ x. IsReached graph x v) (from_body code graph is handler h.0 there h.1) h.2)

  pub reached_body : (body : ℕ) → body < count code →
      IsReached graph (body_vertex code handler) (body_vertex code body) → Reaches code class (Written body)
  reached_body body l r = of (onwards (body_vertex code body) r)
    where
      of : (body_vertex code body ≡ body_vertex code handler) ⊎ IsReached graph handler (body_vertex code body) →
          Reaches code class (Written body)
      of (inl e) =
          (let same : handler ≡ body = omega (arith, e) in
          subst (λ b. Reaches code class (Written b)) same (begins (Written handler) handles))
      of (inr h) =
          led_reaches code first graph is class handler handles (Written body)
          (body_led code first graph is handler body there l h)

  -- ---- nodes

  inside : (body : Body) (id : ℕ) (node : Node) → IsInBody code id body → slice_get code.program.nodes id ≡ Some node →
      (b : ℕ) × (body ≡ Written b) × (b < count code) × IsIn code.program.nodes b id
  unfolding IsInBody
  inside Empty id node h e = absurd h
  inside (Written b) id node h e = (b, refl, of (nat_lt b (count code)) refl, h)
    where
      of : (t : Bool) → nat_lt b (count code) ≡ t → b < count code
      of true q = grind (arith, nat_tests)
      of false q =
          absurd (let none = no_node code.program.nodes b (grind (arith, nat_tests)) in
          let same = alone_there code.program.nodes b id none h in
          let a : slice_get code.program.nodes id ≡ None = ap (slice_get code.program.nodes) same ∙ none in cc (a, e))

  pub node_reached : (id : ℕ) (node : Node) → ReachesNode code class id node →
      IsReached graph (body_vertex code handler) id
  node_reached id node r =
      let b = inside r.body id node r.is_in r.is in
      reached_then graph (body_vertex code handler) (body_vertex code b.0) id
      (body_reached b.0 b.2 (subst (Reaches code class) b.1 r.reached))
      (reached_then graph (body_vertex code b.0) b.0 id
      (along (body_vertex code b.0) b.0 start (body_edge code graph is b.0 b.2))
      (inside_reached code first graph is b.0 id b.2 b.3))

  pub reached_node : (id : ℕ) (node : Node) → slice_get code.program.nodes id ≡ Some node →
      IsReached graph (body_vertex code handler) id → ReachesNode code class id node
  unfolding IsInBody
  reached_node id node e r = of (onwards id r)
    where
      small : id < count code
      small = there_is code first graph is code.program.nodes id node e

      by_on : (v : ℕ) → v ≡ id → IsOn code first graph is handler v → ReachesNode code class id node
      by_on v q (in_itself _ l h) = record {
        body = Written handler;
        reached = begins (Written handler) handles;
        is_in = subst (IsIn code.program.nodes handler) q h;
        is = e;
      }
      by_on v q (in_other b _ l k h) = record {
        body = Written b;
        reached = led_reaches code first graph is class handler handles (Written b) k;
        is_in = subst (IsIn code.program.nodes b) q h;
        is = e;
      }
      by_on _ q (at_body b l k) = absurd (omega (arith, q, small))

      of : (id ≡ body_vertex code handler) ⊎ IsReached graph handler id → ReachesNode code class id node
      of (inl q) = absurd (omega (arith, q, small))
      of (inr h) = by_on id refl (reached_on code first graph is handler id there h)

  -- ---- recursion

  leads_first : (whole target : Body) → Leads code whole target → (next : Body) × MayRun code whole next
  leads_first whole target (at_once _ r) = (target, r)
  leads_first whole target (by_another between _ l r) = leads_first whole between l

  pub recurs_there : (at : Position) → Recurs code class at →
      (body : ℕ) × (body < count code) × IsReached graph (body_vertex code handler) (body_vertex code body)
      × LeadsToItself graph (body_vertex code body) × (position_of_node code body ≡ at)
  recurs_there at r =
      let n = leads_first (Written r.node) (Written r.node) r.again in
      let l = runs_something code first graph is r.node n.0 n.1 in
      (r.node, l, body_reached r.node l r.reached, (itself_led code first graph is r.node l).1 r.again, r.is_position)

  pub there_recurs : (body : ℕ) → body < count code →
      IsReached graph (body_vertex code handler) (body_vertex code body) → LeadsToItself graph (body_vertex code body) →
      Recurs code class (position_of_node code body)
  there_recurs body l r h = record {
    node = body;
    reached = reached_body body l r;
    again = (itself_led code first graph is body l).0 h;
    is_position = refl;
  }

  module _ (order : List ℕ) (loops : List Bool) (ordered : AreInOrder graph order loops)
      (straight : (body : ℕ) → body < count code →
      IsReached graph (body_vertex code handler) (body_vertex code body) →
      slice_index_or loops (body_vertex code body) false ≡ false) (rows : List ℕ) (whole : length rows ≡ count code)
    where
      no_loop : (v : ℕ) → v < count code → IsReached graph (body_vertex code handler) v →
          slice_index_or loops v false ≡ true → ⊥
      no_loop v l r t =
          let h = loop_has_body code first graph is v l
          ((ordered.exact v (let w = is.whole in omega (arith, l, w))).0 t) in
          let b = h.0 in
          let s = straight b h.1 (reached_then graph (body_vertex code handler) v (body_vertex code b) r h.2) in
          let k = (ordered.exact (body_vertex code b) (let w = is.whole in let m = h.1 in omega (arith, m, w))).1
          (back b h.1 h.2 (first_edge graph (body_vertex code b) v h.3)) in
          cc (s, k)
        where
          back : (b : ℕ) → b < count code → IsReached graph v (body_vertex code b) →
              (body_vertex code b ≡ v)
              ⊎ ((x : ℕ) × Contains (successors graph (body_vertex code b)) x × IsReached graph x v) →
              LeadsToItself graph (body_vertex code b)
          back b m k (inl e) = absurd (omega (arith, e, l))
          back b m k (inr x) = record {
            next = x.0;
            edge = x.1;
            back = reached_then graph x.0 v (body_vertex code b) x.2 k;
          }

      vertex : (v : ℕ) → IsReached graph (body_vertex code handler) v →
          (v < count code) ⊎ ((b : ℕ) × (b < count code) × (v ≡ body_vertex code b))
      vertex v r = of (onwards v r)
        where
          by_on : (u : ℕ) → IsOn code first graph is handler u →
              (u < count code) ⊎ ((b : ℕ) × (b < count code) × (u ≡ body_vertex code b))
          by_on u (in_itself _ l h) = inl l
          by_on u (in_other b _ l k h) = inl l
          by_on _ (at_body b l k) = inr (b, l, refl)

          of : (v ≡ body_vertex code handler) ⊎ IsReached graph handler v →
              (v < count code) ⊎ ((b : ℕ) × (b < count code) × (v ≡ body_vertex code b))
          of (inl e) = inr (handler, there, e)
          of (inr h) = by_on v (reached_on code first graph is handler v there h)

      never : (v : ℕ) → IsReached graph (body_vertex code handler) v → slice_index_or loops v false ≡ false
      never v r = of (slice_index_or loops v false) refl (vertex v r)
        where
          of : (t : Bool) → slice_index_or loops v false ≡ t →
              (v < count code) ⊎ ((b : ℕ) × (b < count code) × (v ≡ body_vertex code b)) →
              slice_index_or loops v false ≡ false
          of false e h = e
          of true e (inl l) = absurd (no_loop v l r e)
          of true e (inr b) =
              ap (λ u. slice_index_or loops u false) b.2
              ∙ straight b.0 b.1 (subst (IsReached graph (body_vertex code handler)) b.2 r)

      pub is_good : (v : ℕ) → IsReached graph (body_vertex code handler) v →
          IsGood code first graph is order loops ordered v
      is_good v r = record { straight = λ w k. never w (reached_then graph (body_vertex code handler) v w r k) }

      -- ---- Needs

      abbrev pub exact : List ℕ
      exact = solved code order rows

      whole_exact : length (solved code order rows) ≡ count code
      whole_exact = solved_whole (need_by code) order rows ∙ whole

      pub node_needs : (id : ℕ) → id < count code → IsReached graph (body_vertex code handler) id →
          HasNeed code (Written id) (lookup 0 (solved code order rows) id)
      node_needs id l r = solved_needs code first graph is order loops ordered rows whole id l (is_good id r)

      pub are_needs : AreNeeds code class (reported_by (solved code order rows))
      are_needs = record {
        each = λ body r. reported_is code first (solved code order rows) whole_exact body (λ id l e.
            node_needs id l (node_of id l (subst (Reaches code class) e r)));
      }
        where
          node_of : (id : ℕ) → id < count code → Reaches code class (Written id) →
              IsReached graph (body_vertex code handler) id
          node_of id l r = along (body_vertex code id) id (body_reached id l r) (body_edge code graph is id l)

      pub node_need_is : (id : ℕ) (node : Node) → ReachesNode code class id node →
          need code (reported_by (solved code order rows)) id ≡ lookup 0 (solved code order rows) id
      unfolding IsInBody body_need
      node_need_is id node r =
          of (lookup 0 (solved code order rows) id)
          (node_needs id (there_is code first graph is code.program.nodes id node r.is) (node_reached id node r))
        where
          target_reached : (target : Body) → RunsHere code (Written id) target → Reaches code class target
          target_reached target h =
              let b = inside r.body id node r.is_in r.is in
              goes_on r.body target r.reached
              (subst (λ x. MayRun code x target) (sym b.1)
              (runs_in b.0 b.3 target (runs_here code (Written id) target h)))
            where
              runs_in : (b : ℕ) → IsIn code.program.nodes b id → (target : Body) → MayRun code (Written id) target →
                  MayRun code (Written b) target
              runs_in b k target m = record { id = m.id; is_in = in_then code.program.nodes b id m.id k m.is_in; is_target = m.is_target }

          of : (n : ℕ) → HasNeed code (Written id) n → need code (reported_by (solved code order rows)) id ≡ n
          of n (by_targets t e h) =
              need_agrees code first (reported_by (solved code order rows)) t (Written id)
              (λ target k. need_is_one code first target (reported_by (solved code order rows) target) (t target)
              (are_needs.each target (target_reached target k)) (h target k)) id itself
              ∙ e
