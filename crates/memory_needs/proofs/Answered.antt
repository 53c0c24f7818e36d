-- The first of what a handler class is found to show is the answer for it.
use Rattle.std.specs.Prelude.{◌⊎◌, Option, Some, None, min, slice_get, slice_index_or, nat_lt}
use Rattle.std.proofs.Common.{◌≡◌, inl, inr, ℕ, ◌<◌, ◌≤◌, List, Bool, true, false, refl, sym, ◌∙◌, ap, subst, arith}
use Rattle.std.proofs.lemmas.Bool.Decides.{nat_tests}
use Rattle.std.proofs.lemmas.List.{length-replicate}
use Rattle.directed_graphs.specs.Graphs.{Graph, IsReached, IsReachOf, AreInOrder}
use Rattle.scj_base.specs.declared.positions.Position.{Position}
use Rattle.scj_tree.specs.declared.nodes.Node.{Node}
use Rattle.scj_tree.specs.Forest.{ChildrenFirst}
use Rattle.scj_tree.specs.Recursion.{lookup}
use Rattle.scj_rules.specs.declared.views.Body.{Body}
use Rattle.scj_rules.specs.declared.views.Body.TheVariants.{Written, Empty}
use Rattle.scj_rules.specs.Definitions.{read}
use Rattle.scj_rules.specs.Words.{◌>>=◌}
use Rattle.scj_rules.specs.Bodies.{number_literal, class_position}
use Rattle.scj_model.specs.Code.{Code, binding, position_of_node}
use Rattle.memory_needs.specs.declared.answers.BoundAnswer.TheVariants.{No}
use Rattle.memory_needs.specs.declared.answers.NoBound.{NoBound}
use Rattle.memory_needs.specs.declared.answers.NoBound.TheVariants.{Recursion, NotLiteral, OuterArea, NewInLoop, TooSmall}
use Rattle.memory_needs.specs.declared.shown.Shown.{Shown}
use Rattle.memory_needs.specs.Reach.{handler_body, ReachesNode}
use Rattle.memory_needs.specs.Need.{Table, need, AreNeeds, too_much}
use Rattle.memory_needs.specs.Room.{entered_with}
use Rattle.memory_needs.specs.Causes.{storage_node, storage, Recurs, of_form, of_node, AsksNumber, entered, stored, Shows, order_of, IsNowhere}
use Rattle.memory_needs.specs.Rows.{IsAnswer}
use Rattle.memory_needs.specs.Solved.{reported_by, solved, zero_rows, AreCapped}
use Rattle.memory_needs.specs.Edges.{count, body_vertex, IsGraphOf}
use Rattle.memory_needs.specs.Shown.{IsShown, no_number, fills, makes, small}
use Rattle.memory_needs.specs.Chosen.{is_before, IsChosen}
use Rattle.memory_needs.specs.ClassShown.{answer_for}
use Rattle.memory_needs.proofs.Choosing.{earlier_position, earlier_cause}
use Rattle.memory_needs.proofs.Leading.{there_is}
use Rattle.memory_needs.proofs.Reached.{node_reached, reached_node, recurs_there, there_recurs, are_needs, node_need_is}

abbrev shown_at : NoBound → Position → Shown
shown_at cause at = record { cause = cause; at = at }

module _ (code : Code) (first : ChildrenFirst 0 code.program.nodes) (graph : Graph) (is : IsGraphOf code graph)
    (order : List ℕ) (loops : List Bool) (ordered : AreInOrder graph order loops) (rows : List ℕ)
    (capped : AreCapped rows (solved code order (zero_rows code)))
    (literals : (id n : ℕ) → read code.program.nodes number_literal id ≡ Some n → n < too_much) where
  abbrev exact : List ℕ
  exact = solved code order (zero_rows code)

  abbrev table : Table
  table = reported_by exact

  -- what the rows tell is above what is below the ceiling where the Needs are
  reported_capped : (b : Body) → reported_by rows b ≡ min too_much (reported_by (solved code order (zero_rows code)) b)
  unfolding reported_by
  reported_capped (Written node) = capped.each node
  reported_capped Empty = refl

  above_reported : (n : ℕ) (b : Body) → n < reported_by (solved code order (zero_rows code)) b → n < too_much →
      n < reported_by rows b
  above_reported n b l s = let e = reported_capped b in omega (arith, l, s, e)

  reported_above : (n : ℕ) (b : Body) → n < reported_by rows b → n < reported_by (solved code order (zero_rows code)) b
  reported_above n b l = let e = reported_capped b in omega (arith, l, e)

  -- a number that is read is below the ceiling
  read_small : (o : Option ℕ) (n : ℕ) → (o >>= read code.program.nodes number_literal) ≡ Some n → n < too_much
  read_small None n e = absurd (cc (e))
  read_small (Some id) n e = literals id n e

  module _ (class handler : ℕ) (handles : handler_body code class ≡ Some (Written handler)) (there : handler < count code)
      (marks : List Bool) (reach : IsReachOf graph (body_vertex code handler) marks) where
    -- what is found for the class
    pub data ClassShows : Shown → Type 0 where
      recursion : (body : ℕ) → body < count code → slice_index_or marks (body_vertex code body) false ≡ true →
          slice_index_or loops (body_vertex code body) false ≡ true →
          ClassShows (record { cause = Recursion; at = position_of_node code body })
      by_node : (id : ℕ) (node : Node) (cause : NoBound) (at : Position) → slice_get code.program.nodes id ≡ Some node →
          slice_index_or marks id false ≡ true → IsShown code (reported_by rows) (lookup 0 rows) id node cause at →
          ClassShows (record { cause = cause; at = at })
      by_form : (number : ℕ) → storage_node code.program class ≡ Some number →
          read code.program.nodes number_literal number ≡ None →
          ClassShows (record { cause = NotLiteral; at = position_of_node code number })
      by_storage : (bytes : ℕ) → storage code.program class ≡ Some bytes → bytes < lookup 0 rows handler →
          ClassShows (record { cause = TooSmall; at = class_position code.program class })

    handler_below : (n : ℕ) (body : Body) → handler_body code class ≡ Some body →
        n < reported_by (solved code order (zero_rows code)) body → n < too_much → n < lookup 0 rows handler
    unfolding reported_by
    handler_below n body h l s =
        (let same : body ≡ Written handler = cc (h, handles) in
        above_reported n (Written handler)
        (subst (λ (b : Body). n < reported_by (solved code order (zero_rows code)) b) same l) s)

    reported_handler : (n : ℕ) → n < lookup 0 rows handler → n < reported_by rows (Written handler)
    unfolding reported_by
    reported_handler n l = l

    mark_of_node : (id : ℕ) → id < count code → IsReached graph (body_vertex code handler) id →
        slice_index_or marks id false ≡ true
    mark_of_node id l r = (reach.exact id (let w = is.whole in omega (arith, l, w))).1 r

    node_of_mark : (id : ℕ) → id < count code → slice_index_or marks id false ≡ true →
        IsReached graph (body_vertex code handler) id
    node_of_mark id l m = (reach.exact id (let w = is.whole in omega (arith, l, w))).0 m

    -- ---- recursion

    pub recurs_shown : (at : Position) → Recurs code class at → ClassShows (record { cause = Recursion; at = at })
    recurs_shown at r =
        let h = recurs_there code first graph is class handler handles there at r in
        let w = is.whole in
        let l = h.1 in
        subst (λ z. ClassShows (record { cause = Recursion; at = z })) h.4
        (recursion h.0 h.1 ((reach.exact (body_vertex code h.0) (omega (arith, l, w))).1 h.2)
        ((ordered.exact (body_vertex code h.0) (omega (arith, l, w))).1 h.3))

    not_recursion : (id : ℕ) (node : Node) (cause : NoBound) (at : Position) →
        IsShown code (reported_by rows) (lookup 0 rows) id node cause at → cause ≡ Recursion → ⊥
    not_recursion id node _ _ (no_number number a b) e = cc (e)
    not_recursion id node _ _ (fills target a b c) e = cc (e)
    not_recursion id node _ _ (makes a b) e = cc (e)
    not_recursion id node _ _ (small size target a b c) e = cc (e)

    pub shown_recurs : (s : Shown) → ClassShows s → s.cause ≡ Recursion → Recurs code class s.at
    shown_recurs _ (recursion body l m t) e =
        let w = is.whole in
        there_recurs code first graph is class handler handles there body l
        ((reach.exact (body_vertex code body) (omega (arith, l, w))).0 m)
        ((ordered.exact (body_vertex code body) (omega (arith, l, w))).0 t)
    shown_recurs _ (by_node id node cause at n m s) e = absurd (not_recursion id node cause at s e)
    shown_recurs _ (by_form number a b) e = absurd (cc (e))
    shown_recurs _ (by_storage bytes a b) e = absurd (cc (e))

    module _ (none : IsNowhere (Recurs code class)) where
      straight : (body : ℕ) → body < count code →
          IsReached graph (body_vertex code handler) (body_vertex code body) →
          slice_index_or loops (body_vertex code body) false ≡ false
      straight body l r = of (slice_index_or loops (body_vertex code body) false) refl
        where
          of : (t : Bool) → slice_index_or loops (body_vertex code body) false ≡ t →
              slice_index_or loops (body_vertex code body) false ≡ false
          of false e = e
          of true e =
              absurd (none (position_of_node code body)
              (there_recurs code first graph is class handler handles there body l r
              ((ordered.exact (body_vertex code body) (let w = is.whole in omega (arith, l, w))).0 e)))

      pub needs : AreNeeds code class (reported_by (solved code order (zero_rows code)))
      needs =
          are_needs code first graph is class handler handles there order loops ordered straight
          (zero_rows code) (length-replicate (count code) 0)

      loop_need : (id : ℕ) (node : Node) → ReachesNode code class id node →
          need code (reported_by (solved code order (zero_rows code))) id
          ≡ lookup 0 (solved code order (zero_rows code)) id
      loop_need id node r =
          node_need_is code first graph is class handler handles there order loops ordered straight
          (zero_rows code) (length-replicate (count code) 0) id node r

      -- ---- the other causes

      at_node : (id : ℕ) (node : Node) → ReachesNode code class id node → (cause : NoBound) (at : Position) →
          IsShown code (reported_by rows) (lookup 0 rows) id node cause at → ClassShows (record { cause = cause; at = at })
      at_node id node r cause at s =
          by_node id node cause at r.is
          (mark_of_node id (there_is code first graph is code.program.nodes id node r.is)
          (node_reached code first graph is class handler handles there id node r)) s

      pub shows_found : (cause : NoBound) (at : Position) →
          Shows code class (reported_by (solved code order (zero_rows code))) cause at →
          ClassShows (record { cause = cause; at = at })
      unfolding Shows storage
      shows_found Recursion at s = recurs_shown at s
      shows_found NotLiteral at s = of s.number s.is_asked s.is_none s.is_position
        where
          of : (number : ℕ) → AsksNumber code class number → read code.program.nodes number_literal number ≡ None →
              position_of_node code number ≡ at → ClassShows (record { cause = NotLiteral; at = at })
          of number (of_form e) n p =
              subst (λ z. ClassShows (record { cause = NotLiteral; at = z })) p (by_form number e n)
          of number (of_node id node r e) n p =
              subst (λ z. ClassShows (record { cause = NotLiteral; at = z })) p
              (at_node id node r NotLiteral (position_of_node code number) (no_number number e n))
      shows_found OuterArea at s =
          subst (λ z. ClassShows (record { cause = OuterArea; at = z })) s.is_position
          (at_node s.id s.node s.reached OuterArea (position_of_node code s.id)
          (fills s.target s.executes s.is_target (above_reported 0 s.target s.needs (omega arith))))
      shows_found NewInLoop at s =
          subst (λ z. ClassShows (record { cause = NewInLoop; at = z })) s.is_position
          (at_node s.id s.node s.reached NewInLoop (position_of_node code s.id)
          (makes s.loops (let a = loop_need s.id s.node s.reached in let b = s.needs in let c = capped.each s.id in
          omega (arith, a, b, c))))
      shows_found TooSmall at (entered id node size target r e c l p) =
          subst (λ z. ClassShows (record { cause = TooSmall; at = z })) p
          (at_node id node r TooSmall (position_of_node code id)
          (small size target e c (above_reported size target l (read_small (entered_with (binding code id) node) size e))))
      shows_found TooSmall at (stored bytes body e h l p) =
          subst (λ z. ClassShows (record { cause = TooSmall; at = z })) p
          (by_storage bytes e
          (handler_below bytes body h l (read_small (storage_node code.program class) bytes e)))

      pub found_shows : (s : Shown) → ClassShows s → (s.cause ≡ Recursion → ⊥) →
          Shows code class (reported_by (solved code order (zero_rows code))) s.cause s.at
      unfolding Shows
      found_shows _ (recursion body l m t) n = absurd (n refl)
      found_shows _ (by_form number a b) n = record { number = number; is_asked = of_form a; is_none = b; is_position = refl }
      found_shows _ (by_storage bytes a b) n =
          stored bytes (Written handler) a handles (reported_above bytes (Written handler) (reported_handler bytes b)) refl
      found_shows _ (by_node id node cause at e m s) n = by_cause cause at s
        where
          r : ReachesNode code class id node
          r =
              reached_node code first graph is class handler handles there id node e
              (node_of_mark id (there_is code first graph is code.program.nodes id node e) m)

          by_cause : (cause : NoBound) (at : Position) → IsShown code (reported_by rows) (lookup 0 rows) id node cause at →
              Shows code class (reported_by (solved code order (zero_rows code))) cause at
          by_cause _ _ (no_number number a b) =
              record { number = number; is_asked = of_node id node r a; is_none = b; is_position = refl }
          by_cause _ _ (fills target a b c) = record {
            id = id;
            node = node;
            reached = r;
            executes = a;
            target = target;
            is_target = b;
            needs = reported_above 0 target c;
            is_position = refl;
          }
          by_cause _ _ (makes a b) = record {
            id = id;
            node = node;
            reached = r;
            loops = a;
            needs = (let x = loop_need id node r in let y = capped.each id in omega (arith, b, x, y));
            is_position = refl;
          }
          by_cause _ _ (small size target a b c) = entered id node size target r a b (reported_above size target c) refl

    -- ---- the answer

    others_later : (cause other : NoBound) → order_of other < order_of cause → cause ≡ Recursion → ⊥
    unfolding order_of
    others_later cause other l e = let a = ap order_of e in omega (arith, l, a)

    first_zero : (cause : NoBound) → (cause ≡ Recursion → ⊥) → 0 < order_of cause
    unfolding order_of
    first_zero Recursion n = absurd (n refl)
    first_zero NotLiteral n = omega arith
    first_zero OuterArea n = omega arith
    first_zero NewInLoop n = omega arith
    first_zero TooSmall n = omega arith

    is_recursion : (cause : NoBound) → (cause ≡ Recursion) ⊎ (cause ≡ Recursion → ⊥)
    is_recursion Recursion = inl refl
    is_recursion NotLiteral = inr (λ e. cc (e))
    is_recursion OuterArea = inr (λ e. cc (e))
    is_recursion NewInLoop = inr (λ e. cc (e))
    is_recursion TooSmall = inr (λ e. cc (e))

    module _ (has_storage : (number : ℕ) × (storage_node code.program class ≡ Some number)) where
      pub answers : (o : Option Shown) → IsChosen ClassShows o →
          IsAnswer code class (answer_for o (lookup 0 rows handler))
      unfolding Shows answer_for order_of reported_by storage
      answers None c = record {
        table = reported_by (solved code order (zero_rows code));
        are_needs = needs;
        is = record {
          no_cause = λ cause at s. c.nothing (record { cause = cause; at = at }) (shows_found none cause at s);
          body = Written handler;
          is_body = handles;
          is_need = reports;
        };
      }
        where
          none : IsNowhere (Recurs code class)
          none at r = c.nothing (record { cause = Recursion; at = at }) (recurs_shown at r)

          reports : reported_by (solved code order (zero_rows code)) (Written handler) ≡ lookup 0 rows handler
          reports = of (read code.program.nodes number_literal has_storage.0) refl
            where
              of : (o : Option ℕ) → read code.program.nodes number_literal has_storage.0 ≡ o →
                  lookup 0 (solved code order (zero_rows code)) handler ≡ lookup 0 rows handler
              of None e = absurd (c.nothing _ (by_form has_storage.0 has_storage.1 e))
              of (Some bytes) e =
                  by_test (nat_lt bytes (lookup 0 rows handler)) refl
                where
                  kept : storage code.program class ≡ Some bytes
                  kept = ap (λ (o : Option ℕ). o >>= read code.program.nodes number_literal) has_storage.1 ∙ e

                  by_test : (b : Bool) → nat_lt bytes (lookup 0 rows handler) ≡ b →
                      lookup 0 (solved code order (zero_rows code)) handler ≡ lookup 0 rows handler
                  by_test true q = absurd (c.nothing _ (by_storage bytes kept (grind (arith, nat_tests))))
                  by_test false q =
                      let l : lookup 0 rows handler ≤ bytes = grind (arith, nat_tests) in
                      let m = literals has_storage.0 bytes e in
                      let a = capped.each handler in omega (arith, l, m, a)
      answers (Some s) c = of (is_recursion s.cause)
        where
          at_first : (other : Shown) → ClassShows other → is_before other s ≡ true → ⊥
          at_first = c.first

          of : (s.cause ≡ Recursion) ⊎ (s.cause ≡ Recursion → ⊥) → IsAnswer code class (No s.cause s.at)
          of (inl e) = record {
            table = reported_by (solved code order (zero_rows code));
            are_needs = λ none. absurd (none s.at (shown_recurs s c.that e));
            is = record {
              none_before = λ other l. absurd (others_later s.cause other l e);
              first = record {
                here = subst (λ x. Shows code class (reported_by (solved code order (zero_rows code))) x s.at) (sym e)
                    (shown_recurs s c.that e);
                none_before = λ at h b. c.first (record { cause = Recursion; at = at })
                    (recurs_shown at (subst (λ x. Shows code class (reported_by (solved code order (zero_rows code))) x at)
                    e h))
                    (earlier_position (record { cause = Recursion; at = at }) s (ap order_of (sym e)) b);
              };
            };
          }
          of (inr n) = record {
            table = reported_by (solved code order (zero_rows code));
            are_needs = needs;
            is = record {
              none_before = λ other l at h. c.first (record { cause = other; at = at }) (shows_found none other at h)
                  (earlier_cause (record { cause = other; at = at }) s l);
              first = record {
                here = found_shows none s c.that n;
                none_before = λ at h b. c.first (record { cause = s.cause; at = at }) (shows_found none s.cause at h)
                    (earlier_position (record { cause = s.cause; at = at }) s refl b);
              };
            };
          }
            where
              none : IsNowhere (Recurs code class)
              none at r =
                  c.first (record { cause = Recursion; at = at }) (recurs_shown at r)
                  (earlier_cause (record { cause = Recursion; at = at }) s (first_zero s.cause n))
