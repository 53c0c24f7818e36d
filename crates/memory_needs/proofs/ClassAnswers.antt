-- The first of what is found for a handler class is the answer for it.
use Rattle.std.specs.Prelude.{◌⊎◌, Option, Some, None, slice_get, slice_index_or, nat_lt, ◌&&◌, if◌then◌else◌, ◌||◌, is_some, Contains}
use Rattle.std.proofs.Common.{◌≡◌, inl, inr, ℕ, ◌<◌, List, Bool, true, false, refl, sym, ◌∙◌, ap, subst, arith}
use Rattle.std.proofs.lemmas.Bool.Decides.{nat_tests}
use Rattle.directed_graphs.specs.Graphs.{rows_of, IsReachOf}
use Rattle.scj_base.specs.declared.positions.Position.{Position}
use Rattle.scj_tree.specs.declared.nodes.Node.{Node}
use Rattle.scj_tree.specs.Forest.{ChildrenFirst}
use Rattle.scj_tree.specs.Recursion.{lookup}
use Rattle.scj_tree.proofs.RecursionLemmas.{listed-at}
use Rattle.scj_rules.specs.declared.views.Body.TheVariants.{Written}
use Rattle.scj_rules.specs.Definitions.{read}
use Rattle.scj_rules.specs.Words.{◌>>=◌}
use Rattle.scj_rules.specs.Bodies.{number_literal, class_position}
use Rattle.scj_model.specs.Code.{Code, position_of_node}
use Rattle.memory_needs.specs.declared.answers.BoundAnswer.{BoundAnswer}
use Rattle.memory_needs.specs.declared.answers.NoBound.{NoBound}
use Rattle.memory_needs.specs.declared.answers.NoBound.TheVariants.{Recursion, NotLiteral, TooSmall}
use Rattle.memory_needs.specs.declared.shown.Shown.{Shown}
use Rattle.memory_needs.specs.declared.program_tables.Tables.{Tables}
use Rattle.memory_needs.specs.Reach.{handler_body}
use Rattle.memory_needs.specs.Need.{too_much}
use Rattle.memory_needs.specs.Causes.{storage_node, storage}
use Rattle.memory_needs.specs.Rows.{IsAnswer}
use Rattle.memory_needs.specs.Edges.{count, body_vertex}
use Rattle.memory_needs.specs.Shown.{shown_at}
use Rattle.memory_needs.specs.Chosen.{first_of}
use Rattle.memory_needs.specs.ClassShown.{recursion_at, reached_at, is_point, first_shown, bytes_shown, storage_shown, answer_for}
use Rattle.memory_needs.specs.ProgramTables.{AreTablesOf}
use Rattle.memory_needs.proofs.Agree.{below_lt}
use Rattle.memory_needs.proofs.Answered.{ClassShows, recursion, by_node, by_form, by_storage, answers}
use Rattle.memory_needs.proofs.Choosing.{chosen_none, chosen_more, chosen_same}
use Rattle.memory_needs.proofs.Leading.{there_is}
use Rattle.memory_needs.proofs.ShownAmong.{ShownAmong, at_body, at_node, all_of, chosen_among}
use Rattle.memory_needs.proofs.ShownNodes.{none_there, shown_is, is_shown}
use Rattle.memory_needs.proofs.RowLists.{picked_in, picked_below}
use Rattle.memory_needs.proofs.Tables.{graph_is}

or_true : (a : Bool) → (a || true) ≡ true
or_true true = refl
or_true false = refl

-- ---- one class

module _ (code : Code) (first : ChildrenFirst 0 code.program.nodes) (tables : Tables) (are : AreTablesOf code tables)
    (literals : (id n : ℕ) → read code.program.nodes number_literal id ≡ Some n → n < too_much)
    (class handler : ℕ) (handles : handler_body code class ≡ Some (Written handler)) (there : handler < count code)
    (marks : List Bool) (reach : IsReachOf (rows_of tables.edges.items) (body_vertex code handler) marks) where
  abbrev rows : List ℕ
  rows = tables.needs.items

  abbrev loops : List Bool
  loops = tables.order.loops.items

  abbrev Is : Shown → Type 0
  Is =
      ClassShows code first (rows_of tables.edges.items) (graph_is code tables.edges.items are.edges)
      tables.order.vertices.items tables.order.loops.items are.ordered tables.needs.items are.capped literals class handler
      handles there marks reach

  within : (id : ℕ) → Contains tables.points.items id → id < count code
  within id c =
      picked_below (is_point code tables.order.loops.items tables.shown.items) (count code) id
      (subst (λ ids. Contains ids id) are.points c)

  among : (id : ℕ) → id < count code → is_point code tables.order.loops.items tables.shown.items id ≡ true →
      Contains tables.points.items id
  among id l t =
      subst (λ ids. Contains ids id) (sym are.points)
      (picked_in (is_point code tables.order.loops.items tables.shown.items) (count code) id l t)

  -- ---- what is found is shown

  row_is : (id : ℕ) → id < count code → lookup None tables.shown.items id ≡ shown_at code tables.needs.items id
  row_is id l =
      ap (λ (xs : List (Option Shown)). lookup None xs id) are.shown
      ∙ (listed-at None (shown_at code tables.needs.items) (count code) id
      ∙ below_lt None (count code) (shown_at code tables.needs.items) id l)

  body_shows : (b : ℕ) → b < count code → (s : Shown) →
      recursion_at code marks tables.order.loops.items b ≡ Some s → Is s
  unfolding recursion_at
  body_shows b l s e =
      of (slice_index_or marks (body_vertex code b) false)
      (slice_index_or tables.order.loops.items (body_vertex code b) false) refl refl e
    where
      of : (m t : Bool) → slice_index_or marks (body_vertex code b) false ≡ m →
          slice_index_or tables.order.loops.items (body_vertex code b) false ≡ t →
          (if m && t then Some (record { cause = Recursion; at = position_of_node code b }) else None) ≡ Some s → Is s
      of true true p q e =
          (let same : record { cause = Recursion; at = position_of_node code b } ≡ s = cc (e) in
          subst Is same (recursion b l p q))
      of true false p q e = absurd (cc (e))
      of false t p q e = absurd (cc (e))

  node_shows : (id : ℕ) → id < count code → (s : Shown) → reached_at marks tables.shown.items id ≡ Some s → Is s
  unfolding reached_at
  node_shows id l s e = of (slice_index_or marks id false) refl e
    where
      by_node_there : slice_index_or marks id false ≡ true → lookup None tables.shown.items id ≡ Some s →
          (o : Option Node) → slice_get code.program.nodes id ≡ o → Is s
      by_node_there m h None q =
          absurd (let a = sym (row_is id l) ∙ h in
          let b = none_there code tables.needs.items id q in cc (a, b))
      by_node_there m h (Some n) q =
          by_node id n s.cause s.at q m (shown_is code tables.needs.items id n q s (sym (row_is id l) ∙ h))

      of : (b : Bool) → slice_index_or marks id false ≡ b →
          (if b then lookup None tables.shown.items id else None) ≡ Some s → Is s
      of true m h = by_node_there m h (slice_get code.program.nodes id) refl
      of false m h = absurd (cc (h))

  among_shows : (s : Shown) → ShownAmong code marks tables.order.loops.items tables.shown.items tables.points.items s → Is s
  among_shows s (at_body b c e) = body_shows b (within b c) s e
  among_shows s (at_node id c e) = node_shows id (within id c) s e

  abbrev need : ℕ
  need = lookup 0 tables.needs.items handler

  storage_shows : (s : Shown) → storage_shown code class (lookup 0 tables.needs.items handler) ≡ Some s → Is s
  unfolding storage_shown bytes_shown storage
  storage_shows s e = of (storage_node code.program class) refl e
    where
      by_bytes : (number : ℕ) → storage_node code.program class ≡ Some number → (o : Option ℕ) →
          read code.program.nodes number_literal number ≡ o →
          (elim o [
            | None ↦ Some (record { cause = NotLiteral; at = position_of_node code number })
            | Some bytes ↦
                if nat_lt bytes (lookup 0 tables.needs.items handler)
                then Some (record { cause = TooSmall; at = class_position code.program class }) else None
          ]) ≡ Some s → Is s
      by_bytes number h None q e =
          (let same : record { cause = NotLiteral; at = position_of_node code number } ≡ s = cc (e) in
          subst Is same (by_form number h q))
      by_bytes number h (Some bytes) q e = by_test (nat_lt bytes (lookup 0 tables.needs.items handler)) refl e
        where
          by_test : (b : Bool) → nat_lt bytes (lookup 0 tables.needs.items handler) ≡ b →
              (if b then Some (record { cause = TooSmall; at = class_position code.program class }) else None) ≡ Some s →
              Is s
          by_test true t e =
              (let same : record { cause = TooSmall; at = class_position code.program class } ≡ s = cc (e) in
              subst Is same
              (by_storage bytes (ap (λ (o : Option ℕ). o >>= read code.program.nodes number_literal) h ∙ q)
              (grind (arith, nat_tests))))
          by_test false t e = absurd (cc (e))

      of : (o : Option ℕ) → storage_node code.program class ≡ o →
          (elim o [
            | None ↦ None
            | Some number ↦ elim (read code.program.nodes number_literal number) [
              | None ↦ Some (record { cause = NotLiteral; at = position_of_node code number })
              | Some bytes ↦
                  if nat_lt bytes (lookup 0 tables.needs.items handler)
                  then Some (record { cause = TooSmall; at = class_position code.program class }) else None
            ]
          ]) ≡ Some s → Is s
      of None h e = absurd (cc (e))
      of (Some number) h e = by_bytes number h (read code.program.nodes number_literal number) refl e

  -- ---- what is shown is found

  listed_all : (s : Shown) → Is s →
      ShownAmong code marks tables.order.loops.items tables.shown.items tables.points.items s ⊎ (storage_shown code class (lookup 0 tables.needs.items handler) ≡ Some s)
  unfolding recursion_at reached_at storage_shown bytes_shown storage is_point
  listed_all _ (recursion b l m t) =
      inl (at_body b (among b l (ap (λ x. x || is_some (lookup None tables.shown.items b)) t))
      (ap (λ x. if x && slice_index_or tables.order.loops.items (body_vertex code b) false
      then Some (record { cause = Recursion; at = position_of_node code b }) else None) m
      ∙ ap (λ x. if x then Some (record { cause = Recursion; at = position_of_node code b }) else None) t))
  listed_all _ (by_node id node cause at e m h) =
      (let l = there_is code first (rows_of tables.edges.items) (graph_is code tables.edges.items are.edges)
      code.program.nodes id node e in
      let reported = row_is id l ∙ is_shown code tables.needs.items id node e cause at h in
      inl (node_of id cause at
      (among id l (ap (λ (o : Option Shown). slice_index_or tables.order.loops.items (body_vertex code id) false || is_some o)
      reported ∙ or_true (slice_index_or tables.order.loops.items (body_vertex code id) false)))
      (ap (λ x. if x then lookup None tables.shown.items id else None) m ∙ reported)))
    where
      node_of : (id : ℕ) (cause : NoBound) (at : Position) → Contains tables.points.items id →
          reached_at marks tables.shown.items id ≡ Some (record { cause = cause; at = at }) →
          ShownAmong code marks tables.order.loops.items tables.shown.items tables.points.items (record { cause = cause; at = at })
      node_of id cause at c e = at_node id c e
  listed_all _ (by_form number a b) = inr (by_number a b)
    where
      by_number : storage_node code.program class ≡ Some number →
          read code.program.nodes number_literal number ≡ None →
          storage_shown code class (lookup 0 tables.needs.items handler)
          ≡ Some (record { cause = NotLiteral; at = position_of_node code number })
      by_number a b =
          ap (λ (o : Option ℕ). elim o [
            | None ↦ None
            | Some n ↦ bytes_shown code class (lookup 0 tables.needs.items handler) n
          ]) a
          ∙ ap (λ (o : Option ℕ). elim o [
            | None ↦ Some (record { cause = NotLiteral; at = position_of_node code number })
            | Some bytes ↦
                if nat_lt bytes (lookup 0 tables.needs.items handler)
                then Some (record { cause = TooSmall; at = class_position code.program class }) else None
          ]) b
  listed_all _ (by_storage bytes a l) = inr (of (storage_node code.program class) refl a)
    where
      of : (o : Option ℕ) → storage_node code.program class ≡ o →
          (o >>= read code.program.nodes number_literal) ≡ Some bytes →
          storage_shown code class (lookup 0 tables.needs.items handler)
          ≡ Some (record { cause = TooSmall; at = class_position code.program class })
      of None h e = absurd (cc (e))
      of (Some number) h e =
          ap (λ (o : Option ℕ). elim o [
            | None ↦ None
            | Some n ↦ bytes_shown code class (lookup 0 tables.needs.items handler) n
          ]) h
          ∙ (ap (λ (o : Option ℕ). elim o [
            | None ↦ Some (record { cause = NotLiteral; at = position_of_node code number })
            | Some bytes ↦
                if nat_lt bytes (lookup 0 tables.needs.items handler)
                then Some (record { cause = TooSmall; at = class_position code.program class }) else None
          ]) e
          ∙ ap (λ b. if b then Some (record { cause = TooSmall; at = class_position code.program class }) else None)
          (let t : nat_lt bytes (lookup 0 tables.needs.items handler) ≡ true = grind (arith, nat_tests) in t))

  -- ---- the answer

  class_answer : (number : ℕ) → storage_node code.program class ≡ Some number →
      IsAnswer code class
      (answer_for
      (first_of (first_shown code marks tables.order.loops.items tables.shown.items None tables.points.items)
      (storage_shown code class (lookup 0 tables.needs.items handler)))
      (lookup 0 tables.needs.items handler))
  class_answer number stored =
      answers code first (rows_of tables.edges.items) (graph_is code tables.edges.items are.edges)
      tables.order.vertices.items tables.order.loops.items are.ordered tables.needs.items are.capped literals class handler
      handles there marks reach (number, stored)
      (first_of (first_shown code marks tables.order.loops.items tables.shown.items None tables.points.items)
      (storage_shown code class (lookup 0 tables.needs.items handler)))
      (chosen_same
      (λ s. (⊥ ⊎ ShownAmong code marks tables.order.loops.items tables.shown.items tables.points.items s)
      ⊎ (storage_shown code class (lookup 0 tables.needs.items handler) ≡ Some s))
      Is
      (first_of (first_shown code marks tables.order.loops.items tables.shown.items None tables.points.items)
      (storage_shown code class (lookup 0 tables.needs.items handler)))
      to (λ s k. from s (listed_all s k))
      (chosen_more (λ s. ⊥ ⊎ ShownAmong code marks tables.order.loops.items tables.shown.items tables.points.items s)
      (λ s. storage_shown code class (lookup 0 tables.needs.items handler) ≡ Some s)
      (first_shown code marks tables.order.loops.items tables.shown.items None tables.points.items)
      (storage_shown code class (lookup 0 tables.needs.items handler))
      (chosen_among code marks tables.order.loops.items tables.shown.items tables.points.items None (λ s. ⊥) chosen_none)
      (all_of (storage_shown code class (lookup 0 tables.needs.items handler)))))
    where
      to : (s : Shown) →
          (⊥ ⊎ ShownAmong code marks tables.order.loops.items tables.shown.items tables.points.items s)
          ⊎ (storage_shown code class (lookup 0 tables.needs.items handler) ≡ Some s) → Is s
      to s (inl (inl n)) = absurd n
      to s (inl (inr h)) = among_shows s h
      to s (inr e) = storage_shows s e

      from : (s : Shown) →
          ShownAmong code marks tables.order.loops.items tables.shown.items tables.points.items s
          ⊎ (storage_shown code class (lookup 0 tables.needs.items handler) ≡ Some s) →
          (⊥ ⊎ ShownAmong code marks tables.order.loops.items tables.shown.items tables.points.items s)
          ⊎ (storage_shown code class (lookup 0 tables.needs.items handler) ≡ Some s)
      from s (inl h) = inl (inr h)
      from s (inr e) = inr e

  -- as code finds it
  pub answer_is : (number : ℕ) → storage_node code.program class ≡ Some number → (ms ls : List Bool)
      (ss : List (Option Shown)) (ps : List ℕ) (bytes : ℕ) (a b best : Option Shown) (answer : BoundAnswer) →
      ms ≡ marks → ls ≡ tables.order.loops.items → ss ≡ tables.shown.items → ps ≡ tables.points.items →
      bytes ≡ lookup 0 tables.needs.items handler → a ≡ first_shown code ms ls ss None ps →
      b ≡ storage_shown code class bytes → best ≡ first_of a b → answer ≡ answer_for best bytes →
      IsAnswer code class answer
  answer_is number stored ms ls ss ps bytes a b best answer m l s p n f g h e =
      let same : answer
      ≡ answer_for
      (first_of (first_shown code marks tables.order.loops.items tables.shown.items None tables.points.items)
      (storage_shown code class (lookup 0 tables.needs.items handler)))
      (lookup 0 tables.needs.items handler) = cc (m, l, s, p, n, f, g, h, e) in
      subst (IsAnswer code class) (sym same) (class_answer number stored)
