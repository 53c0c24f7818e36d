-- The Room of handler classes, and the store that is needed.
use Rattle.std.specs.Prelude.{not, ◌&&◌, Option, Some, None, slice_index_or, option_to_list, Contains}
use Rattle.std.proofs.Common.{◌≡◌, ℕ, ◌<◌, List, [], ◌∷◌, Bool, true, false, true≢false, refl, sym, ◌∙◌, ap, subst, arith, ⊎_elim}
use Rattle.std.proofs.lemmas.List.{length-replicate}
use Rattle.directed_graphs.specs.Graphs.{Graph, rows_of, IsReached, start, along}
use Rattle.scj_tree.specs.Forest.{ChildrenFirst}
use Rattle.scj_tree.specs.Recursion.{lookup}
use Rattle.scj_rules.proofs.ReportLemmas.{Contains-head, Contains-tail, Contains-cases, none_contained}
use Rattle.scj_rules.specs.declared.views.Body.{Body}
use Rattle.scj_rules.specs.declared.views.Body.TheVariants.{Written}
use Rattle.scj_model.specs.Code.{Code, position_of_node}
use Rattle.memory_needs.specs.declared.answers.BoundAnswer.{BoundAnswer}
use Rattle.memory_needs.specs.declared.answers.BoundAnswer.TheVariants.{Yes, No}
use Rattle.memory_needs.specs.declared.answers.BoundRow.{BoundRow}
use Rattle.memory_needs.specs.declared.answers.NoBound.TheVariants.{Recursion}
use Rattle.memory_needs.specs.declared.program_tables.Tables.{Tables}
use Rattle.memory_needs.specs.Reach.{handler_body}
use Rattle.memory_needs.specs.Room.{HasRoom}
use Rattle.memory_needs.specs.Causes.{Recurs, Shows, IsNowhere}
use Rattle.memory_needs.specs.Rows.{IsAnswer, handler_classes, AreRows, is_no, AllSuffice, IsRoom, store_needed, ReportsStore}
use Rattle.memory_needs.specs.Edges.{count, body_vertex, written_nodes, IsGraphOf}
use Rattle.memory_needs.specs.ProgramTables.{AreTablesOf}
use Rattle.memory_needs.specs.Solved.{reported_by, solved_rooms, zero_rows}
use Rattle.memory_needs.specs.Stores.{class_room, all_yes}
use Rattle.memory_needs.specs.WellFormed.{IsWellFormed}
use Rattle.memory_needs.proofs.ProgramEdges.{body_edge}
use Rattle.memory_needs.proofs.Reached.{there_recurs, is_good}
use Rattle.memory_needs.proofs.RowLists.{row_there}
use Rattle.memory_needs.proofs.Solving.{solved_room}
use Rattle.memory_needs.proofs.Tables.{graph_is}

-- the node of handleAsyncEvent is found
module _ (code : Code) (formed : IsWellFormed code) (class : ℕ) (listed : Contains (handler_classes code.program) class)
    (body : Option Body) (is : body ≡ handler_body code class) (found : Option ℕ)
    (same : option_to_list found ≡ written_nodes (option_to_list body)) where
  handler_is : (node : ℕ) × (found ≡ Some node) × (handler_body code class ≡ Some (Written node)) × (node < count code)
  unfolding written_nodes
  handler_is =
      let h = formed.handles class listed in
      let nodes : option_to_list found ≡ h.0 ∷ [] =
      same ∙ ap (λ (o : Option Body). written_nodes (option_to_list o)) (is ∙ h.1) in
      (h.0, of found h.0 nodes, h.1, h.2)
    where
      of : (o : Option ℕ) (node : ℕ) → option_to_list o ≡ node ∷ [] → o ≡ Some node
      of None node q = absurd (cc (q))
      of (Some n) node q = let same : n ≡ node = cc (q) in ap (λ k. Some k) same

  pub handler_there : found ≡ None → ⊥
  handler_there e = let h = handler_is in let a = h.1 in cc (a, e)

  pub handler_some : (node : ℕ) → found ≡ Some node →
      (handler_body code class ≡ Some (Written node)) × (node < count code)
  handler_some node e =
      let h = handler_is in
      let a = h.1 in
      let one : h.0 ≡ node = cc (a, e) in
      (subst (λ n. handler_body code class ≡ Some (Written n)) one h.2, subst (λ n. n < count code) one h.3)

-- it is told by the row of the node
pub room_reported : (code : Code) (rows : List ℕ) (class node : ℕ) → handler_body code class ≡ Some (Written node) →
    lookup 0 rows node ≡ class_room code rows class
unfolding class_room reported_by
room_reported code rows class node e =
    sym (ap (λ (o : Option Body). elim o [ None ↦ 0 | Some body ↦ reported_by rows body ]) e)

-- where the answer isn't No, no body that is reached leads to itself
never_recurs : (code : Code) (class : ℕ) (answer : BoundAnswer) → IsAnswer code class answer → is_no answer ≡ false →
    IsNowhere (Recurs code class)
unfolding Shows
never_recurs code class (Yes bytes) is n = λ at r. is.is.no_cause Recursion at r
never_recurs code class (No cause at) is n = absurd (true≢false n)

yes_each : (rows : List BoundRow) → all_yes rows ≡ true → AllSuffice rows
unfolding all_yes
yes_each [] e row c = absurd (none_contained row c)
yes_each (r ∷ rows) e row c =
    of (is_no r.answer) (all_yes rows) refl refl e (λ q k. yes_each rows q row k)
  where
    of : (b d : Bool) → is_no r.answer ≡ b → all_yes rows ≡ d → (not b && d) ≡ true →
        (all_yes rows ≡ true → Contains rows row → is_no row.answer ≡ false) → is_no row.answer ≡ false
    of true d p q h rest = absurd (true≢false (sym h))
    of false false p q h rest = absurd (true≢false (sym h))
    of false true p q h rest =
        ⊎_elim (λ (s : r ≡ row). sym (ap (λ (z : BoundRow). is_no z.answer) s) ∙ p) (λ k. rest q k)
        (Contains-cases r rows row c)

-- some row is No
pub some_no : (rows : List BoundRow) → all_yes rows ≡ false →
    (row : BoundRow) × Contains rows row × (is_no row.answer ≡ true)
unfolding all_yes
some_no [] e = absurd (true≢false e)
some_no (r ∷ rows) e = of (is_no r.answer) (all_yes rows) refl refl e (λ q. some_no rows q)
  where
    of : (b d : Bool) → is_no r.answer ≡ b → all_yes rows ≡ d → (not b && d) ≡ false →
        (all_yes rows ≡ false → (row : BoundRow) × Contains rows row × (is_no row.answer ≡ true)) →
        (row : BoundRow) × Contains (r ∷ rows) row × (is_no row.answer ≡ true)
    of true d p q h rest = (r, Contains-head r rows, p)
    of false true p q h rest = absurd (true≢false h)
    of false false p q h rest = (let s = rest q in (s.0, Contains-tail r rows s.0 s.1, s.2))

module _ (code : Code) (first : ChildrenFirst 0 code.program.nodes) (tables : Tables) (are : AreTablesOf code tables) where
  abbrev graph : Graph
  graph = rows_of tables.edges.items

  is : IsGraphOf code (rows_of tables.edges.items)
  is = graph_is code tables.edges.items are.edges

  room_is : (class handler : ℕ) → handler_body code class ≡ Some (Written handler) → handler < count code →
      IsNowhere (Recurs code class) →
      HasRoom code (Written handler)
      (lookup 0 (solved_rooms code tables.order.vertices.items (zero_rows code)) handler)
  room_is class handler handles there none =
      solved_room code first (rows_of tables.edges.items) is tables.order.vertices.items tables.order.loops.items
      are.ordered (zero_rows code) (length-replicate (count code) 0) handler there
      (is_good code first (rows_of tables.edges.items) is class handler handles there tables.order.vertices.items
      tables.order.loops.items are.ordered straight (zero_rows code) (length-replicate (count code) 0) handler
      (along (body_vertex code handler) handler start (body_edge code (rows_of tables.edges.items) is handler there)))
    where
      straight : (body : ℕ) → body < count code →
          IsReached (rows_of tables.edges.items) (body_vertex code handler) (body_vertex code body) →
          slice_index_or tables.order.loops.items (body_vertex code body) false ≡ false
      straight body l r = of (slice_index_or tables.order.loops.items (body_vertex code body) false) refl
        where
          of : (t : Bool) → slice_index_or tables.order.loops.items (body_vertex code body) false ≡ t →
              slice_index_or tables.order.loops.items (body_vertex code body) false ≡ false
          of false e = e
          of true e =
              absurd (none (position_of_node code body)
              (there_recurs code first (rows_of tables.edges.items) is class handler handles there body l r
              ((are.ordered.exact (body_vertex code body) (let w = is.whole in omega (arith, l, w))).0 e)))

  module _ (formed : IsWellFormed code) (rows : List BoundRow) (listed : AreRows code rows) where
    class_room_is : AllSuffice rows → (class : ℕ) → Contains (handler_classes code.program) class →
        IsRoom code class (class_room code (solved_rooms code tables.order.vertices.items (zero_rows code)) class)
    unfolding class_room reported_by
    class_room_is all class c =
        let h = formed.handles class c in
        let r = row_there rows class (subst (λ cs. Contains cs class) (sym listed.of_handlers) c) in
        let none = never_recurs code r.0.handler r.0.answer (listed.are_answers r.0 r.1) (all r.0 r.1) in
        let reported : class_room code (solved_rooms code tables.order.vertices.items (zero_rows code)) class
        ≡ lookup 0 (solved_rooms code tables.order.vertices.items (zero_rows code)) h.0 =
        ap (λ (o : Option Body). elim o [
          | None ↦ 0
          | Some body ↦ reported_by (solved_rooms code tables.order.vertices.items (zero_rows code)) body
        ]) h.1 in
        record {
          body = Written h.0;
          is_body = h.1;
          is = subst (HasRoom code (Written h.0)) (sym reported)
              (room_is class h.0 h.1 h.2 (subst (λ k. IsNowhere (Recurs code k)) r.2 none));
        }

    pub reports_store : (bytes : ℕ) → all_yes rows ≡ true →
        bytes
        ≡ store_needed code.program
        (class_room code (solved_rooms code tables.order.vertices.items (zero_rows code))) →
        ReportsStore code rows (Some bytes)
    reports_store bytes all e = (
      yes_each rows all,
      record {
        rooms = class_room code (solved_rooms code tables.order.vertices.items (zero_rows code));
        are_rooms = class_room_is (yes_each rows all);
        is = e;
      },
    )
