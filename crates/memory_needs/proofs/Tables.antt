-- Tables whose rows are lists, and the graph of a program as one.
use Rattle.std.specs.Prelude.{◌⊎◌, Some, slice_get, nat_lt, Contains, if◌then◌else◌}
use Rattle.std.specs.Global.{Vec}
use Rattle.std.proofs.Common.{◌≡◌, inl, inr, ℕ, zero, suc, ◌+◌, ◌-◌, ◌<◌, ◌≤◌, List, [], ◌∷◌, ◌++◌, length, Bool, true, false, refl, sym, ◌∙◌, ap, subst, arith, length-append}
use Rattle.std.proofs.lemmas.Bool.Decides.{nat_tests}
use Rattle.directed_graphs.specs.Graphs.{successors, rows_of, EdgesStay}
use Rattle.directed_graphs.proofs.Levels.{get_pushed}
use Rattle.directed_graphs.proofs.Rows.{as_many}
use Rattle.scj_tree.specs.Forest.{ChildrenFirst}
use Rattle.scj_rules.proofs.ReportLemmas.{none_contained}
use Rattle.scj_model.specs.Code.{Code}
use Rattle.memory_needs.specs.Sites.{IsTable}
use Rattle.memory_needs.specs.Edges.{count, body_vertex, edges_of_node, edges_of_vertex, IsGraphOf}
use Rattle.memory_needs.proofs.Agree.{part_is_smaller}
use Rattle.memory_needs.proofs.ProgramEdges.{IsNext, to_part, to_body, from_node, from_body}

pub table_none : (lists : ℕ → List ℕ) (table : List (Vec ℕ)) → table ≡ [] → IsTable lists 0 table
table_none lists table e = record {
  whole = ap (λ (t : List (Vec ℕ)). length t) e;
  each = λ k row h. absurd (let a = ap (λ (t : List (Vec ℕ)). slice_get t k) e in cc (a, h));
}

pub table_more : (lists : ℕ → List ℕ) (n : ℕ) (table : List (Vec ℕ)) (row : Vec ℕ) → IsTable lists n table →
    row.items ≡ lists n → IsTable lists (n + 1) (table ++ row ∷ [])
table_more lists n table row t e = record {
  whole = let a = length-append table (row ∷ []) in let b = t.whole in omega (arith, a, b);
  each = λ k other h. of k other (get_pushed table row other k h);
}
  where
    of : (k : ℕ) (other : Vec ℕ) →
        ((slice_get table k ≡ Some other) × (k < length table)) ⊎ ((k ≡ length table) × (row ≡ other)) →
        other.items ≡ lists k
    of k other (inl h) = t.each k other h.0
    of k other (inr h) =
        sym (ap (λ (r : Vec ℕ). r.items) h.1) ∙ (e ∙ ap lists (let a = h.0 in let b = t.whole in omega (arith, a, b)))

row_there : (table : List (Vec ℕ)) (k : ℕ) → k < length table → (row : Vec ℕ) × (slice_get table k ≡ Some row)
row_there [] k l = absurd (omega (arith, l))
row_there (row ∷ table) zero l = (row, refl)
row_there (row ∷ table) (suc k) l = row_there table k (omega (arith, l))

row_read : (table : List (Vec ℕ)) (k : ℕ) (row : Vec ℕ) → slice_get table k ≡ Some row →
    successors (rows_of table) k ≡ row.items
row_read [] k row e = absurd (cc (e))
row_read (x ∷ table) zero row e = (let same : x ≡ row = cc (e) in ap (λ (r : Vec ℕ). r.items) same)
row_read (x ∷ table) (suc k) row e = row_read table k row e

list_read : (lists : ℕ → List ℕ) (n : ℕ) (table : List (Vec ℕ)) → IsTable lists n table → (k : ℕ) → k < n →
    successors (rows_of table) k ≡ lists k
list_read lists n table t k l =
    let r = row_there table k (let w = t.whole in omega (arith, l, w)) in
    row_read table k r.0 r.1 ∙ t.each k r.0 r.1

pub graph_is : (code : Code) (table : List (Vec ℕ)) → IsTable (edges_of_vertex code) (count code + count code) table →
    IsGraphOf code (rows_of table)
unfolding edges_of_vertex
graph_is code table t = record {
  whole = as_many table ∙ t.whole;
  of_nodes = λ id l. list_read (edges_of_vertex code) (count code + count code) table t id (omega (arith, l)) ∙ first id l;
  of_bodies = λ id l.
      list_read (edges_of_vertex code) (count code + count code) table t (body_vertex code id) (omega (arith, l))
      ∙ second id l;
}
  where
    first : (id : ℕ) → id < count code →
        (if nat_lt id (count code) then edges_of_node code id else (id - count code) ∷ []) ≡ edges_of_node code id
    first id l =
        let t : nat_lt id (count code) ≡ true = grind (arith, nat_tests) in
        ap (λ b. if b then edges_of_node code id else (id - count code) ∷ []) t

    second : (id : ℕ) → id < count code →
        (if nat_lt (body_vertex code id) (count code) then edges_of_node code (body_vertex code id)
        else (body_vertex code id - count code) ∷ [])
        ≡ id ∷ []
    second id l =
        let t : nat_lt (body_vertex code id) (count code) ≡ false = grind (arith, nat_tests) in
        let e : body_vertex code id - count code ≡ id = omega arith in
        ap (λ b. if b then edges_of_node code (body_vertex code id) else (body_vertex code id - count code) ∷ []) t
        ∙ ap (λ n. n ∷ []) e

beyond : (table : List (Vec ℕ)) (k : ℕ) → length table ≤ k → successors (rows_of table) k ≡ []
beyond [] k l = refl
beyond (row ∷ table) zero l = absurd (omega (arith, l))
beyond (row ∷ table) (suc k) l = beyond table k (omega (arith, l))

-- each edge leads to a vertex
pub edges_stay : (code : Code) → ChildrenFirst 0 code.program.nodes → (table : List (Vec ℕ)) →
    IsTable (edges_of_vertex code) (count code + count code) table → EdgesStay (rows_of table)
edges_stay code first table t v w c = of (nat_lt v (count code)) (nat_lt v (count code + count code)) refl refl
  where
    is : IsGraphOf code (rows_of table)
    is = graph_is code table t

    next : (w : ℕ) → v < count code → IsNext code v w → w < length (rows_of table)
    next _ l (to_part x node there d) =
        let m = part_is_smaller code.program.nodes first v x node there d in
        let a = is.whole in omega (arith, a, l, m)
    next _ l (to_body node m d) = let a = is.whole in omega (arith, a, m)

    of : (a b : Bool) → nat_lt v (count code) ≡ a → nat_lt v (count code + count code) ≡ b →
        w < length (rows_of table)
    of true b p q =
        let l : v < count code = grind (arith, nat_tests) in next w l (from_node code (rows_of table) is v w l c)
    of false true p q =
        let l : v - count code < count code = grind (arith, nat_tests) in
        let e : count code + (v - count code) ≡ v = grind (arith, nat_tests) in
        let d = from_body code (rows_of table) is (v - count code) w l
        (subst (λ u. Contains (successors (rows_of table) u) w) (sym e) c) in
        let a = is.whole in omega (arith, a, l, d)
    of false false p q =
        absurd (none_contained w (subst (λ xs. Contains xs w) (beyond table v
        (let a = t.whole in grind (arith, nat_tests, a))) c))
