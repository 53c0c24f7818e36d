-- What is found by looking at the vertices that are noted, one after the other.
use Rattle.std.specs.Prelude.{Contains, slice_index_or, replicate}
use Rattle.std.specs.Global.{Vec}
use Rattle.std.proofs.Common.{◌≡◌, ℕ, zero, suc, ◌+◌, ◌<◌, ◌≤◌, List, [], ◌∷◌, length, Bool, true, false, sym, ◌∙◌, ap, subst, arith, ⊎_elim}
use Rattle.std.proofs.lemmas.List.{length-replicate}
use Rattle.std.proofs.lemmas.List.Elements.{Contains-append_left, Contains-append_cases}
use Rattle.directed_graphs.specs.Graphs.{Graph, rows_of, successors, IsReached, start, along, IsReachOf, AreNoted, IsLonger}
use Rattle.directed_graphs.proofs.Notes.{count_few}
use Rattle.directed_graphs.proofs.Closed.{IsClosedBelow, any_default, there as at_place, closed_none, closed_more, reach_is}
use Rattle.directed_graphs.proofs.Rows.{as_many}

-- the first vertices of the list have been looked at
pub record IsSearch (graph : Graph) (from : ℕ) (marks : List Bool) (found : List ℕ) (index : ℕ) : Type 0 where
  pub whole : length marks ≡ length graph
  pub noted : AreNoted marks found
  pub first : Contains found from
  pub sound : (v : ℕ) → Contains found v → IsReached graph from v
  pub closed : IsClosedBelow graph found index

-- a vertex that is marked is one
marked_within : (marks : List Bool) (v : ℕ) → slice_index_or marks v false ≡ true → v < length marks
marked_within [] v e = absurd (cc (e))
marked_within (m ∷ marks) zero e = omega arith
marked_within (m ∷ marks) (suc v) e = let l = marked_within marks v e in omega (arith, l)

pub found_within : (graph : Graph) (from : ℕ) (marks : List Bool) (found : List ℕ) (index : ℕ) →
    IsSearch graph from marks found index → index < length found → slice_index_or found index 0 < length graph
found_within graph from marks found index s l =
    let a = marked_within marks (slice_index_or found index 0) (s.noted.marked (slice_index_or found index 0) (at_place found index 0 l)) in
    let w = s.whole in omega (arith, a, w)

pub search_first : (graph : Graph) (from : ℕ) (marks : List Bool) (found : List ℕ) → length marks ≡ length graph →
    from < length graph → AreNoted marks found → (from < length graph → Contains found from) →
    IsLonger [] (λ v. v ≡ from) found → IsSearch graph from marks found 0
search_first graph from marks found whole l noted has longer = record {
  whole = whole;
  noted = noted;
  first = has l;
  sound = λ v c. subst (IsReached graph from) (sym (longer.each v (subst (λ xs. Contains xs v) longer.is c))) start;
  closed = closed_none graph found;
}

pub search_more : (graph : Graph) (from : ℕ) (marks : List Bool) (found : List ℕ) (index : ℕ) →
    IsSearch graph from marks found index → index < length found → (after : List Bool) (list : List ℕ) →
    length after ≡ length marks → AreNoted after list →
    ((v : ℕ) → Contains (successors graph (slice_index_or found index 0)) v → v < length marks → Contains list v) →
    IsLonger found (Contains (successors graph (slice_index_or found index 0))) list →
    IsSearch graph from after list (index + 1)
search_more graph from marks found index s l after list whole noted has longer = record {
  whole = whole ∙ s.whole;
  noted = noted;
  first = subst (λ xs. Contains xs from) (sym longer.is) (Contains-append_left found longer.more from s.first);
  sound = λ v c.
      ⊎_elim (λ h. s.sound v h)
      (λ h. along (slice_index_or found index 0) v
      (s.sound (slice_index_or found index 0) (at_place found index 0 l)) (longer.each v h))
      (Contains-append_cases found longer.more v (subst (λ xs. Contains xs v) longer.is c));
  closed = closed_more graph found list index s.closed l longer
      (λ w c m. has w c (let e = s.whole in omega (arith, m, e)));
}

-- where the whole list has been looked at, or as many of it as there are vertices
pub search_all : (graph : Graph) (from : ℕ) (marks : List Bool) (found : List ℕ) (index : ℕ) →
    IsSearch graph from marks found index → length found ≤ index → IsReachOf graph from marks
search_all graph from marks found index s l =
    reach_is graph from marks found s.whole s.noted s.first s.sound
    (record { has = λ k w m n c r. s.closed.has k w (omega (arith, m, l)) n c r })

pub few_found : (graph : Graph) (from : ℕ) (marks : List Bool) (found : List ℕ) (index : ℕ) →
    IsSearch graph from marks found index → length found ≤ length graph
few_found graph from marks found index s =
    let a = count_few marks in let b = s.noted.once in let c = s.whole in omega (arith, a, b, c)

-- ---- as code does it

pub search_begins : (rows : List (Vec ℕ)) (from : ℕ) (marks : List Bool) (found : List ℕ) (after : List Bool)
    (list : List ℕ) → marks ≡ replicate (length rows) false → found ≡ [] → from < length rows →
    length after ≡ length marks → AreNoted after list → (from < length marks → Contains list from) →
    IsLonger found (λ v. v ≡ from) list → IsSearch (rows_of rows) from after list 0
search_begins rows from marks found after list e f l whole noted has longer =
    let many : length marks ≡ length rows = ap (λ ms. length ms) e ∙ length-replicate (length rows) false in
    search_first (rows_of rows) from after list (whole ∙ (many ∙ sym (as_many rows)))
    (let a = as_many rows in omega (arith, l, a)) noted
    (λ m. has (let a = as_many rows in omega (arith, m, a, many)))
    (subst (λ xs. IsLonger xs (λ v. v ≡ from) list) f longer)

pub search_goes_on : (graph : Graph) (from : ℕ) (marks : List Bool) (found : List ℕ) (index v : ℕ) (edges : List ℕ) →
    IsSearch graph from marks found index → index < length found → v ≡ slice_index_or found index v →
    edges ≡ successors graph v → (after : List Bool) (list : List ℕ) →
    length after ≡ length marks → AreNoted after list →
    ((w : ℕ) → Contains edges w → w < length marks → Contains list w) → IsLonger found (Contains edges) list →
    IsSearch graph from after list (index + 1)
search_goes_on graph from marks found index v edges s l is e after list whole noted has longer =
    let same : edges ≡ successors graph (slice_index_or found index 0) =
    e ∙ ap (successors graph) (is ∙ any_default found index v 0 l) in
    search_more graph from marks found index s l after list whole noted
    (λ w c m. has w (subst (λ xs. Contains xs w) (sym same) c) m)
    (subst (λ xs. IsLonger found (Contains xs) list) same longer)

pub next_within : (rows : List (Vec ℕ)) (from : ℕ) (marks : List Bool) (found : List ℕ) (index v : ℕ) →
    IsSearch (rows_of rows) from marks found index → index < length found → v ≡ slice_index_or found index v →
    v < length rows
next_within rows from marks found index v s l is =
    let a = found_within (rows_of rows) from marks found index s l in
    let b = is ∙ any_default found index v 0 l in
    let c = as_many rows in omega (arith, a, b, c)

pub search_ends : (rows : List (Vec ℕ)) (from : ℕ) (marks : List Bool) (found : List ℕ) (index : ℕ) →
    IsSearch (rows_of rows) from marks found index → length rows ≤ index → IsReachOf (rows_of rows) from marks
search_ends rows from marks found index s l =
    search_all (rows_of rows) from marks found index s
    (let a = few_found (rows_of rows) from marks found index s in let b = as_many rows in omega (arith, a, b, l))
