-- A list of vertices that are reached, with the first one and with the successors of each, has all that is reached.
use Rattle.std.specs.Prelude.{Contains, slice_index_or, nat_lt}
use Rattle.std.proofs.Common.{◌≡◌, ℕ, zero, suc, ◌+◌, ◌<◌, List, [], ◌∷◌, ◌++◌, length, Bool, true, false, refl, sym, ◌∙◌, ap, subst, arith}
use Rattle.std.proofs.lemmas.Bool.Decides.{nat_tests}
use Rattle.std.proofs.lemmas.List.Elements.{Contains-append_left}
use Rattle.directed_graphs.specs.Graphs.{Graph, successors, IsReached, start, along, IsReachOf, AreNoted, IsLonger}

pub any_default : {A : Type 0} (xs : List A) (k : ℕ) (d e : A) → k < length xs → slice_index_or xs k d ≡ slice_index_or xs k e
any_default [] k d e l = absurd (omega (arith, l))
any_default (x ∷ xs) zero d e l = refl
any_default (x ∷ xs) (suc k) d e l = any_default xs k d e (omega (arith, l))

left_at : {A : Type 0} (xs ys : List A) (k : ℕ) (d : A) → k < length xs → slice_index_or (xs ++ ys) k d ≡ slice_index_or xs k d
left_at [] ys k d l = absurd (omega (arith, l))
left_at (x ∷ xs) ys zero d l = refl
left_at (x ∷ xs) ys (suc k) d l = left_at xs ys k d (omega (arith, l))

pub there : {A : Type 0} (xs : List A) (k : ℕ) (d : A) → k < length xs → Contains xs (slice_index_or xs k d)
there xs k d l = (k, l, any_default xs k (slice_index_or xs k d) d l)

-- the successors of the first vertices of a list stand in it, as far as there are vertices of these numbers
pub record IsClosedBelow (graph : Graph) (found : List ℕ) (bound : ℕ) : Type 0 where
  pub has : (k w : ℕ) → k < bound → k < length found → Contains (successors graph (slice_index_or found k 0)) w →
      w < length graph → Contains found w

pub closed_none : (graph : Graph) (found : List ℕ) → IsClosedBelow graph found 0
closed_none graph found = record { has = λ k w l m c n. absurd (omega (arith, l)) }

-- where the list goes on with the successors of the next vertex
pub closed_more : (graph : Graph) (before after : List ℕ) (k : ℕ) → IsClosedBelow graph before k → k < length before →
    IsLonger before (Contains (successors graph (slice_index_or before k 0))) after →
    ((w : ℕ) → Contains (successors graph (slice_index_or before k 0)) w → w < length graph → Contains after w) →
    IsClosedBelow graph after (k + 1)
closed_more graph before after k closed l longer next = record { has = λ j w m n c r. of j w m c r }
  where
    same : (j : ℕ) → j < length before → slice_index_or after j 0 ≡ slice_index_or before j 0
    same j m = ap (λ xs. slice_index_or xs j 0) longer.is ∙ left_at before longer.more j 0 m

    of : (j w : ℕ) → j < k + 1 → Contains (successors graph (slice_index_or after j 0)) w →
        w < length graph → Contains after w
    of j w m c r = by_test (nat_lt j k) refl
      where
        by_test : (b : Bool) → nat_lt j k ≡ b → Contains after w
        by_test true e =
            let i : j < k = grind (arith, nat_tests) in
            let was = closed.has j w i (omega (arith, i, l))
            (subst (λ x. Contains (successors graph x) w) (same j (omega (arith, i, l))) c) r in
            subst (λ xs. Contains xs w) (sym longer.is) (Contains-append_left before longer.more w was)
        by_test false e =
            let i : j ≡ k = grind (arith, nat_tests, m) in
            next w (subst (λ x. Contains (successors graph x) w)
            (same j (omega (arith, i, l)) ∙ ap (λ n. slice_index_or before n 0) i) c) r

module _ (graph : Graph) (from : ℕ) (marks : List Bool) (found : List ℕ) (whole : length marks ≡ length graph)
    (noted : AreNoted marks found) (first : Contains found from)
    (sound : (v : ℕ) → Contains found v → IsReached graph from v) (closed : IsClosedBelow graph found (length found)) where
  -- what has a successor is a vertex
  has_row : (rows : Graph) (u w : ℕ) → Contains (successors rows u) w → u < length rows
  has_row [] u w c = absurd (omega (arith, c.1))
  has_row (row ∷ rows) zero w c = omega arith
  has_row (row ∷ rows) (suc u) w c = let l = has_row rows u w c in omega (arith, l)

  all_in : (v : ℕ) → IsReached graph from v → v < length graph → Contains found v
  all_in v start l = first
  all_in v (along u w r c) l =
      let i = all_in u r (has_row graph u w c) in
      closed.has i.0 w i.1 i.1
      (subst (λ x. Contains (successors graph x) w) (sym i.2 ∙ any_default found i.0 u 0 i.1) c) l

  pub reach_is : IsReachOf graph from marks
  reach_is = record {
    whole = whole;
    exact = λ v l. ((λ e. sound v (noted.listed v e)), (λ r. noted.marked v (all_in v r l)));
  }
