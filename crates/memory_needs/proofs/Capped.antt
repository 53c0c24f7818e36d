-- Needs by rows that stop at the ceiling are the Needs, as far as they stay below it.
use Rattle.std.specs.Prelude.{Option, Some, None, slice_get, slice_set, min, slice_index_or, nat_lt, drop, replicate}
use Rattle.std.proofs.Common.{◌≡◌, ◌⊎◌, inl, inr, ℕ, zero, suc, ◌+◌, ◌<◌, ◌≤◌, List, [], ◌∷◌, length, Bool, true, false, refl, sym, ◌∙◌, ap, subst, arith}
use Rattle.std.proofs.lemmas.Bool.{cases_eq}
use Rattle.std.proofs.lemmas.Bool.Decides.{nat_tests}
use Rattle.std.proofs.lemmas.List.{drop_all, length-replicate, length-set, get_or-set_same, get_or-set_other}
use Rattle.directed_graphs.specs.Graphs.{at}
use Rattle.scj_tree.specs.declared.nodes.Node.{Node}
use Rattle.scj_tree.specs.declared.nodes.Node.TheVariants.{If}
use Rattle.scj_tree.specs.Recursion.{lookup}
use Rattle.scj_tree.specs.Shape.{optional}
use Rattle.scj_rules.specs.declared.views.Body.{Body}
use Rattle.scj_rules.specs.declared.views.Body.TheVariants.{Written, Empty}
use Rattle.scj_model.specs.Code.{Code}
use Rattle.memory_needs.specs.Targets.{targets_here}
use Rattle.memory_needs.specs.Reach.{run_parts}
use Rattle.memory_needs.specs.Need.{Table, greatest, sum_of, node_need, next_need, too_much}
use Rattle.memory_needs.specs.Solved.{reported_by, need_by, solved_by, solved, zero_rows, AreCapped}

abbrev cap : ℕ → ℕ
cap n = min too_much n

sum_capped : (f g : ℕ → ℕ) (xs : List ℕ) → ((x : ℕ) → cap (f x) ≡ cap (g x)) → cap (sum_of f xs) ≡ cap (sum_of g xs)
unfolding sum_of
sum_capped f g [] h = refl
sum_capped f g (x ∷ xs) h =
    let a = h x in
    let b = sum_capped f g xs h in
    omega (arith, a, b)

greatest_capped : (t u : Table) (bodies : List Body) → ((b : Body) → cap (t b) ≡ cap (u b)) →
    cap (greatest t bodies) ≡ cap (greatest u bodies)
unfolding greatest
greatest_capped t u [] h = refl
greatest_capped t u (b ∷ bs) h =
    let a = h b in
    let c = greatest_capped t u bs h in
    omega (arith, a, c)

module _ (code : Code) (t u : Table) (f g : ℕ → ℕ) (tables : (b : Body) → cap (t b) ≡ cap (u b))
    (subs : (x : ℕ) → cap (f x) ≡ cap (g x)) where
  node_capped : (id : ℕ) (node : Node) → cap (node_need code t f id node) ≡ cap (node_need code u g id node)
  unfolding node_need
  node_capped id (If position condition then_part else_part) =
      let a = subs condition in
      let b = subs then_part in
      let c = sum_capped f g (optional else_part) subs in
      omega (arith, a, b, c)
  node_capped id node =
      let a = sum_capped f g (run_parts node) subs in
      let b = greatest_capped t u (targets_here code id node) tables in
      omega (arith, a, b)

  next_capped : (id : ℕ) → cap (next_need code t id f) ≡ cap (next_need code u id g)
  unfolding next_need
  next_capped id = of (slice_get code.program.nodes id)
    where
      of : (o : Option Node) →
          cap (elim o as (λ z. ℕ) [ None ↦ 0 | Some node ↦ node_need code t f id node ])
          ≡ cap (elim o as (λ z. ℕ) [ None ↦ 0 | Some node ↦ node_need code u g id node ])
      of None = refl
      of (Some node) = node_capped id node

module _ (rows exact : List ℕ) (are : AreCapped rows exact) where
  row_capped : (id : ℕ) → cap (lookup 0 rows id) ≡ cap (lookup 0 exact id)
  row_capped id = let a = are.each id in omega (arith, a)

  reported_capped : (b : Body) → cap (reported_by rows b) ≡ cap (reported_by exact b)
  unfolding reported_by
  reported_capped (Written node) = row_capped node
  reported_capped Empty = refl

  pub need_capped : (code : Code) (id : ℕ) → cap (need_by code rows id) ≡ cap (need_by code exact id)
  need_capped code id =
      next_capped code (reported_by rows) (reported_by exact) (lookup 0 rows) (lookup 0 exact) reported_capped row_capped id

pub set_beyond : (xs : List ℕ) (k v : ℕ) → length xs ≤ k → slice_set xs k v ≡ xs
set_beyond [] k v l = refl
set_beyond (x ∷ xs) zero v l = absurd (omega (arith, l))
set_beyond (x ∷ xs) (suc k) v l = ap (λ ys. x ∷ ys) (set_beyond xs k v (omega (arith, l)))

-- a row is set, where there is one
pub capped_more : (code : Code) (rows exact : List ℕ) (id row : ℕ) → AreCapped rows exact → length rows ≡ length exact →
    row ≡ min too_much (need_by code rows id) →
    AreCapped (slice_set rows id row) (slice_set exact id (need_by code exact id))
capped_more code rows exact id row are same e = record { each = λ k. of k (cases_eq k id) }
  where
    of : (k : ℕ) → (k ≡ id) ⊎ (k ≡ id → ⊥) →
        lookup 0 (slice_set rows id row) k ≡ min too_much (lookup 0 (slice_set exact id (need_by code exact id)) k)
    of k (inl s) = by_size (nat_lt id (length exact)) refl
      where
        by_size : (b : Bool) → nat_lt id (length exact) ≡ b →
            lookup 0 (slice_set rows id row) k ≡ min too_much (lookup 0 (slice_set exact id (need_by code exact id)) k)
        by_size true q =
            let l : id < length exact = grind (arith, nat_tests) in
            let a = get_or-set_same rows id row 0 (omega (arith, l, same)) in
            let b = get_or-set_same exact id (need_by code exact id) 0 l in
            let c = ap (λ j. slice_index_or (slice_set rows id row) j 0) s in
            let d = ap (λ j. slice_index_or (slice_set exact id (need_by code exact id)) j 0) s in
            let n = need_capped rows exact are code id in
            omega (arith, a, b, c, d, e, n)
        by_size false q =
            let l : length exact ≤ id = grind (arith, nat_tests) in
            let a = ap (λ (xs : List ℕ). slice_index_or xs k 0) (set_beyond rows id row (omega (arith, l, same))) in
            let b = ap (λ (xs : List ℕ). slice_index_or xs k 0) (set_beyond exact id (need_by code exact id) l) in
            let n = are.each k in
            omega (arith, a, b, n)
    of k (inr n) =
        let a = get_or-set_other rows id k row 0 n in
        let b = get_or-set_other exact id k (need_by code exact id) 0 n in
        let c = are.each k in
        omega (arith, a, b, c)

-- ---- one after the other

-- the rows after the first ones of an order; `exact` are those without the ceiling
pub record IsSolving (code : Code) (order : List ℕ) (index : ℕ) (rows : List ℕ) : Type 0 where
  pub exact : List ℕ
  pub whole : length rows ≡ length code.program.nodes
  pub same : length exact ≡ length code.program.nodes
  pub capped : AreCapped rows exact
  pub left : solved code (drop index order) exact
      ≡ solved code order (zero_rows code)

pub solving_none : (code : Code) (order rows : List ℕ) → rows ≡ zero_rows code →
    IsSolving code order 0 rows
solving_none code order rows e = record {
  exact = replicate (length code.program.nodes) 0;
  whole = ap (λ (xs : List ℕ). length xs) e ∙ length-replicate (length code.program.nodes) 0;
  same = length-replicate (length code.program.nodes) 0;
  capped = record {
    each = λ id. (let a = ap (λ xs. lookup 0 xs id) e in let b = zeros (length code.program.nodes) id in
        omega (arith, a, b));
  };
  left = refl;
}
  where
    zeros : (n id : ℕ) → at (replicate n 0) id ≡ 0
    zeros zero id = refl
    zeros (suc n) zero = refl
    zeros (suc n) (suc id) = zeros n id

pub dropped : (xs : List ℕ) (k : ℕ) → k < length xs → drop k xs ≡ slice_index_or xs k 0 ∷ drop (k + 1) xs
dropped [] k l = absurd (omega (arith, l))
dropped (x ∷ xs) zero l = refl
dropped (x ∷ xs) (suc k) l =
    let e : suc k + 1 ≡ suc (k + 1) = omega arith in
    dropped xs k (omega (arith, l)) ∙ ap (λ n. slice_index_or xs k 0 ∷ drop n (x ∷ xs)) (sym e)

pub solving_more : (code : Code) (order : List ℕ) (index : ℕ) (rows : List ℕ) (row : ℕ) →
    IsSolving code order index rows → index < length order →
    row ≡ min too_much (need_by code rows (slice_index_or order index 0)) →
    IsSolving code order (index + 1) (slice_set rows (slice_index_or order index 0) row)
unfolding solved_by
solving_more code order index rows row s l e = record {
  exact = slice_set s.exact id (need_by code s.exact id);
  whole = length-set rows id row ∙ s.whole;
  same = length-set s.exact id (need_by code s.exact id) ∙ s.same;
  capped = capped_more code rows s.exact id row s.capped (s.whole ∙ sym s.same) e;
  left = sym (ap (λ xs. solved code xs s.exact) (dropped order index l)) ∙ s.left;
}
  where
    id : ℕ
    id = slice_index_or order index 0

pub solving_all : (code : Code) (order : List ℕ) (index : ℕ) (rows : List ℕ) → IsSolving code order index rows →
    length order ≤ index → AreCapped rows (solved code order (zero_rows code))
unfolding solved_by
solving_all code order index rows s l =
    subst (AreCapped rows) (sym (ap (λ xs. solved code xs s.exact) (drop_all index order l)) ∙ s.left) s.capped
