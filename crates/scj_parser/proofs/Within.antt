-- The children of a file's nodes are nodes of the file.
use Rattle.std.proofs.Common.{◌≡◌, ℕ, ◌+◌, ◌<◌, ◌≤◌, suc, List, [], ◌∷◌, ◌++◌, length, drop, refl, ap, ◌∙◌, arith, length-append, zero-add, add-zero, ⊎_elim}
use Rattle.std.proofs.lemmas.Bool.{cases_lt}
use Rattle.std.proofs.lemmas.Bool.Decides.{nat_tests}
use Rattle.machine_laws.proofs.Growth.{below, below-grows, below-low, below-one}
use Rattle.machine_laws.proofs.GrowthOfFiles.{tree_grown}
use Rattle.scj_tree.proofs.ForestLemmas.{all_children-append, times-append}
use Rattle.scj_tree.specs.Counts.{times}
use Rattle.scj_tree.specs.Forest.{AllBelow, ChildrenFirst, all_children}
use Rattle.scj_tree.specs.Grammar.{Tree}
use Rattle.scj_tree.specs.Lexemes.{Lexeme}
use Rattle.scj_tree.specs.Shape.{children}
use Rattle.scj_tree.specs.declared.nodes.Node.{Node}
use Rattle.scj_parser.specs.HeightRowsSupport.{AllWithin, ChildrenWithin}

times-first : (x : ℕ) (xs : List ℕ) → 1 ≤ times x (x ∷ xs)
unfolding times
times-first x xs = grind (arith, nat_tests)

times-rest : (y x : ℕ) (xs : List ℕ) → times y xs ≤ times y (x ∷ xs)
unfolding times
times-rest y x xs = omega arith

ids_within : (low high : ℕ) (ids : List ℕ) → AllBelow high ids → ((x : ℕ) → x < low → times x ids ≡ 0) →
    AllWithin low high ids
unfolding AllBelow AllWithin
ids_within low high [] b f = tt
ids_within low high (x ∷ ids) b f = (
  (
    ⊎_elim (λ (l : x < low). absurd (omega (arith, f x l, times-first x ids))) (λ (m : low ≤ x). m) (cases_lt x low),
    b.0,
  ),
  ids_within low high ids b.1 (λ y l. omega (arith, f y l, times-rest y x ids)),
)

nodes_within : (low at : ℕ) (more : List Node) → ChildrenFirst at more →
    ((x : ℕ) → x < low → times x (all_children more) ≡ 0) → ChildrenWithin low at more
unfolding ChildrenFirst ChildrenWithin all_children
nodes_within low at [] h f = tt
nodes_within low at (node ∷ more) h f = (
  ids_within low at (children node) h.0
      (λ x l. omega (arith, f x l, times-append x (children node) (all_children more))),
  nodes_within low (at + 1) more h.1 (λ x l. omega (arith, f x l, times-append x (children node) (all_children more))),
)

first_behind : (from : ℕ) (N more : List Node) → ChildrenFirst from (N ++ more) → ChildrenFirst (from + length N) more
unfolding ChildrenFirst
first_behind from [] more h = rw add-zero h
first_behind from (m ∷ N) more h =
    let e : from + suc (length N) ≡ (from + 1) + length N = omega arith in rw e (first_behind (from + 1) N more h.1)

drop_front : (N more : List Node) → drop (length N) (N ++ more) ≡ more
drop_front [] more = refl
drop_front (m ∷ N) more = drop_front N more

pub tree_within : {N N1 : List Node} {i : List Lexeme} {ids : List ℕ} → Tree N i N1 ids → ChildrenFirst 0 N →
    ChildrenWithin (length N) (length N) (drop (length N) N1)
tree_within {N} {N1} d h =
    let g = tree_grown d in
    let all : ChildrenFirst 0 (N ++ g.more) = rw (← g.whole) (g.first h) in
    let behind : ChildrenFirst (length N) g.more = rw zero-add at (first_behind 0 N g.more all) in
    let fresh : (x : ℕ) → x < length N → times x (all_children g.more) ≡ 0 = λ x l.
    let e : times x (all_children N1) ≡ times x (all_children N) + times x (all_children g.more) =
    ap (λ M. times x (all_children M)) g.whole
    ∙ (ap (times x) (all_children-append N g.more) ∙ times-append x (all_children N) (all_children g.more)) in
    let f : below x (length N1) ≡ below x (length N + length g.more) = ap (λ M. below x (length M)) g.whole
    ∙ ap (below x) (length-append N g.more) in
    omega (
      arith,
      g.once x,
      e,
      f,
      below-one x (length N + length g.more),
      below-grows x (length N) (length g.more),
      below-low x (length N) l,
    ) in
    let same : drop (length N) N1 ≡ g.more = ap (drop (length N)) g.whole ∙ drop_front N g.more in
    rw same (nodes_within (length N) (length N) g.more behind fresh)

pub tree_longer : {N N1 : List Node} {i : List Lexeme} {ids : List ℕ} → Tree N i N1 ids → length N ≤ length N1
tree_longer {N} {N1} d = let g = tree_grown d in omega (arith, ap length g.whole, length-append N g.more)
