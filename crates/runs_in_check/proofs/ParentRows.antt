-- The rows of parents, filled from the last node to the first.
use Rattle.std.proofs.Common.{◌≡◌, ℕ, ◌+◌, ◌<◌, ◌≤◌, zero, suc, List, [], ◌∷◌, ◌++◌, length, drop, set, replicate, refl, sym, ap, ◌∙◌, arith, Option, Some, None, Bool, true, false, ◌||◌, ◌==◌, nat_lt, if◌then◌else◌, slice_get}
use Rattle.std.specs.List.{position_from}
use Rattle.std.proofs.lemmas.Grind.{common_steps}
use Rattle.std.proofs.lemmas.Bool.Decides.{nat_tests}
use Rattle.std.proofs.lemmas.Option.{slice_get_within}
use Rattle.scj_base.specs.declared.positions.Position.{Position}
use Rattle.scj_tree.specs.declared.nodes.Node.TheVariants.{Empty}
use Rattle.std.proofs.lemmas.Iterator.Adapters.{position_from-zero}
use Rattle.scj_tree.specs.declared.nodes.Node.{Node}
use Rattle.scj_tree.specs.Forest.{Forest, IsForest}
use Rattle.scj_tree.specs.Recursion.{lookup}
use Rattle.scj_tree.specs.Shape.{children}
use Rattle.scj_rules.specs.Words.{is_among}
use Rattle.scj_rules.specs.Contexts.{parent_in}
use Rattle.scj_rules.proofs.ParentLemmas.{IsParent, parent-is, child-less}
use Rattle.runs_in_check.specs.Guards.{noted, AreParents}

pub noted_append : (parent : ℕ) (rows : List (Option ℕ)) (xs ys : List ℕ) →
    noted parent rows (xs ++ ys) ≡ noted parent (noted parent rows xs) ys
noted_append parent rows [] ys = refl
noted_append parent rows (x ∷ xs) ys = noted_append parent (set rows x (Some parent)) xs ys

noted_length : (parent : ℕ) (rows : List (Option ℕ)) (xs : List ℕ) → length (noted parent rows xs) ≡ length rows
noted_length parent rows [] = refl
noted_length parent rows (x ∷ xs) = grind (arith, common_steps, noted_length parent (set rows x (Some parent)) xs)

set_lookup : (rows : List (Option ℕ)) (x id : ℕ) (o : Option ℕ) → id < length rows →
    lookup None (set rows x o) id ≡ (if id == x then o else lookup None rows id)
set_lookup rows x id o l = grind (arith, common_steps)

noted_lookup : (parent : ℕ) (rows : List (Option ℕ)) (xs : List ℕ) (id : ℕ) → id < length rows →
    lookup None (noted parent rows xs) id ≡ (if is_among id xs then Some parent else lookup None rows id)
noted_lookup parent rows [] id l = refl
noted_lookup parent rows (x ∷ xs) id l =
    let longer : id < length (set rows x (Some parent)) = grind (arith, common_steps) in
    noted_lookup parent (set rows x (Some parent)) xs id longer
    ∙ ap (λ (o : Option ℕ). if is_among id xs then Some parent else o) (set_lookup rows x id (Some parent) l)
    ∙ either (id == x) (is_among id xs)
  where
    either : (s t : Bool)
        → (if t then Some parent else (if s then Some parent else lookup None rows id))
        ≡ (if s || t then Some parent else lookup None rows id)
    either true true = refl
    either true false = refl
    either false true = refl
    either false false = refl

drop_node : (nodes : List Node) (k : ℕ) (node : Node) → slice_get nodes k ≡ Some node →
    drop k nodes ≡ node ∷ drop (k + 1) nodes
drop_node [] k node e = cc
drop_node (n ∷ nodes) zero node e = cc
drop_node (n ∷ nodes) (suc k) node e = let a : suc k + 1 ≡ suc (k + 1) = omega arith in rw a (drop_node nodes k node e)

pub next_parents : (nodes : List Node) (k : ℕ) (node : Node) (rows : List (Option ℕ)) →
    slice_get nodes k ≡ Some node → AreParents nodes (k + 1) rows →
    AreParents nodes k (noted k rows (children node))
next_parents nodes k node rows there h =
    record {
      whole = noted_length k rows (children node) ∙ h.whole;
      exact = λ id l.
          let within : id < length rows = omega (arith, l, h.whole) in
          noted_lookup k rows (children node) id within
          ∙ ap (λ (o : Option ℕ). if is_among id (children node) then Some k else o) (h.exact id l)
          ∙ ap (λ (xs : List Node). position_from (λ n. is_among id (children n)) k xs) (sym (drop_node nodes k node there));
    }

-- behind the last node there are no children
pub no_parents : (nodes : List Node) (k : ℕ) (rows : List (Option ℕ)) → k ≡ length nodes → length rows ≡ length nodes →
    ((id : ℕ) → lookup None rows id ≡ None) → AreParents nodes k rows
no_parents nodes k rows e whole none =
    record {
      whole = whole;
      exact = λ id l. none id
          ∙ (let d : drop k nodes ≡ [] = grind (arith, common_steps, e) in
          sym (ap (λ (xs : List Node). position_from (λ n. is_among id (children n)) k xs) d));
    }

-- at the start no row has a parent
pub without_parents : (nodes : List Node) (k : ℕ) (rows : List (Option ℕ)) → rows ≡ replicate k None →
    k ≡ length nodes → AreParents nodes k rows
without_parents nodes k rows e l =
    no_parents nodes k rows l (grind (arith, common_steps, e, l)) (λ id. rw e (none_there k id))
  where
    none_there : (k id : ℕ) → lookup {A = Option ℕ} None (replicate k None) id ≡ None
    none_there zero id = refl
    none_there (suc k) zero = refl
    none_there (suc k) (suc id) = none_there k id

-- any node
first_position : Position
first_position = record { file = 0; line = 0; col = 0 }

module _ (forest : Forest) (whole : IsForest forest) (rows : List (Option ℕ)) (h : AreParents forest.nodes 0 rows) where
  inside : (id : ℕ) → id < length forest.nodes → lookup None rows id ≡ parent_in forest.nodes id
  unfolding parent_in
  inside id l = h.exact id l ∙ sym (position_from-zero (λ node. is_among id (children node)) forest.nodes)

  none_outside : (id : ℕ) → length forest.nodes ≤ id → (o : Option ℕ) → parent_in forest.nodes id ≡ o →
      lookup None rows id ≡ o
  none_outside id l None e = grind (arith, common_steps, h.whole)
  none_outside id l (Some q) e =
      let is : IsParent forest whole id q = parent-is forest whole id q e (Empty first_position) in
      absurd (omega (arith, l, child-less forest whole q id is.node is.there is.among, slice_get_within forest.nodes q is.node is.there))

  pub are_parents : (id : ℕ) → lookup None rows id ≡ parent_in forest.nodes id
  are_parents id = by (nat_lt id (length forest.nodes)) refl
    where
      by : (b : Bool) → nat_lt id (length forest.nodes) ≡ b → lookup None rows id ≡ parent_in forest.nodes id
      by true e = inside id (grind (arith, nat_tests, e))
      by false e = none_outside id (grind (arith, nat_tests, e)) (parent_in forest.nodes id) refl
