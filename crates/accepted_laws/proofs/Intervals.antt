-- What stands in the interval of a tree: each node of it has a tree of its own there.
use Rattle.std.proofs.Common.{◌≡◌, ℕ, ◌<◌, ◌≤◌, suc, List, [], ◌∷◌, ◌++◌, refl, sym, ap, ◌∙◌, subst, arith, Some, Bool, true, false, true≢false, inl, inr, slice_get, nat_lt, ◌==◌}
use Rattle.std.proofs.lemmas.Bool.Decides.{nat_tests}
use Rattle.std.proofs.lemmas.Option.{slice_get_within}
use Rattle.scj_tree.specs.declared.nodes.Node.{Node}
use Rattle.scj_tree.specs.Forest.{Forest}
use Rattle.scj_tree.specs.Shape.{children}
use Rattle.scj_rules.specs.Words.{is_among}
use Rattle.scj_rules.proofs.ChainLemmas.{or_cases, same_number}
use Rattle.accepted_laws.specs.Intervals.{Subtree, subtree, Subtrees, no_tree, one_tree_more, AreIntervals}
use Rattle.accepted_laws.specs.Sorts.{is_flags}
use Rattle.accepted_laws.proofs.Tools.{some_inj}

pub by_test : {A : Type 0} (t : Bool) → (t ≡ true → A) → (t ≡ false → A) → A
by_test true f g = f refl
by_test false f g = g refl

module _ (nodes : List Node) where
  mutual
    pub tree_bound : {a x : ℕ} → Subtree nodes a x → a ≤ x
    tree_bound (subtree e o t) = trees_bound t

    pub trees_bound : {a b : ℕ} {ids : List ℕ} → Subtrees nodes a ids b → a ≤ b
    trees_bound no_tree = omega arith
    trees_bound (one_tree_more s t) = (let l = tree_bound s in let m = trees_bound t in omega (arith, l, m))

  -- a tree from some number on
  pub record TreeFrom (a x : ℕ) : Type 0 where
    pub from : ℕ
    pub behind : a ≤ from
    pub tree : Subtree nodes from x

  later_tree : (a b x : ℕ) → a ≤ b → TreeFrom b x → TreeFrom a x
  later_tree a b x l t = record { from = t.from; behind = (let m = t.behind in omega (arith, l, m)); tree = t.tree }

  pub tree_among : {a b : ℕ} {ids : List ℕ} (x : ℕ) → Subtrees nodes a ids b → is_among x ids ≡ true → TreeFrom a x
  tree_among x no_tree h = absurd (true≢false (sym h))
  tree_among {a} x (one_tree_more {x = y} {ids = ids} s t) h =
      elim (or_cases (x == y) (is_among x ids) h) as (λ z. TreeFrom a x) [
        | inl e ↦ record { from = a; behind = omega arith; tree = subst (Subtree nodes a) (sym (same_number x y e)) s }
        | inr k ↦ (let l = tree_bound s in later_tree a (suc y) x (omega (arith, l)) (tree_among x t k))
      ]

  mutual
    pub in_tree : {a y : ℕ} (x : ℕ) → Subtree nodes a y → a ≤ x → x ≤ y → TreeFrom a x
    in_tree {a} {y} x (subtree {node = node} {ids = ids} e o t) l m =
        by_test (nat_lt x y) (λ h. in_trees x t l (let k : x < y = grind (arith, nat_tests) in k))
        (λ h. (let same : y ≡ x = grind (arith, nat_tests) in record { from = a; behind = omega arith; tree = subst (Subtree nodes a) same (subtree e o t) }))

    pub in_trees : {a b : ℕ} {ids : List ℕ} (x : ℕ) → Subtrees nodes a ids b → a ≤ x → x < b → TreeFrom a x
    in_trees x no_tree l m = absurd (omega (arith, l, m))
    in_trees {a} x (one_tree_more {x = y} s t) l m =
        by_test (nat_lt y x)
        (λ h. (let k : suc y ≤ x = grind (arith, nat_tests) in let n = tree_bound s in later_tree a (suc y) x (omega (arith, n)) (in_trees x t k m)))
        (λ h. in_tree x s l (let k : x ≤ y = grind (arith, nat_tests) in k))

  -- the children of the node at the head of a tree
  pub below_head : {a x : ℕ} (node : Node) → Subtree nodes a x → slice_get nodes x ≡ Some node → is_flags node ≡ false → Subtrees nodes a (children node) x
  below_head {a} {x} node (subtree {node = n} e o t) there plain =
      let same : n ≡ node = some_inj n node (sym e ∙ there) in
      subst (λ ids. Subtrees nodes a ids x) (o.as_listed (ap is_flags same ∙ plain) ∙ ap children same) t

  pub child_tree : {a x : ℕ} (node : Node) (child : ℕ) → Subtree nodes a x → slice_get nodes x ≡ Some node → is_among child (children node) ≡ true → TreeFrom a child
  child_tree {a} {x} node child (subtree {node = n} e o t) there h =
      let same : n ≡ node = some_inj n node (sym e ∙ there) in
      tree_among child t (o.same child ∙ ap (λ n. is_among child (children n)) same ∙ h)

  -- trees of one list behind those of another
  pub record BothTrees (a c : ℕ) (xs ys : List ℕ) : Type 0 where
    pub between : ℕ
    pub first : Subtrees nodes a xs between
    pub second : Subtrees nodes between ys c

  pub split_trees : {a c : ℕ} (xs ys : List ℕ) → Subtrees nodes a (xs ++ ys) c → BothTrees a c xs ys
  split_trees {a} [] ys t = record { between = a; first = no_tree; second = t }
  split_trees (x ∷ xs) ys (one_tree_more s t) = (let q = split_trees xs ys t in record { between = q.between; first = one_tree_more s q.first; second = q.second })

  pub first_tree : {a c : ℕ} {x : ℕ} {xs : List ℕ} → Subtrees nodes a (x ∷ xs) c → Subtree nodes a x × Subtrees nodes (suc x) xs c
  first_tree (one_tree_more s t) = (s, t)

-- each node of a program has a tree
pub each_has_tree : (forest : Forest) → AreIntervals forest → (x : ℕ) (node : Node) → slice_get forest.nodes x ≡ Some node → TreeFrom forest.nodes 0 x
each_has_tree forest w x node there = in_trees forest.nodes x w.trees (omega arith) (slice_get_within forest.nodes x node there)
