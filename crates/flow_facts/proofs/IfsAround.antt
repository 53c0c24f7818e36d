-- The `if`s in whose first parts a node stands: those of its parent, and the parent itself where the node is its first part.
use Rattle.std.specs.List.{cons_option}
use Rattle.std.specs.Prelude.{Option, Some, None, slice_get, filter_map, if◌then◌else◌}
use Rattle.std.proofs.Common.{◌≡◌, ℕ, ◌<◌, List, [], ◌∷◌, length, true, ◌∙◌, ap, arith}
use Rattle.std.proofs.lemmas.Option.{slice_get_within}
use Rattle.scj_tree.specs.declared.nodes.Node.{Node}
use Rattle.scj_tree.specs.Forest.{Forest, IsForest}
use Rattle.scj_tree.specs.Shape.{children}
use Rattle.scj_rules.specs.Chains.{Follows, one, more, ComesBack}
use Rattle.scj_rules.specs.Words.{is_among, chain, holds, StaysBelow, ◌>>=◌}
use Rattle.scj_rules.specs.Contexts.{parent_in}
use Rattle.scj_rules.specs.Guards.{is_first_part, if_of, ifs_around}
use Rattle.scj_rules.proofs.ParentLemmas.{child-less, parent-of, parent-is}
use Rattle.accepted_laws.proofs.ChainSteps.{unroll}

module _ (forest : Forest) (whole : IsForest forest) where
  abbrev nodes : List Node
  nodes = forest.nodes

  abbrev next : ℕ → Option ℕ
  next = parent_in nodes

  -- parents stand behind their children
  pub above : Node → (a b : ℕ) → next a ≡ Some b → a < b
  above d a b e = let q = parent-is forest whole a b e d in child-less forest whole b a q.node q.there q.among

  pub grows : Node → (a b : ℕ) → Follows next a b → a < b
  grows d a b (one e) = above d a b e
  grows d a c (more {b = b} e f) = let l = above d a b e in let m = grows d b c f in omega (arith, l, m)

  acyclic : Node → (a : ℕ) → ComesBack next a → ⊥
  acyclic d a h = let l = grows d a a h in omega (arith, l)

  stays : Node → StaysBelow next (length nodes)
  stays d a b e = let q = parent-is forest whole a b e d in slice_get_within nodes b q.node q.there

  chain_is : Node → (a : ℕ) → a < length nodes → chain next (length nodes) a
      ≡ a ∷ (elim (next a) as (λ _. List ℕ) [ None ↦ [] | Some b ↦ chain next (length nodes) b ])
  chain_is d a l = unroll next (length nodes) (stays d) (acyclic d) a l

  -- those of a child
  pub child_around : (x c : ℕ) (node : Node) → slice_get nodes x ≡ Some node → is_among c (children node) ≡ true →
      ifs_around nodes c ≡ cons_option (if is_first_part c node then Some x else None) (ifs_around nodes x)
  unfolding ifs_around
  child_around x c node there among =
      ap (filter_map (if_of nodes)) (chain_is node c inside
      ∙ ap (λ (o : Option ℕ). c ∷ (elim o as (λ _. List ℕ) [ None ↦ [] | Some b ↦ chain next (length nodes) b ])) parent)
      ∙ ap (λ o. cons_option o (filter_map (if_of nodes) (chain next (length nodes) x))) is_part
    where
      inside : c < length nodes
      inside =
          let l = child-less forest whole x c node there among in
          let m = slice_get_within nodes x node there in omega (arith, l, m)

      parent : next c ≡ Some x
      parent = parent-of forest whole x c node there among

      is_part : if_of nodes c ≡ (if is_first_part c node then Some x else None)
      is_part =
          ap (λ (o : Option ℕ). o
          >>= (λ b. if holds (slice_get nodes b) (is_first_part c) then Some b else None)) parent
          ∙ ap (λ (o : Option Node). if holds o (is_first_part c) then Some x else None) there

  -- what has no parent stands in none
  pub top_around : (x : ℕ) (node : Node) → slice_get nodes x ≡ Some node → next x ≡ None → ifs_around nodes x ≡ []
  unfolding ifs_around
  top_around x node there none =
      ap (filter_map (if_of nodes)) (chain_is node x (slice_get_within nodes x node there)
      ∙ ap (λ (o : Option ℕ). x ∷ (elim o as (λ _. List ℕ) [ None ↦ [] | Some b ↦ chain next (length nodes) b ])) none)
      ∙ ap (λ (o : Option ℕ). cons_option (o
      >>= (λ b. if holds (slice_get nodes b) (is_first_part x) then Some b else None)) []) none
