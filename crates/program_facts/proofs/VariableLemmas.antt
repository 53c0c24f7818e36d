-- The variables that are known at a node, from the last one on.
use Rattle.std.proofs.Common.{◌≡◌, ℕ, ◌-◌, ◌<◌, ◌≤◌, true, false, List, length, find, refl, sym, ap, ◌∙◌, arith, Option, Some, None, cond}
use Rattle.scj_tree.specs.Forest.{Forest}
use Rattle.scj_rules.specs.Contexts.{declarations_of, variable_named, known_variables, variable_before, context}
use Rattle.class_rows.proofs.WalkLemmas.{chain_here, chain_ended}
use Rattle.program_facts.specs.Reported.{declares, seek}

module _ (forest : Forest) (name : List ℕ) where
  pub first : (id : ℕ) → variable_named (declarations_of forest) id name ≡ seek forest name (length forest.nodes)
      (context (declarations_of forest) id).last
  unfolding seek variable_named known_variables declarations_of
  first id = grind (arith)

  sought : (left v : ℕ) → 0 < left → seek forest name left (Some v) ≡ cond (declares forest.nodes name v) (Some v)
      (seek forest name (left - 1) (context (declarations_of forest) v).last)
  unfolding seek
  sought left v l =
      ap (find (declares forest.nodes name)) (chain_here (variable_before (declarations_of forest)) left v l)

  pub found_here : (left v : ℕ) → 0 < left → true ≡ declares forest.nodes name v → Some v ≡ seek forest name left
      (Some v)
  found_here left v l h = sym (sought left v l ∙ rw (sym h) refl)

  pub passed_here : (left v : ℕ) → 0 < left → false ≡ declares forest.nodes name v →
      seek forest name left (Some v) ≡ seek forest name (left - 1) (context (declarations_of forest) v).last
  passed_here left v l h = sought left v l ∙ rw (sym h) refl

  pub none_before : (left : ℕ) → seek forest name left None ≡ None
  unfolding seek
  none_before left = refl

  pub none_left : (left : ℕ) (o : Option ℕ) → left ≤ 0 → seek forest name left o ≡ None
  unfolding seek
  none_left left o l =
      ap (find (declares forest.nodes name)) (chain_ended (variable_before (declarations_of forest)) left o l)
