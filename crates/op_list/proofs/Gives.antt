-- The parts of a node give its operations.
use Rattle.std.proofs.Common.{◌≡◌, ℕ, zero, suc, List, [], ◌∷◌, ◌++◌, drop, flat_map, Option, Some, None, slice_get, refl, sym, ap, ◌∙◌}
use Rattle.scj_tree.specs.declared.nodes.Node.{Node}
use Rattle.scj_tree.specs.Forest.{AllBelow}
use Rattle.scj_tree.specs.Recursion.{below}
use Rattle.scj_tree.proofs.RecursionLemmas.{by_smaller-is}
use Rattle.accepted_laws.proofs.TypesBelow.{BehindChildren}
use Rattle.scj_model.specs.declared.operations.Op.{Op}
use Rattle.scj_model.specs.Code.{Code}
use Rattle.scj_model.specs.Ops.{node_ops, next_ops, ops_of}
use Rattle.op_list.specs.declared.parts.Part.{Part}
use Rattle.op_list.specs.declared.parts.Part.TheVariants.{Visit, Emit, Items, Literals}
use Rattle.op_list.specs.Parts.{items_at, part_ops, node_parts, parts_at}
use Rattle.op_list.proofs.Rests.{below_it}
use Rattle.op_list.proofs.StandFor.{part_ids, ids_of, below_split}
use Rattle.op_list.proofs.AllNodes.{node_stands}

below_drop : (n k : ℕ) (xs : List ℕ) → AllBelow n xs → AllBelow n (drop k xs)
unfolding AllBelow
below_drop n zero xs h = h
below_drop n (suc k) [] h = tt
below_drop n (suc k) (x ∷ xs) h = below_drop n k xs h.1

module _ (code : Code) (id : ℕ) where
  abbrev nodes : List Node
  nodes = code.program.nodes

  -- what is said of the nodes below a number is enough
  abbrev ops_below : ℕ → List Op
  ops_below = below [] id (ops_of code)

  items_same : (xs : List ℕ) → AllBelow id xs → flat_map ops_below xs ≡ flat_map (ops_of code) xs
  unfolding AllBelow
  items_same [] h = refl
  items_same (x ∷ xs) h =
      ap (λ (os : List Op). os ++ flat_map ops_below xs) (below_it (ops_of code) id x h.0)
      ∙ ap (λ (os : List Op). ops_of code x ++ os) (items_same xs h.1)

  part_same : (part : Part) → AllBelow id (part_ids nodes part) →
      part_ops code ops_below part ≡ part_ops code (ops_of code) part
  unfolding part_ids part_ops AllBelow
  part_same (Visit x) h = below_it (ops_of code) id x h.0
  part_same (Emit op) h = refl
  part_same (Items index list) h =
      items_same (drop index (items_at nodes list)) (below_drop id index (items_at nodes list) h)
  part_same (Literals index class) h = refl

  parts_same : (parts : List Part) → AllBelow id (ids_of nodes parts) →
      flat_map (part_ops code ops_below) parts ≡ flat_map (part_ops code (ops_of code)) parts
  unfolding ids_of
  parts_same [] h = refl
  parts_same (p ∷ ps) h =
      let k = below_split id (part_ids nodes p) (ids_of nodes ps) h in
      ap (λ (os : List Op). os ++ flat_map (part_ops code ops_below) ps) (part_same p k.0)
      ∙ ap (λ (os : List Op). part_ops code (ops_of code) p ++ os) (parts_same ps k.1)

  module _ (behind : BehindChildren code.program) where
    node_gives : (o : Option Node) → slice_get nodes id ≡ o →
        flat_map (part_ops code (ops_of code)) (elim o [ None ↦ [] | Some node ↦ node_parts code id node ])
        ≡ elim o [ None ↦ [] | Some node ↦ node_ops code ops_below id node ]
    node_gives None there = refl
    node_gives (Some node) there =
        let t = node_stands code behind id ops_below node there in
        sym (parts_same (node_parts code id node) t.below) ∙ t.gives

    pub gives : flat_map (part_ops code (ops_of code)) (parts_at code id) ≡ ops_of code id
    unfolding parts_at ops_of next_ops
    gives = node_gives (slice_get nodes id) refl ∙ sym (by_smaller-is [] (next_ops code) id)
