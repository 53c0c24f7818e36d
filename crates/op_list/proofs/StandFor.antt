-- Parts that stand for operations, and which nodes they name.
use Rattle.std.proofs.Common.{◌≡◌, ℕ, ◌<◌, Bool, true, false, List, [], ◌∷◌, ◌++◌, flat_map, if◌then◌else◌, refl, ap, ◌∙◌, append-nil}
use Rattle.scj_tree.specs.declared.nodes.Node.{Node}
use Rattle.scj_tree.specs.Forest.{AllBelow}
use Rattle.scj_model.specs.declared.operations.Op.{Op}
use Rattle.scj_model.specs.Code.{Code}
use Rattle.op_list.specs.declared.parts.Part.{Part}
use Rattle.op_list.specs.declared.parts.Part.TheVariants.{Visit, Emit, Items, Literals}
use Rattle.op_list.specs.Parts.{items_at, part_ops, all_items}

-- the nodes that a part names
unfoldable pub part_ids : List Node → Part → List ℕ
part_ids nodes (Visit id) = id ∷ []
part_ids nodes (Emit op) = []
part_ids nodes (Items index list) = items_at nodes list
part_ids nodes (Literals index class) = []

unfoldable pub ids_of : List Node → List Part → List ℕ
ids_of nodes [] = []
ids_of nodes (part ∷ parts) = part_ids nodes part ++ ids_of nodes parts

-- the parts stand for these operations, from those of nodes, and name nodes below the number alone
pub record StandFor (code : Code) (id : ℕ) (sub : ℕ → List Op) (parts : List Part) (ops : List Op) : Type 0 where
  pub gives : flat_map (part_ops code sub) parts ≡ ops
  pub below : AllBelow id (ids_of code.program.nodes parts)

below_both : (n : ℕ) (xs ys : List ℕ) → AllBelow n xs → AllBelow n ys → AllBelow n (xs ++ ys)
unfolding AllBelow
below_both n [] ys h k = k
below_both n (x ∷ xs) ys h k = (h.0, below_both n xs ys h.1 k)

pub below_split : (n : ℕ) (xs ys : List ℕ) → AllBelow n (xs ++ ys) → AllBelow n xs × AllBelow n ys
unfolding AllBelow
below_split n [] ys h = (tt, h)
below_split n (x ∷ xs) ys h = let r = below_split n xs ys h.1 in ((h.0, r.0), r.1)

module _ (code : Code) (id : ℕ) (sub : ℕ → List Op) where
  pub nothing : StandFor code id sub [] []
  unfolding ids_of AllBelow
  nothing = record { gives = refl; below = tt }

  pub pick : (b : Bool) (ps qs : List Part) (os us : List Op) → StandFor code id sub ps os →
      StandFor code id sub qs us → StandFor code id sub (if b then ps else qs) (if b then os else us)
  pick true ps qs os us t u = t
  pick false ps qs os us t u = u

  pub visit : (x : ℕ) (ps : List Part) (os : List Op) → x < id → StandFor code id sub ps os →
      StandFor code id sub (Visit x ∷ ps) (sub x ++ os)
  unfolding ids_of part_ids AllBelow part_ops
  visit x ps os l t = record { gives = ap (λ (us : List Op). sub x ++ us) t.gives; below = (l, t.below) }

  pub emit : (op : Op) (ps : List Part) (os : List Op) → StandFor code id sub ps os →
      StandFor code id sub (Emit op ∷ ps) (op ∷ os)
  unfolding ids_of part_ids part_ops
  emit op ps os t = record { gives = ap (λ (us : List Op). op ∷ us) t.gives; below = t.below }

  -- the last operation
  pub last : (op : Op) → StandFor code id sub (Emit op ∷ []) (op ∷ [])
  last op = emit op [] [] nothing

  pub items : (xs : List ℕ) (ps : List Part) (os : List Op) → items_at code.program.nodes id ≡ xs → AllBelow id xs →
      StandFor code id sub ps os → StandFor code id sub (all_items id ∷ ps) (flat_map sub xs ++ os)
  unfolding ids_of part_ids part_ops
  items xs ps os e h t =
      record {
        gives = ap (λ (ys : List ℕ). flat_map sub ys ++ flat_map (part_ops code sub) ps) e
            ∙ ap (λ (us : List Op). flat_map sub xs ++ us) t.gives;
        below = below_both id (items_at code.program.nodes id) (ids_of code.program.nodes ps) (rw e h) t.below;
      }

  pub visit_alone : (x : ℕ) → x < id → StandFor code id sub (Visit x ∷ []) (sub x)
  visit_alone x l =
      let t = visit x [] [] l nothing in record { gives = t.gives ∙ append-nil (sub x); below = t.below }

  pub items_alone : (xs : List ℕ) → items_at code.program.nodes id ≡ xs → AllBelow id xs →
      StandFor code id sub (all_items id ∷ []) (flat_map sub xs)
  items_alone xs e h =
      let t = items xs [] [] e h nothing in record { gives = t.gives ∙ append-nil (flat_map sub xs); below = t.below }
