-- What is noted at one node, and with one node more.
use Rattle.std.proofs.Common.{◌≡◌, ℕ, ◌<◌, ◌≤◌, if◌then◌else◌, List, ◌++◌, [], ◌∷◌, Option, Some, None, refl, sym, ap, ◌∙◌, arith, length, length-append, append-nil, slice_get}
use Rattle.std.proofs.lemmas.Option.{slice_get_within}
use Rattle.scj_base.specs.declared.findings.Found.{Found}
use Rattle.scj_tree.specs.declared.nodes.Node.{Node}
use Rattle.scj_tree.specs.Recursion.{lookup, bottom_up}
use Rattle.scj_tree.specs.Forest.{Forest, IsForest}
use Rattle.scj_tree.proofs.RecursionLemmas.{bottom_up-at}
use Rattle.scj_rules.specs.declared.typing.Ty.{Ty}
use Rattle.scj_rules.specs.Words.{found_at}
use Rattle.scj_rules.specs.Classes.{is_empty}
use Rattle.scj_rules.specs.Contexts.{Declarations, declarations_of}
use Rattle.scj_rules.specs.TypeRules.{Types, type_breaks, type_of, type_of_right, type_of_next, types_in}
use Rattle.accepted_laws.proofs.TypesBelow.{Same, breaks-same}
use Rattle.accepted_laws.proofs.Typed.{behind_children}

-- what is broken at the node of a number
abbrev pub breaks_at : Declarations → Types → ℕ → List Found
breaks_at p types id = found_at (slice_get p.nodes id) (type_breaks p types id)

-- with the types of the nodes before a node the same is broken there as with those of all nodes
pub breaks_so_far : (forest : Forest) → IsForest forest → (id : ℕ)
    → breaks_at (declarations_of forest) (lookup None (bottom_up None (type_of_next (declarations_of forest)) id)) id
    ≡ breaks_at (declarations_of forest) (lookup None (types_in (declarations_of forest))) id
unfolding types_in
breaks_so_far forest whole id = go (slice_get p.nodes id) refl
  where
    p : Declarations
    p = declarations_of forest

    to : ℕ → Types
    to n = lookup None (bottom_up None (type_of_next p) n)

    same : id < length p.nodes → Same id (to id) (to (length p.nodes))
    same inside c l = bottom_up-at None (type_of_next p) id c l
        ∙ sym (bottom_up-at None (type_of_next p) (length p.nodes) c (omega (arith, inside, l)))

    go : (o : Option Node) → slice_get p.nodes id ≡ o → found_at o (type_breaks p (to id) id) ≡ found_at o
        (type_breaks p (to (length p.nodes)) id)
    go None there = refl
    go (Some node) there = breaks-same p (behind_children forest whole) id (to id) (to (length p.nodes)) node
        (same (slice_get_within p.nodes id node there)) (behind_children forest whole id node there)

module _ (p : Declarations) (types : Types) (id : ℕ) (node : Node) (before after : List Found) where
  by_findings : (fs : List Found) (t : Option Ty) → after ≡ before ++ fs →
      (length before < length after → None ≡ (if is_empty fs then t else None))
      × (length after ≤ length before → t ≡ (if is_empty fs then t else None))
  unfolding is_empty
  by_findings [] t e = (λ h. absurd (omega (arith, ap length e, ap length (append-nil before), h)), λ h. refl)
  by_findings (f ∷ fs) t e = (λ h. refl, λ h. absurd (omega (arith, ap length e, length-append before (f ∷ fs), h)))

  -- a node at which something is noted has no type, and any other has its own
  pub broken_type : after ≡ before ++ type_breaks p types id node → length before < length after →
      None ≡ type_of_right p types id node
  unfolding type_of_right
  broken_type e = (by_findings (type_breaks p types id node) (type_of p types id node) e).0

  pub right_type : after ≡ before ++ type_breaks p types id node → length after ≤ length before →
      type_of p types id node ≡ type_of_right p types id node
  unfolding type_of_right
  right_type e = (by_findings (type_breaks p types id node) (type_of p types id node) e).1
