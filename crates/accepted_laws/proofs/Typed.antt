-- The type of a node of a program that breaks no rule on types is that of its kind, by the types of all nodes.
use Rattle.std.proofs.Common.{◌≡◌, ◌+◌, ℕ, true, List, [], length, Option, Some, None, option_map, option_and_then, if◌then◌else◌, slice_get, refl, ap, ◌∙◌, subst, arith}
use Rattle.std.proofs.lemmas.Option.{slice_get_within}
use Rattle.scj_tree.specs.declared.nodes.Node.{Node}
use Rattle.scj_tree.specs.declared.nodes.Node.TheVariants.{Parenthesized, Binary, Unary, Cast, FieldAccess, Call, Element, New, NewArray}
use Rattle.scj_tree.specs.Forest.{Forest, IsForest, AllBelow}
use Rattle.scj_tree.specs.Shape.{children, optional}
use Rattle.scj_tree.specs.Recursion.{lookup, bottom_up, below}
use Rattle.std.proofs.lemmas.Bool.Decides.{nat_tests}
use Rattle.std.proofs.Common.{nat_lt}
use Rattle.scj_rules.specs.Phases.{type_phase}
use Rattle.scj_rules.specs.Types.{binary_type, element_type, array_of}
use Rattle.scj_rules.specs.TypeRules.{access_type, call_type}
use Rattle.scj_tree.proofs.RecursionLemmas.{bottom_up-is}
use Rattle.scj_rules.specs.declared.typing.Ty.{Ty}
use Rattle.scj_rules.specs.declared.typing.Ty.TheVariants.{Class as ClassTy}
use Rattle.scj_rules.specs.declared.typing.Receiver.{Receiver}
use Rattle.scj_rules.specs.Classes.{class_number, is_empty}
use Rattle.scj_rules.specs.Contexts.{Declarations, declarations_of}
use Rattle.scj_rules.specs.Types.{call_receiver, all_types, binary_type, unary_type, is_form_part}
use Rattle.scj_rules.specs.TypeRules.{Types, type_breaks, type_of, type_of_right, type_of_next, types_in, written_type}
use Rattle.scj_rules.proofs.ParentLemmas.{children_below}
use Rattle.accepted_laws.proofs.TypesBelow.{Same, BehindChildren, breaks-same, receiver-same, call-receiver-same, all-same, below-right}
use Rattle.accepted_laws.proofs.Breaks.{nothing_at}

-- the type of a node of a program without breaks is that of its kind, by the types of all nodes
module _ (p : Declarations) where
  type-same : (id : ℕ) (t u : Types) (node : Node) → Same id t u → AllBelow id (children node) → type_of p t id node ≡ type_of p u id node
  unfolding AllBelow children type_of
  type-same id t u (Parenthesized position inner) same b = same inner b.0
  type-same id t u (Binary position operator left right) same b =
      let f : Option Ty → Option Ty → Option Ty = λ l r. option_and_then (λ a. option_and_then (binary_type p.classes operator a) r) l in
      ap (λ l. f l (t right)) (same left b.0) ∙ ap (λ r. f (u left) r) (same right b.1.0)
  type-same id t u (Unary position operator operand) same b = ap (λ (o : Option Ty). option_and_then (unary_type operator) o) (same operand b.0)
  type-same id t u (Cast position name_position name operand) same b = ap (λ (o : Option Ty). option_and_then (λ t. option_map (λ class. ClassTy class) (class_number p.names name)) o) (same operand b.0)
  type-same id t u (FieldAccess position name object) same b = ap (λ (o : Option Receiver). option_and_then (λ r. access_type p r name) o) (receiver-same p t u object (same object b.0))
  type-same id t u (Call position name object arguments) same b =
      let f : Option Receiver → Option (List Ty) → Option Ty = λ o ts. option_and_then (λ r. option_and_then (λ _. call_type p r name) ts) o in
      ap (λ o. f o (all_types t arguments)) (call-receiver-same p id t u object arguments same b) ∙ ap (λ ts. f (call_receiver p u id object) ts) (all-same id t u arguments same (below-right id (optional object) arguments b))
  type-same id t u (Element position array index) same b =
      let f : Option Ty → Option Ty → Option Ty = λ l r. option_and_then (λ a. option_and_then (λ i. element_type a) r) l in
      ap (λ l. f l (t index)) (same array b.0) ∙ ap (λ r. f (u array) r) (same index b.1.0)
  type-same id t u (New position name_position name arguments) same b =
      ap (λ (ts : Option (List Ty)). if is_form_part p id then None else option_and_then (λ _. option_map (λ class. ClassTy class) (class_number p.names name)) ts) (all-same id t u arguments same b)
  type-same id t u (NewArray position element length_) same b = ap (λ (o : Option Ty). option_and_then (λ n. option_and_then array_of (written_type p element)) o) (same length_ b.1.0)
  type-same id t u _ same b = refl

  below-types : (id : ℕ) (f : Types) → Same id (below None id f) f
  below-types id f c l =
      let t : nat_lt c id ≡ true = grind (arith, nat_tests) in
      rw t refl

  pub types_are : BehindChildren p → type_phase p ≡ [] → (id : ℕ) (node : Node) → slice_get p.nodes id ≡ Some node
      → (type_breaks p (lookup None (types_in p)) id node ≡ []) × (lookup None (types_in p) id ≡ type_of p (lookup None (types_in p)) id node)
  unfolding types_in type_phase type_of_next type_of_right is_empty
  types_are first none id node at =
      let all : Types = lookup None (bottom_up None (type_of_next p) (length p.nodes)) in
      let nothing : type_breaks p all id node ≡ [] = nothing_at p (type_breaks p all) none id node at in
      let same = below-types id all in
      let so_far : type_breaks p (below None id all) id node ≡ [] = breaks-same p first id (below None id all) all node same (first id node at) ∙ nothing in (
        nothing,
        bottom_up-is None (type_of_next p) (length p.nodes) id (slice_get_within p.nodes id node at)
            ∙ ap (λ o. option_and_then (type_of_right p (below None id all) id) o) at
            ∙ ap (λ fs. if is_empty fs then type_of p (below None id all) id node else None) so_far
            ∙ type-same id (below None id all) all node same (first id node at),
      )

pub behind_children : (forest : Forest) → IsForest forest → BehindChildren (declarations_of forest)
unfolding declarations_of
behind_children forest whole k node there =
    let same : 0 + k ≡ k = omega arith in
    let Q : ℕ → Type 0 = λ m. AllBelow m (children node) in
    subst Q same (children_below forest.nodes 0 k node whole.children_first there)
