-- What is broken at a node follows from the scopes of the nodes before it alone.
use Rattle.std.proofs.Common.{◌≡◌, ◌<◌, ℕ, List, [], ◌∷◌, ◌++◌, length, Option, Some, None, slice_get, refl, sym, ap, ◌∙◌, arith}
use Rattle.std.proofs.lemmas.Option.{slice_get_within}
use Rattle.scj_base.specs.declared.findings.Found.{Found}
use Rattle.scj_base.specs.declared.findings.Rule.TheVariants.{E1}
use Rattle.scj_base.specs.declared.positions.Position.{Position}
use Rattle.scj_tree.specs.declared.nodes.Node.{Node}
use Rattle.scj_tree.specs.declared.nodes.Node.TheVariants.{SuperCall, LocalWithValue, Assign, Return, Cast, Call, New}
use Rattle.scj_tree.specs.Forest.{Forest, IsForest, AllBelow}
use Rattle.scj_tree.specs.Recursion.{lookup, bottom_up}
use Rattle.scj_tree.specs.Shape.{children, optional}
use Rattle.scj_tree.proofs.RecursionLemmas.{bottom_up-at}
use Rattle.scj_rules.specs.declared.typing.Scope.{Scope}
use Rattle.scj_rules.specs.declared.views.Declared.{Declared}
use Rattle.scj_rules.specs.Words.{broken, found_at, holds, ◌>>=◌}
use Rattle.scj_rules.specs.Classes.{class_number}
use Rattle.scj_rules.specs.Contexts.{Declarations, declarations_of}
use Rattle.scj_rules.specs.StaticScopes.{runs_in, parameter_scope, constructor_parameter_scope, substitute}
use Rattle.scj_rules.specs.Types.{constructor_parameters}
use Rattle.scj_rules.specs.TypeRules.{Types, superclass_at}
use Rattle.scj_rules.specs.AnnotationRules.{annotation_breaks}
use Rattle.scj_rules.specs.UseRules.{Scopes, this_at, current_at, receiver_scope, scope_of_new, scope_of_next, scopes_in, misfits_new, misfits_call, misfits_runs_in, misfit_arguments, e3_of_call, e3_of_constructor, e1, e2, e3, e4_and_e5, e6, e7, e8, e9, e10, use_breaks}
use Rattle.accepted_laws.proofs.TypesBelow.{below-right}
use Rattle.accepted_laws.proofs.Typed.{behind_children}
use Rattle.runs_in_check.specs.Phase.{breaks_at}

module _ (p : Declarations) (types : Types) (id : ℕ) (s u : Scopes) (same : (c : ℕ) → c < id → s c ≡ u c) where
  arguments : (parameter : Declared → Option Scope) (ds : List Declared) (ids : List ℕ) → AllBelow id ids →
      misfit_arguments p s parameter ds ids ≡ misfit_arguments p u parameter ds ids
  unfolding AllBelow misfit_arguments
  arguments parameter [] ids b = refl
  arguments parameter (d ∷ ds) [] b = refl
  arguments parameter (d ∷ ds) (a ∷ rest) b = rw (same a b.0, arguments parameter ds rest b.1) refl

  constructed : (object : Option Scope) (ids : List ℕ) → AllBelow id ids → (class : ℕ) →
      e3_of_constructor p s object ids class ≡ e3_of_constructor p u object ids class
  unfolding e3_of_constructor
  constructed object ids b class =
      arguments (λ (d : Declared). constructor_parameter_scope p class d >>= substitute object object)
      (constructor_parameters p.classes class) ids b

  receiver : (object : Option ℕ) (ids : List ℕ) → AllBelow id (optional object ++ ids) →
      receiver_scope p s id object ≡ receiver_scope p u id object
  unfolding AllBelow receiver_scope
  receiver None ids b = refl
  receiver (Some object) ids b = same object b.0

  called : (to : Option Scope) (ids : List ℕ) → AllBelow id ids →
      e3_of_call p s to (current_at p id) ids ≡ e3_of_call p u to (current_at p id) ids
  unfolding e3_of_call
  called to ids b = λ i f. arguments
      (λ (d : Declared). parameter_scope p f.on f.method d >>= substitute to (current_at p id)) f.method.parameters ids
      b i

  refused : (object : Option ℕ) (ids : List ℕ) → AllBelow id (optional object ++ ids) →
      misfits_call p s id object ≡ misfits_call p u id object
  refused object ids b = λ i f. holds (runs_in p f.on f.method) (misfits_runs_in p id (receiver object ids b i))

  call : (position : Position) (name : List ℕ) (object : Option ℕ) (ids : List ℕ) → AllBelow id (optional object ++ ids)
      → use_breaks p types s id (Call position name object ids) ≡ use_breaks p types u id (Call position name object ids)
  unfolding AllBelow use_breaks e1 e2 e3 e4_and_e5 e6 e7 e8 e9 e10
  call position name object (o ∷ r ∷ []) b =
      let below : AllBelow id (o ∷ r ∷ []) = below-right id (optional object) (o ∷ r ∷ []) b in
      rw (
        refused object (o ∷ r ∷ []) b,
        receiver object (o ∷ r ∷ []) b,
        called (receiver_scope p u id object) (o ∷ r ∷ []) below,
        same o below.0,
      ) refl
  call position name object ids b =
      rw (
        refused object ids b,
        receiver object ids b,
        called (receiver_scope p u id object) ids (below-right id (optional object) ids b),
      ) refl

  breaks-same : (node : Node) → AllBelow id (children node) →
      use_breaks p types s id node ≡ use_breaks p types u id node
  unfolding AllBelow children use_breaks e1 e2 e3 e4_and_e5 e6 e7 e8 e9 e10
  breaks-same (SuperCall position ids) b = ap (λ (three : ℕ → List Found). found_at (superclass_at p id) three ++ [])
      (λ i class. constructed (this_at p id) ids b class i)
  breaks-same (New position name_position name ids) b =
      ap (λ (three : ℕ → List Found). broken (misfits_new p id name) E1 position
      ++ (found_at (class_number p.names name) three ++ []))
      (λ i class. constructed (scope_of_new p id class) ids b class i)
  breaks-same (Call position name object ids) b = call position name object ids b
  breaks-same (Assign position target value) b = rw (same value b.1.0, same target b.0) refl
  breaks-same (LocalWithValue position name_position name flags declared_type value) b =
      rw (same value (below-right id (optional flags) (declared_type ∷ value ∷ []) b).1.0) refl
  breaks-same (Return position None) b = refl
  breaks-same (Return position (Some value)) b = rw (same value b.0) refl
  breaks-same (Cast position name_position name operand) b = rw (same operand b.0) refl
  breaks-same _ b = refl

-- with the scopes of the nodes before a node the same is broken there as with those of all nodes
pub breaks_so_far : (forest : Forest) → IsForest forest → (types : Types) (id : ℕ)
    → breaks_at (declarations_of forest) types
    (lookup None (bottom_up None (scope_of_next (declarations_of forest) types) id)) id
    ≡ breaks_at (declarations_of forest) types (lookup None (scopes_in (declarations_of forest) types)) id
unfolding breaks_at scopes_in
breaks_so_far forest whole types id = go (slice_get p.nodes id) refl
  where
    p : Declarations
    p = declarations_of forest

    to : ℕ → Scopes
    to n = lookup None (bottom_up None (scope_of_next p types) n)

    same : id < length p.nodes → (c : ℕ) → c < id → to id c ≡ to (length p.nodes) c
    same inside c l = bottom_up-at None (scope_of_next p types) id c l
        ∙ sym (bottom_up-at None (scope_of_next p types) (length p.nodes) c (omega (arith, inside, l)))

    at : Scopes → Node → List Found
    at scopes node = annotation_breaks p id node ++ use_breaks p types scopes id node

    go : (o : Option Node) → slice_get p.nodes id ≡ o → found_at o (at (to id)) ≡ found_at o (at (to (length p.nodes)))
    go None there = refl
    go (Some node) there =
        ap (λ (fs : List Found). annotation_breaks p id node ++ fs) (breaks-same p types id (to id)
        (to (length p.nodes)) (same (slice_get_within p.nodes id node there)) node
        (behind_children forest whole id node there))
