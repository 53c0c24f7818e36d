-- What the kind or the type of a node tells: that it has no scope and breaks nothing.
use Rattle.std.proofs.Common.{◌≡◌, ℕ, arith, not, Bool, true, false, List, [], ◌++◌, length, Option, Some, None, option_and_then, option_map, if◌then◌else◌, slice_get, append-nil, refl, ap, ◌∙◌}
use Rattle.std.proofs.lemmas.Option.{slice_get_within}
use Rattle.scj_base.specs.declared.findings.Found.{Found}
use Rattle.scj_base.specs.declared.positions.Position.{Position}
use Rattle.scj_tree.specs.declared.nodes.Node.{Node}
use Rattle.scj_tree.specs.declared.nodes.Node.TheVariants.{SuperCall, SimpleName, This}
use Rattle.scj_tree.specs.Forest.{Forest}
use Rattle.scj_tree.specs.Kinds.{kind_of}
use Rattle.scj_tree.specs.Recursion.{lookup, below}
use Rattle.scj_tree.proofs.RecursionLemmas.{bottom_up-is}
use Rattle.scj_rules.specs.declared.typing.Ty.{Ty}
use Rattle.scj_rules.specs.declared.typing.Ty.TheVariants.{Class as ClassTy, ClassArray}
use Rattle.scj_rules.specs.declared.typing.Meaning.{Meaning}
use Rattle.scj_rules.specs.declared.typing.Meaning.TheVariants.{Field as a_field, Variable as a_variable}
use Rattle.scj_rules.specs.declared.scopes.ScopedDeclaration.{ScopedDeclaration}
use Rattle.scj_rules.specs.declared.views.Declared.{Declared}
use Rattle.scj_rules.specs.declared.views.WrittenType.{WrittenType}
use Rattle.scj_rules.specs.declared.views.WrittenType.TheVariants.{Class as class_type, ClassArray as class_array}
use Rattle.scj_rules.specs.Words.{holds, found_at}
use Rattle.scj_rules.specs.Views.{variable_at}
use Rattle.scj_rules.specs.Contexts.{Declarations, declarations_of}
use Rattle.scj_rules.specs.StaticScopes.{has_no_scope, declaration_scope, scoped_field, field_scope, misfits_field}
use Rattle.scj_rules.specs.Types.{type_written, is_reference, meaning}
use Rattle.scj_rules.specs.TypeRules.{Types, declared_type_of, type_of, type_of_meaning, type_of_right, type_of_next, types_in}
use Rattle.scj_rules.specs.AnnotationRules.{a1, a2, a3_to_a5, a6_to_a8, a9, annotation_breaks, scoped_declaration_at}
use Rattle.scj_rules.specs.UseRules.{Scopes, scope_of, scope_of_next, scope_of_field, scope_of_meaning, variable_scope_at, e1, e2, e3, e4_and_e5, e6, e7, e8, e9, e10, use_breaks}
use Rattle.static_scopes.proofs.VariableLemmas.{plain_type}
use Rattle.runs_in_check.specs.Phase.{is_plain, is_asked, breaks_at}

-- ---- what the type tells of a name

never_plain : (f : ℕ → Ty) → ((class : ℕ) → is_reference (f class) ≡ true) → (o : Option ℕ) →
    true ≡ is_plain (option_map f o) → true ≡ false
never_plain f e None h = h
never_plain f e (Some class) h = h ∙ ap not (e class)

plain_written : (names : List (List ℕ)) (w : WrittenType) → true ≡ is_plain (type_written names w) →
    true ≡ has_no_scope w
unfolding type_written is_reference has_no_scope
plain_written names (class_type name) h = never_plain (λ class. ClassTy class) (λ class. refl) _ h
plain_written names (class_array name) h = never_plain (λ class. ClassArray class) (λ class. refl) _ h
plain_written names _ h = cc

no_scope : (p : Declarations) (t : ScopedDeclaration) → true ≡ has_no_scope t.declared_type →
    declaration_scope p t ≡ None
unfolding declaration_scope
no_scope p t h = rw (← h) refl

plain_meaning : (forest : Forest) (id : ℕ) (m : Meaning) →
    true ≡ is_plain (type_of_meaning (declarations_of forest) m) → scope_of_meaning (declarations_of forest) id m ≡ None
unfolding type_of_meaning scope_of_meaning scope_of_field field_scope misfits_field declarations_of
plain_meaning forest id (a_variable v) h = go (variable_at forest.nodes v) refl h
  where
    go : (o : Option Declared) → o ≡ variable_at forest.nodes v →
        true ≡ is_plain (option_and_then (declared_type_of (declarations_of forest)) o) →
        variable_scope_at (declarations_of forest) v ≡ None
    go None e h = cc
    go (Some d) e h = plain_type forest v d.declared_type
        (ap (λ (o : Option Declared). option_map (λ (d : Declared). d.declared_type) o) e)
        (plain_written _ d.declared_type h)
plain_meaning forest id (a_field f) h =
    let p : Declarations = declarations_of forest in
    let none = no_scope p (scoped_field p f.on f.field) (plain_written p.names f.field.declared_type h) in rw none refl
plain_meaning forest id _ h = refl

-- a name whose type is told to be none of references has no scope; it breaks no rule, since its type is told
plain_name : (forest : Forest) (types : List (Option Ty)) (id : ℕ) (position : Position) (name : List ℕ) →
    slice_get forest.nodes id ≡ Some (SimpleName position name) → types ≡ types_in (declarations_of forest)
    → true ≡ is_plain (lookup None types id)
    → scope_of_meaning (declarations_of forest) id (meaning (declarations_of forest) id name) ≡ None
unfolding declarations_of type_of_next type_of_right types_in type_of
plain_name forest types id position name there right h =
    let p : Declarations = declarations_of forest in
    let smaller : Types = below None id (lookup None (types_in p)) in
    let reported : lookup None types id ≡ type_of_right p smaller id (SimpleName position name) =
    ap (λ (ts : List (Option Ty)). lookup None ts id) right
    ∙ bottom_up-is None (type_of_next p) (length p.nodes) id (slice_get_within forest.nodes id _ there)
    ∙ ap (λ (o : Option Node). option_and_then (type_of_right p smaller id) o) there in
    plain_meaning forest id (meaning p id name) (rightly _ _ (h ∙ ap (λ (o : Option Ty). is_plain o) reported))
  where
    rightly : (b : Bool) (o : Option Ty) → true ≡ is_plain (if b then o else None) → true ≡ is_plain o
    rightly true o h = h
    rightly false o h = cc

-- ---- what the kind tells

nothing : (p : Declarations) (types : Types) (scopes : Scopes) (id : ℕ) (t : Option Ty) (node : Node) →
    false ≡ is_asked t (kind_of node) → annotation_breaks p id node ++ use_breaks p types scopes id node ≡ []
unfolding is_asked kind_of annotation_breaks a1 a2 a3_to_a5 a6_to_a8 a9 scoped_declaration_at use_breaks e1 e2 e3
    e4_and_e5 e6 e7 e8 e9 e10
nothing p types scopes id t (SuperCall a b) h = cc
nothing p types scopes id t _ h = cc

-- at a node that isn't asked nothing is broken
pub no_break : (forest : Forest) (types : Types) (scopes : Scopes) (id : ℕ) (t : Option Ty) (found : List Found) →
    false ≡ holds (option_map kind_of (slice_get forest.nodes id)) (is_asked t) →
    found ++ breaks_at (declarations_of forest) types scopes id ≡ found
unfolding breaks_at declarations_of
no_break forest types scopes id t found h = ap (λ (fs : List Found). found ++ fs) (go (slice_get forest.nodes id) h)
    ∙ append-nil found
  where
    p : Declarations
    p = declarations_of forest

    go : (o : Option Node) → false ≡ holds (option_map kind_of o) (is_asked t) →
        found_at o (λ node. annotation_breaks p id node ++ use_breaks p types scopes id node) ≡ []
    go None h = refl
    go (Some node) h = nothing p types scopes id t node h

-- and it has no scope
module _ (forest : Forest) (types : List (Option Ty)) (right : types ≡ types_in (declarations_of forest))
    (scopes : Scopes) (id : ℕ) where
  scopeless : (node : Node) → slice_get forest.nodes id ≡ Some node →
      false ≡ is_asked (lookup None types id) (kind_of node) →
      scope_of (declarations_of forest) (lookup None types) scopes id node ≡ None
  unfolding is_asked kind_of scope_of
  scopeless (SimpleName position name) there h = plain_name forest types id position name there right (grind (arith, h))
  scopeless (This a) there h = cc
  scopeless _ there h = cc

  pub no_scope_there : false ≡ holds (option_map kind_of (slice_get forest.nodes id))
      (is_asked (lookup None types id)) → scope_of_next (declarations_of forest) (lookup None types) id scopes ≡ None
  unfolding scope_of_next declarations_of
  no_scope_there h = go (slice_get forest.nodes id) refl h
    where
      go : (o : Option Node) → slice_get forest.nodes id ≡ o →
          false ≡ holds (option_map kind_of o) (is_asked (lookup None types id)) →
          option_and_then (scope_of (declarations_of forest) (lookup None types) scopes id) o ≡ None
      go None there h = refl
      go (Some node) there h = scopeless node there h
