-- What a `return` of an accepted program has, beside the signature of the body around it.
use Rattle.std.proofs.Common.{◌≡◌, ℕ, refl, sym, ap, ◌∙◌, subst, Option, Some, None, ◌⊎◌, inl, inr, slice_get}
use Rattle.scj_base.specs.declared.positions.Position.{Position}
use Rattle.scj_tree.specs.declared.nodes.Node.TheVariants.{Return}
use Rattle.scj_tree.specs.Forest.{Forest, IsForest}
use Rattle.scj_rules.specs.declared.typing.Scope.{Scope}
use Rattle.scj_rules.specs.declared.typing.Scope.TheVariants.{This, Caller}
use Rattle.scj_rules.specs.declared.typing.Ty.{Ty}
use Rattle.scj_rules.specs.declared.views.WrittenType.{WrittenType}
use Rattle.scj_rules.specs.declared.views.WrittenType.TheVariants.{Void as void_type, Long as long_type}
use Rattle.scj_rules.specs.Views.{DeclaredMethod, method_at}
use Rattle.scj_rules.specs.Contexts.{Declarations, declarations_of}
use Rattle.scj_rules.specs.AnnotationRules.{result_scope}
use Rattle.scj_rules.specs.Types.{type_written}
use Rattle.scj_rules.specs.TypeRules.{declared_type_of}
use Rattle.scj_rules.specs.Phases.{IsAccepted}
use Rattle.accepted_laws.specs.Judgements.{Inside}
use Rattle.accepted_laws.specs.Kinds.{Kind, number, kind_of, Fits, IsRealKind}
use Rattle.accepted_laws.specs.Sorts.{IsWellSorted}
use Rattle.accepted_laws.proofs.RealScopes.{named_is_real, result_named}
use Rattle.accepted_facts.specs.Statements.{FitsAsSeen, ReturnFacts}
use Rattle.accepted_facts.proofs.ReturnFacts.{return_facts, returns_nothing}
use Rattle.accepted_nodes.proofs.ValueFacts.{typed_of}
use Rattle.accepted_facts.proofs.DeclaredKinds.{method_gives}
use Rattle.accepted_facts.proofs.StatementFacts.{void_no_kind}
use Rattle.flow_facts.proofs.RealKinds.{real_value}
use Rattle.scope_flow.specs.Signatures.{Signature, IsBody, kind_of_result, kind_given}
use Rattle.scope_flow.specs.StatementFacts.{ReturnValueFact}
use Rattle.flow_facts.proofs.Locals.{goes_here}
use Rattle.flow_facts.proofs.Bodies.{result_kind}

-- what a result gives, by its type
pub result_void : (p : Declarations) (s : Option Scope) → kind_of_result p void_type s ≡ None
unfolding kind_of_result type_written kind_of
result_void p s = refl

result_long : (p : Declarations) (s : Option Scope) → kind_of_result p long_type s ≡ Some number
unfolding kind_of_result
result_long p s = refl

long_has_none : (p : Declarations) (s : Option Scope) (k : Kind) → kind_of (type_written p.names long_type) s ≡ Some k →
    ⊥
unfolding type_written kind_of
long_has_none p s k e = cc (e)

result_other : (p : Declarations) (t : WrittenType) (s : Option Scope) (k : Kind) →
    kind_of (type_written p.names t) s ≡ Some k → kind_of_result p t s ≡ Some k
result_other p t s k e =
    result_kind p t s (λ l. long_has_none p s k (sym (ap (λ t. kind_of (type_written p.names t) s) l) ∙ e)) ∙ e

module _ (forest : Forest) (accepted : IsAccepted forest) (whole : IsForest forest) (sorted : IsWellSorted forest.nodes)
  where
    abbrev p : Declarations
    p = declarations_of forest

    -- ---- what the body of a method gives

    pub method_given : (b c : ℕ) (m : DeclaredMethod) → method_at p.nodes b ≡ Some m →
        kind_given p c b ≡ kind_of_result p m.declared.declared_type (result_scope p c m)
    unfolding kind_given
    method_given b c m e =
        ap
        (λ (o : Option DeclaredMethod). elim o as (λ _. Option Kind)
        [ None ↦ None | Some m ↦ kind_of_result p m.declared.declared_type (result_scope p c m) ]) e

    pub none_given : (b c : ℕ) → method_at p.nodes b ≡ None → kind_given p c b ≡ None
    unfolding kind_given
    none_given b c e =
        ap
        (λ (o : Option DeclaredMethod). elim o as (λ _. Option Kind)
        [ None ↦ None | Some m ↦ kind_of_result p m.declared.declared_type (result_scope p c m) ]) e

    pub void_given : (b c : ℕ) (m : DeclaredMethod) → method_at p.nodes b ≡ Some m →
        m.declared.declared_type ≡ void_type → kind_given p c b ≡ None
    void_given b c m e v = method_given b c m e ∙ ap (λ t. kind_of_result p t (result_scope p c m)) v
        ∙ result_void p (result_scope p c m)

    -- the kind of a result isn't null's
    pub result_is_real : (b c : ℕ) (m : DeclaredMethod) (k : Kind) → method_at p.nodes b ≡ Some m →
        kind_of (declared_type_of p m.declared) (result_scope p c m) ≡ Some k → IsRealKind k
    result_is_real b c m k at e =
        let t = typed_of (declared_type_of p m.declared) (result_scope p c m) k e in
        let typed : kind_of (Some t.0) (result_scope p c m) ≡ Some k =
        sym (ap (λ (o : Option Ty). kind_of o (result_scope p c m)) t.1) ∙ e in
        elim (method_gives forest sorted b m t.0 at t.1) as (λ z. IsRealKind k) [
          | inl v ↦ absurd
              (void_no_kind (result_scope p c m) k (sym (ap (λ t. kind_of (Some t) (result_scope p c m)) v) ∙ typed))
          | inr h ↦ real_value t.0 (result_scope p c m) k h (λ scope e. named_is_real scope (result_named p scope c m e)) typed
        ]

    -- ---- returns

    pub return_none_fact : (b c id : ℕ) (sig : Signature) (position : Position) → IsBody p b c sig →
        slice_get forest.nodes id ≡ Some (Return position None) → Inside p b c id → sig.gives ≡ None
    return_none_fact b c id sig position body there inside = sym body.gives ∙ go (method_at p.nodes b) refl
      where
        go : (o : Option DeclaredMethod) → method_at p.nodes b ≡ o → kind_given p c b ≡ None
        go None e = none_given b c e
        go (Some m) e = void_given b c m e (returns_nothing forest accepted whole sorted b c id position m there inside e)

    pub return_value_fact : (b c id value : ℕ) (sig : Signature) (position : Position) → IsBody p b c sig →
        slice_get forest.nodes id ≡ Some (Return position (Some value)) → Inside p b c id →
        ReturnValueFact p b c sig id value
    return_value_fact b c id value sig position body there inside = by_fit r.fit
      where
        r : ReturnFacts p b c id value
        r = return_facts forest accepted whole sorted b c id value position there inside

        m : DeclaredMethod
        m = r.method

        given : sig.gives ≡ kind_of_result p m.declared.declared_type (result_scope p c m)
        given = sym body.gives ∙ method_given b c m r.is_method

        by_fit : ((m.declared.declared_type ≡ long_type) × (r.given ≡ number)) ⊎
            ((expected : Kind) × (kind_of (declared_type_of p m.declared) (result_scope p c m) ≡ Some expected) ×
            FitsAsSeen p r.given expected) → ReturnValueFact p b c sig id value
        by_fit (inl q) =
            record {
              wanted = number;
              is = given ∙ ap (λ t. kind_of_result p t (result_scope p c m)) q.0 ∙ result_long p (result_scope p c m);
              fits =
                  record {
                    kind = r.given;
                    value_is = (r.value_is.child, r.value_is.judged);
                    fits = subst
                        (λ k. Fits p This Caller k number) (sym q.1) tt;
                  };
            }
        by_fit (inr q) =
            record {
              wanted = q.0;
              is = given ∙ result_other p m.declared.declared_type (result_scope p c m) q.0 q.1;
              fits =
                  record {
                    kind = r.given;
                    value_is = (r.value_is.child, r.value_is.judged);
                    fits = goes_here p r.given
                        q.0 (result_is_real b c m q.0 r.is_method q.1) q.2;
                  };
            }
