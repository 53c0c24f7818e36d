-- The scopes of classes in an accepted program: a class lies where it says, and safelets, sequencers and missions lie
-- in immortal memory (A2).
use Rattle.std.proofs.Common.{◌≡◌, ℕ, ◌<◌, List, [], length, sym, ap, ◌∙◌, refl, Option, Some, None, Bool, true, false, not, ◌||◌, ◌==◌, true≢false, if◌then◌else◌}
use Rattle.scj_tree.specs.Forest.{Forest, IsForest}
use Rattle.scj_rules.specs.declared.scopes.ClassScope.{ClassScope}
use Rattle.scj_rules.specs.declared.scopes.ClassScope.TheVariants.{Unannotated as unannotated, Annotated as annotated, Missing as scopeless}
use Rattle.scj_rules.specs.declared.scopes.Written.{Written}
use Rattle.scj_rules.specs.declared.typing.Scope.TheVariants.{This, In}
use Rattle.scj_rules.specs.Words.{holds}
use Rattle.scj_rules.specs.Classes.{superclass_in, superclasses}
use Rattle.scj_rules.specs.Contexts.{Declarations, declarations_of}
use Rattle.scj_rules.specs.ScopeRules.{immortal_scope, scope_number, scope_written_in}
use Rattle.scj_rules.specs.StaticScopes.{is_implied_immortal, is_not_scope, differs_from_above, scope_of_right_class, class_scope_under, class_scope_on, class_scope, scope_or, this_in}
use Rattle.scj_rules.specs.AnnotationRules.{scope_above}
use Rattle.scj_rules.specs.Phases.{IsAccepted}
use Rattle.accepted_laws.specs.Sorts.{IsWellSorted}
use Rattle.accepted_laws.proofs.ScopesOfClasses.{chain_is, right_class, class_scope_known}
use Rattle.accepted_facts.proofs.OverridingKinds.{or_false}
use Rattle.mission_facts.proofs.Tests.{not_other}

scope_is : (p : Declarations) (w : Written) (n : ℕ) → is_not_scope p w n ≡ false → scope_number p w.name ≡ Some n
scope_is p w n e = go (scope_number p w.name) refl e
  where
    go : (o : Option ℕ) → scope_number p w.name ≡ o → not (holds o (λ s. s == n)) ≡ false → o ≡ Some n
    go None h e = absurd (true≢false e)
    go (Some s) h e = ap (λ s. Some s) (not_other s n e)

-- of a class on which A2 isn't broken, where IMMORTAL is demanded of it
demanded : (p : Declarations) (w : Option Written) (above : ClassScope) →
    differs_from_above p w above true ≡ false → (scope_of_right_class p w above true ≡ scopeless → ⊥) →
    scope_of_right_class p w above true ≡ annotated immortal_scope
unfolding differs_from_above scope_of_right_class
demanded p (Some w) (annotated n) e k =
    ap (λ (o : Option ℕ). elim o as (λ _. ClassScope) [ None ↦ scopeless | Some s ↦ annotated s ])
    (scope_is p w immortal_scope (or_false (is_not_scope p w immortal_scope) false
    (or_false (is_not_scope p w n) _ e).1).0)
demanded p (Some w) unannotated e k =
    ap (λ (o : Option ℕ). elim o as (λ _. ClassScope) [ None ↦ scopeless | Some s ↦ annotated s ])
    (scope_is p w immortal_scope (or_false (is_not_scope p w immortal_scope) false e).0)
demanded p (Some w) scopeless e k =
    ap (λ (o : Option ℕ). elim o as (λ _. ClassScope) [ None ↦ scopeless | Some s ↦ annotated s ])
    (scope_is p w immortal_scope (or_false (is_not_scope p w immortal_scope) false e).0)
demanded p None (annotated n) e k =
    ap (λ n. annotated n) (not_other n immortal_scope (or_false (not (n == immortal_scope)) false e).0)
demanded p None unannotated e k = refl
demanded p None scopeless e k = absurd (k refl)

module _ (forest : Forest) (accepted : IsAccepted forest) (whole : IsForest forest) (sorted : IsWellSorted forest.nodes)
  where
    abbrev p : Declarations
    p = declarations_of forest

    abbrev next : ℕ → Option ℕ
    next = superclass_in p.classes

    from_above : (class : ℕ) → class < length p.classes →
        class_scope p class ≡ class_scope_under p (scope_above p class) class
    unfolding class_scope class_scope_on
    from_above class l =
        ap (class_scope_on p) (chain_is forest accepted class l)
        ∙ ap (λ s. class_scope_under p s class) (go (next class))
      where
        go : (o : Option ℕ) →
            class_scope_on p (elim o as (λ _. List ℕ) [ None ↦ [] | Some b ↦ superclasses p.classes b ])
            ≡ (elim o as (λ _. ClassScope) [ None ↦ unannotated | Some above ↦ class_scope p above ])
        go None = refl
        go (Some b) = refl

    -- A1 and A2 aren't broken
    from_right : (class : ℕ) → class < length p.classes →
        class_scope p class
        ≡ scope_of_right_class p (scope_written_in p class) (scope_above p class) (is_implied_immortal p class)
    unfolding class_scope_under
    from_right class l =
        let r = right_class forest accepted whole sorted class l in
        let w : Option Written = scope_written_in p class in
        let s : ClassScope = scope_above p class in
        let i : Bool = is_implied_immortal p class in
        from_above class l
        ∙ ap (λ t. if t || differs_from_above p w s i then scopeless else scope_of_right_class p w s i) r.known
        ∙ ap (λ t. if t then scopeless else scope_of_right_class p w s i) r.same

    -- a class that names a scope lies in it
    pub named_class_scope : (class : ℕ) (w : Written) (n : ℕ) → class < length p.classes →
        scope_written_in p class ≡ Some w → scope_number p w.name ≡ Some n → class_scope p class ≡ annotated n
    unfolding scope_of_right_class
    named_class_scope class w n l written number =
        from_right class l
        ∙ ap (λ w. scope_of_right_class p w (scope_above p class) (is_implied_immortal p class)) written
        ∙ ap (λ (o : Option ℕ). elim o as (λ _. ClassScope) [ None ↦ scopeless | Some s ↦ annotated s ]) number

    -- what is implied to lie in immortal memory does
    pub implied_class_scope : (class : ℕ) → class < length p.classes → is_implied_immortal p class ≡ true →
        class_scope p class ≡ annotated immortal_scope
    implied_class_scope class l implied =
        let r = right_class forest accepted whole sorted class l in
        let w : Option Written = scope_written_in p class in
        let s : ClassScope = scope_above p class in
        let e : class_scope p class ≡ scope_of_right_class p w s true =
        from_right class l ∙ ap (scope_of_right_class p w s) implied in
        e ∙ demanded p w s (ap (differs_from_above p w s) (sym implied) ∙ r.same)
        (λ k. class_scope_known forest accepted whole sorted class l (e ∙ k))

    pub lies_in : (class n : ℕ) → class_scope p class ≡ annotated n → this_in p class ≡ Some (In n)
    unfolding this_in
    lies_in class n e = ap (λ s. scope_or s (Some This)) e
