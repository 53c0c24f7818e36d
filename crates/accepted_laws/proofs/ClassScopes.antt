-- The scope of a class is that of the classes above it, where these have one; and overrides keep scopes.
use Rattle.std.proofs.Common.{◌≡◌, ℕ, ◌<◌, [], length, refl, sym, ap, ◌∙◌, subst, arith, Option, Some, None, Bool, true, false, not, ◌||◌, true≢false, ◌⊎◌, inl, inr, ◌==◌, if◌then◌else◌}
use Rattle.std.proofs.lemmas.Bool.Decides.{nat_tests}
use Rattle.scj_rules.specs.declared.typing.Scope.{Scope}
use Rattle.scj_rules.specs.declared.typing.Scope.TheVariants.{Any, This, Caller, In, Unknown, Lost}
use Rattle.scj_rules.specs.declared.scopes.ClassScope.TheVariants.{Unannotated as unannotated, Annotated as annotated, Missing as scopeless}
use Rattle.scj_rules.specs.declared.scopes.Written.{Written}
use Rattle.scj_rules.specs.Chains.{ComesBack}
use Rattle.scj_rules.specs.Words.{chain, holds, StaysBelow}
use Rattle.scj_rules.specs.Classes.{superclass_in, superclasses}
use Rattle.scj_rules.specs.Contexts.{Declarations}
use Rattle.scj_rules.specs.ScopeRules.{scope_number, scope_written_in}
use Rattle.scj_rules.specs.StaticScopes.{are_same_scope, beside, has_unknown_scope, differs_from_above, is_not_scope, is_implied_immortal, scope_of_right_class, class_scope_under, class_scope_on, class_scope, this_in}
use Rattle.scj_rules.specs.AnnotationRules.{scope_above, seen_in, differ}
use Rattle.accepted_laws.specs.Kinds.{seen_as}
use Rattle.accepted_laws.proofs.ChainSteps.{unroll}
use Rattle.accepted_laws.proofs.RealScopes.{this_beside}

module _ (p : Declarations) (stays : StaysBelow (superclass_in p.classes) (length p.classes)) (acyclic : (a : ℕ) → ComesBack (superclass_in p.classes) a → ⊥) where
  above_is : (class : ℕ) → class < length p.classes → class_scope p class ≡ class_scope_under p (scope_above p class) class
  unfolding class_scope superclasses class_scope_on
  above_is class l =
      ap (class_scope_on p) (unroll (superclass_in p.classes) (length p.classes) stays acyclic class l)
      ∙ ap (λ s. class_scope_under p s class) (go (superclass_in p.classes class))
    where
      go : (o : Option ℕ) → class_scope_on p (elim o [ None ↦ [] | Some b ↦ chain (superclass_in p.classes) (length p.classes) b ]) ≡ (elim o [ None ↦ unannotated | Some above ↦ class_scope p above ])
      go None = refl
      go (Some b) = refl

  -- where A1 and A2 aren't broken at the class, it has the scope of an annotated class above it
  pub keeps_scope : (class above n : ℕ) → class < length p.classes → superclass_in p.classes class ≡ Some above → class_scope p above ≡ annotated n
      → has_unknown_scope p (scope_written_in p class) ≡ false → differs_from_above p (scope_written_in p class) (scope_above p class) (is_implied_immortal p class) ≡ false → class_scope p class ≡ annotated n
  unfolding class_scope_under scope_of_right_class differs_from_above
  keeps_scope class above n l up has known same =
      above_is class l ∙ ap (λ s. class_scope_under p s class) up_is ∙ under (is_implied_immortal p class) (scope_written_in p class) known (subst (λ s. differs_from_above p (scope_written_in p class) s (is_implied_immortal p class) ≡ false) up_is same)
    where
      up_is : scope_above p class ≡ annotated n
      up_is = ap (λ o. elim o [ None ↦ unannotated | Some a ↦ class_scope p a ]) up ∙ has

      named : (o : Option ℕ) → not (holds o (λ s. s == n)) ≡ false → (elim o [ None ↦ scopeless | Some s ↦ annotated s ]) ≡ annotated n
      named None e = absurd (true≢false e)
      named (Some s) e = ap (λ x. annotated x) (number s (s == n) refl e)
        where
          number : (s : ℕ) (t : Bool) → (s == n) ≡ t → not t ≡ false → s ≡ n
          number s true t e = grind (arith, nat_tests)
          number s false t e = absurd (true≢false e)

      or_first : (a b : Bool) → (a || b) ≡ false → a ≡ false
      or_first true b e = e
      or_first false b e = refl

      under : (implied : Bool) (w : Option Written) → has_unknown_scope p w ≡ false → differs_from_above p w (annotated n) implied ≡ false
          → (if has_unknown_scope p w || differs_from_above p w (annotated n) implied then scopeless else scope_of_right_class p w (annotated n) implied) ≡ annotated n
      under implied None k d = ap (λ t. if t then scopeless else annotated n) d
      under implied (Some w) k d =
          ap (λ t. if t then scopeless else scope_of_right_class p (Some w) (annotated n) implied) (ap (λ t. t || differs_from_above p (Some w) (annotated n) implied) k ∙ d)
          ∙ named (scope_number p w.name) (or_first (is_not_scope p w n) _ d)

-- ---- overrides

same_scope : (a b : Scope) → are_same_scope a b ≡ true → a ≡ b
unfolding are_same_scope
same_scope Any Any e = refl
same_scope This This e = refl
same_scope Caller Caller e = refl
same_scope (In a) (In b) e = let x : a ≡ b = grind (arith, nat_tests) in ap (λ n. In n) x
same_scope Unknown Unknown e = refl
same_scope Lost Lost e = refl
same_scope _ _ e = absurd (cc (e))

-- A6 isn't broken: what the override has is what the method above has, as the class sees it
pub override_same : (a b : Scope) (s t : Option Scope) → s ≡ Some a → t ≡ Some b → differ s t ≡ false → a ≡ b
override_same a b s t es et e = go (are_same_scope a b) refl (sym (ap (λ x. holds x (λ a. holds t (λ b. not (are_same_scope a b)))) es ∙ ap (λ x. holds x (λ b. not (are_same_scope a b))) et) ∙ e)
  where
    go : (u : Bool) → are_same_scope a b ≡ u → not (are_same_scope a b) ≡ false → a ≡ b
    go true h e = same_scope a b h
    go false h e = absurd (true≢false (sym (ap not h) ∙ e))

-- as the class sees it, in the words of the machine's proofs
pub seen_in_as : (p : Declarations) (class : ℕ) (home : Scope) → this_in p class ≡ Some home → (s : Scope) → seen_in p class (Some s) ≡ Some (seen_as home Caller s)
unfolding seen_in are_same_scope seen_as
seen_in_as p class home e This = e ∙ ap (λ s. Some s) (sym (this_beside p class home e))
seen_in_as p class home e Any = refl
seen_in_as p class home e Caller = refl
seen_in_as p class home e (In n) = refl
seen_in_as p class home e Unknown = refl
seen_in_as p class home e Lost = refl

-- two overrides one above the other: what the lower class sees of what the upper one sees is what it sees itself
pub seen_twice : (home above : Scope) → (above ≡ This) ⊎ (above ≡ home) → (s : Scope) → seen_as home Caller (seen_as above Caller s) ≡ seen_as home Caller s
unfolding seen_as beside
seen_twice home above (inl e) This = ap (λ a. seen_as home Caller (beside a)) e
seen_twice home above (inr e) This = go above e
  where
    go : (h : Scope) → h ≡ home → seen_as home Caller (beside h) ≡ beside home
    go This e = refl
    go Any e = ap beside e
    go Caller e = ap beside e
    go (In n) e = ap beside e
    go Unknown e = ap beside e
    go Lost e = ap beside e
seen_twice home above e Any = refl
seen_twice home above e Caller = refl
seen_twice home above e (In n) = refl
seen_twice home above e Unknown = refl
seen_twice home above e Lost = refl
