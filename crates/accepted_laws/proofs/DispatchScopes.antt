-- Scopes through overriding: what overrides a method in right steps runs where that runs, and gives what that gives, as its
-- own class sees it.
use Rattle.std.proofs.Common.{◌≡◌, ℕ, ◌<◌, List, length, refl, sym, ap, ◌∙◌, Option, Some, None, Bool, true, false, not, true≢false, ◌⊎◌, inl, inr, option_and_then, option_map, slice_get, if◌then◌else◌}
use Rattle.scj_base.specs.Bytes.{is_same}
use Rattle.scj_builtins.specs.declared.kinds.RunsInKind.{RunsInKind}
use Rattle.scj_builtins.specs.declared.kinds.RunsInKind.TheVariants.{Immortal as in_immortal, DefinedOrCaller as in_defined_or_caller, DefinedOrDeclared as in_defined_or_declared, Caller as in_caller}
use Rattle.scj_builtins.specs.declared.methods.FrameworkMethod.{FrameworkMethod}
use Rattle.scj_builtins.specs.Framework.{framework_methods}
use Rattle.scj_tree.specs.Forest.{Forest, IsForest}
use Rattle.scj_rules.specs.declared.scopes.ClassScope.{ClassScope}
use Rattle.scj_rules.specs.declared.scopes.ClassScope.TheVariants.{Unannotated as unannotated, Annotated as annotated, Missing as scopeless}
use Rattle.scj_rules.specs.declared.scopes.Resolution.{Resolution}
use Rattle.scj_rules.specs.declared.scopes.Resolution.TheVariants.{Resolved as resolved, Unresolved as unresolved}
use Rattle.scj_rules.specs.declared.scopes.Written.{Written}
use Rattle.scj_rules.specs.declared.typing.Scope.{Scope}
use Rattle.scj_rules.specs.declared.typing.Scope.TheVariants.{Any, This, Caller, In, Unknown, Lost}
use Rattle.scj_rules.specs.Words.{is_among}
use Rattle.scj_rules.specs.Views.{DeclaredMethod}
use Rattle.scj_rules.specs.Classes.{FoundMethod, framework_row_named, superclasses}
use Rattle.scj_rules.specs.ClassRules.{both_static}
use Rattle.scj_rules.specs.Contexts.{Declarations, declarations_of}
use Rattle.scj_rules.specs.ScopeRules.{immortal_scope, scope_number, defined_by_chain}
use Rattle.scj_rules.specs.StaticScopes.{class_scope, scope_or, this_in, this_name, caller_name, resolved_or_missing, resolved_scope, resolve_name, written_scope, fixed_scope, fixed_runs_in, fixed_for, default_runs_in, free_runs_in, has_wrong_runs_in, runs_in}
use Rattle.scj_rules.specs.Phases.{IsAccepted}
use Rattle.scj_rules.proofs.WithinLemmas.{counted-stays}
use Rattle.accepted_laws.specs.Kinds.{seen_as}
use Rattle.accepted_laws.specs.Overriding.{IsUserMethod, OverridesInSteps, itself, by_step, RunsAs}
use Rattle.accepted_laws.specs.Sorts.{IsWellSorted}
use Rattle.accepted_laws.proofs.DeclarationScopes.{this_has_scope, runs_in_has_scope}
use Rattle.accepted_laws.proofs.Interfaces.{interfaces_give_framework_methods}
use Rattle.accepted_laws.proofs.Overrides.{Runs, runs_next}
use Rattle.accepted_laws.proofs.ClassChains.{acyclic}
use Rattle.accepted_laws.proofs.RealScopes.{this_beside}
use Rattle.accepted_laws.proofs.ScopesOfClasses.{scope_of_above}
use Rattle.accepted_laws.proofs.Tools.{some_inj}

caller_not_this : Some Caller ≡ Some This → ⊥
caller_not_this e = (let f : Caller ≡ This = some_inj Caller This e in cc (f))

in_not_this : (n : ℕ) → Some (In n) ≡ Some This → ⊥
in_not_this n e = (let f : In n ≡ This = some_inj (In n) This e in cc (f))

none_not_this : None ≡ Some This → ⊥
none_not_this e = cc (e)

-- ---- a scope in which a method runs is THIS only where THIS has no other name

module _ (p : Declarations) where
  fixed_not_this : (class : ℕ) (k : RunsInKind) → fixed_scope p class k ≡ Some This → ⊥
  unfolding fixed_scope
  fixed_not_this class in_immortal e = in_not_this immortal_scope e
  fixed_not_this class in_defined_or_caller e = go (defined_by_chain p class) e
    where
      go : (o : Option ℕ) → (elim o as (λ _. Option Scope) [ None ↦ Some Caller | Some s ↦ Some (In s) ]) ≡ Some This → ⊥
      go None e = caller_not_this e
      go (Some n) e = in_not_this n e
  fixed_not_this class in_defined_or_declared e = go (defined_by_chain p class) e
    where
      go : (o : Option ℕ) → option_map (λ s. In s) o ≡ Some This → ⊥
      go None e = none_not_this e
      go (Some n) e = in_not_this n e
  fixed_not_this class in_caller e = caller_not_this e

  fixed_for_not_this : (class : ℕ) (name : List ℕ) → fixed_for p class name ≡ Some This → ⊥
  unfolding fixed_for fixed_runs_in
  fixed_for_not_this class name e = by_number (option_and_then (λ (f : FoundMethod). f.method.builtin) (framework_row_named p.classes class name)) e
    where
      by_method : (o : Option FrameworkMethod) → option_and_then (λ (m : FrameworkMethod). fixed_scope p class m.runs_in) o ≡ Some This → ⊥
      by_method None e = none_not_this e
      by_method (Some m) e = fixed_not_this class m.runs_in e

      by_number : (o : Option ℕ) → option_and_then (fixed_runs_in p class) o ≡ Some This → ⊥
      by_number None e = none_not_this e
      by_number (Some n) e = by_method (slice_get framework_methods n) e

  resolved_is : (o : Option Scope) → resolved_scope (resolved_or_missing o) ≡ o
  resolved_is None = refl
  resolved_is (Some s) = refl

  written_this : (class : ℕ) (name : List ℕ) → written_scope p class (Some Caller) name ≡ Some This → this_in p class ≡ Some This
  unfolding written_scope resolve_name
  written_this class name e = go (is_same name this_name) (is_same name caller_name) e
    where
      number : (o : Option ℕ) → resolved_scope (elim o as (λ _. Resolution) [ None ↦ unresolved | Some s ↦ resolved (In s) ]) ≡ Some This → this_in p class ≡ Some This
      number None e = absurd (none_not_this e)
      number (Some n) e = absurd (in_not_this n e)

      go : (a b : Bool) → resolved_scope (if a then resolved_or_missing (this_in p class) else (if b then resolved_or_missing (Some Caller) else (elim (scope_number p name) as (λ _. Resolution) [ None ↦ unresolved | Some s ↦ resolved (In s) ]))) ≡ Some This → this_in p class ≡ Some This
      go true b e = sym (resolved_is (this_in p class)) ∙ e
      go false true e = absurd (caller_not_this e)
      go false false e = number (scope_number p name) e

  free_this : (class : ℕ) (o : Option Written) → free_runs_in p class o ≡ Some This → this_in p class ≡ Some This
  unfolding free_runs_in default_runs_in
  free_this class None e = absurd (go (class_scope p class) e)
    where
      go : (s : ClassScope) → scope_or s (Some Caller) ≡ Some This → ⊥
      go unannotated e = caller_not_this e
      go (annotated n) e = in_not_this n e
      go scopeless e = none_not_this e
  free_this class (Some w) e = written_this class w.name e

  runs_in_this : (class : ℕ) (m : DeclaredMethod) → runs_in p class m ≡ Some This → this_in p class ≡ Some This
  unfolding runs_in
  runs_in_this class m e = by_wrong (has_wrong_runs_in p class m) e
    where
      by_fixed : (o : Option Scope) → fixed_for p class m.declared.name ≡ o → (elim o as (λ _. Option Scope) [ Some s ↦ Some s | None ↦ free_runs_in p class m.declared.modifiers.runs_in ]) ≡ Some This → this_in p class ≡ Some This
      by_fixed (Some s) f e = absurd (fixed_for_not_this class m.declared.name (f ∙ e))
      by_fixed None f e = free_this class m.declared.modifiers.runs_in e

      by_static : (t : Bool) → (if t then Some Caller else (elim (fixed_for p class m.declared.name) as (λ _. Option Scope) [ Some s ↦ Some s | None ↦ free_runs_in p class m.declared.modifiers.runs_in ])) ≡ Some This → this_in p class ≡ Some This
      by_static true e = absurd (caller_not_this e)
      by_static false e = by_fixed (fixed_for p class m.declared.name) refl e

      by_wrong : (t : Bool) → (if t then None else (if m.declared.modifiers.is_static then Some Caller else (elim (fixed_for p class m.declared.name) as (λ _. Option Scope) [ Some s ↦ Some s | None ↦ free_runs_in p class m.declared.modifiers.runs_in ]))) ≡ Some This → this_in p class ≡ Some This
      by_wrong true e = absurd (none_not_this e)
      by_wrong false e = by_static m.declared.modifiers.is_static e

  -- a method's own class sees its scope as it is
  pub runs_in_normal : (class : ℕ) (m : DeclaredMethod) (home r : Scope) → this_in p class ≡ Some home → runs_in p class m ≡ Some r → seen_as home Caller r ≡ r
  unfolding seen_as
  runs_in_normal class m home This h e =
      this_beside p class home h ∙ some_inj home This (sym h ∙ runs_in_this class m e)
  runs_in_normal class m home Any h e = refl
  runs_in_normal class m home Caller h e = refl
  runs_in_normal class m home (In n) h e = refl
  runs_in_normal class m home Unknown h e = refl
  runs_in_normal class m home Lost h e = refl

module _ (forest : Forest) (accepted : IsAccepted forest) (whole : IsForest forest) (sorted : IsWellSorted forest.nodes) where
  abbrev q : Declarations
  q = declarations_of forest

  -- THIS of a class above is THIS, or that of the class
  this_above : (class above : ℕ) (home : Scope) → class < length q.classes → is_among above (superclasses q.classes class) ≡ true → this_in q class ≡ Some home → (g : Scope) → this_in q above ≡ Some g → (g ≡ This) ⊎ (g ≡ home)
  unfolding this_in
  this_above class above home l h e g f = go (class_scope q above) refl f
    where
      go : (s : ClassScope) → class_scope q above ≡ s → scope_or s (Some This) ≡ Some g → (g ≡ This) ⊎ (g ≡ home)
      go unannotated k f = inl (sym (some_inj This g f))
      go (annotated n) k f = inr (
          let a : class_scope q class ≡ annotated n = scope_of_above forest accepted whole sorted class above n l h k in
          some_inj g home (sym f ∙ sym (ap (λ s. scope_or s (Some This)) a) ∙ e))
      go scopeless k f = absurd (let z : None ≡ Some g = f in cc (z))

  plain_too : (g h : FoundMethod) → both_static g.method h.method ≡ true → h.method.declared.modifiers.is_static ≡ false → g.method.declared.modifiers.is_static ≡ false
  plain_too g h b e = go g.method.declared.modifiers.is_static refl b
    where
      go : (t : Bool) → g.method.declared.modifiers.is_static ≡ t → (if t then h.method.declared.modifiers.is_static else not h.method.declared.modifiers.is_static) ≡ true → g.method.declared.modifiers.is_static ≡ false
      go true s b = absurd (true≢false (sym b ∙ e))
      go false s b = s

  -- what a chain of overriding says of its lower end
  record RunsPlain (r : Scope) (g : FoundMethod) : Type 0 where
    plain : g.method.declared.modifiers.is_static ≡ false
    user : IsUserMethod q g
    runs : Runs q (counted-stays forest) (acyclic forest accepted) (interfaces_give_framework_methods forest accepted) r g

  runs_down : (f g : FoundMethod) (r : Scope) → IsUserMethod q f → f.method.declared.modifiers.is_static ≡ false → runs_in q f.on f.method ≡ Some r → OverridesInSteps q f g → RunsPlain r g
  runs_down f g r u plain e itself =
      let h = this_has_scope forest accepted whole sorted f.on in
      record { plain = plain; user = u; runs = record { home = h.0; is_home = h.1; is = e ∙ ap (λ s. Some s) (sym (runs_in_normal q f.on f.method h.0 r h.1 e)) } }
  runs_down f g r u plain e (by_step {h = h} o own above steps) =
      let w = runs_down f h r u plain e steps in
      let home = this_has_scope forest accepted whole sorted g.on in
      let now = runs_in_has_scope forest accepted whole sorted g.on g.method.declared.node g.method own.is_there own.stands_in_class in
      let plain_here = plain_too g h o.both_are_static w.plain in
      record {
        plain = plain_here;
        user = own;
        runs = runs_next q (counted-stays forest) (acyclic forest accepted) (interfaces_give_framework_methods forest accepted) g.on g.method h r (o.same_scopes plain_here w.user.on_user_class) w.runs home.0 now.0 home.1 now.1
            (this_above g.on h.on home.0 own.is_class above home.1);
      }

  -- a method that overrides another one runs where that runs, as its class sees it
  pub runs_as : (f g : FoundMethod) (r : Scope) → IsUserMethod q f → f.method.declared.modifiers.is_static ≡ false → runs_in q f.on f.method ≡ Some r → OverridesInSteps q f g → RunsAs q r g
  runs_as f g r u plain e steps = (let w = runs_down f g r u plain e steps in let x = w.runs in record { home = x.home; is_home = x.is_home; is = x.is })
