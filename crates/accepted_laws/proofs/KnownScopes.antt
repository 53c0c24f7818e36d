-- Where no rule on annotations is broken, no scope is missing.
use Rattle.std.proofs.Common.{◌≡◌, ℕ, List, refl, sym, ap, ◌∙◌, subst, Option, Some, None, Bool, true, false, not, ◌||◌, ◌&&◌, true≢false, ◌⊎◌, inl, inr, is_some, if◌then◌else◌}
use Rattle.scj_rules.specs.declared.typing.Scope.{Scope}
use Rattle.scj_rules.specs.declared.typing.Scope.TheVariants.{This, Caller, In, Unknown}
use Rattle.scj_rules.specs.declared.scopes.ClassScope.{ClassScope}
use Rattle.scj_rules.specs.declared.scopes.ClassScope.TheVariants.{Unannotated as unannotated, Annotated as annotated, Missing as scopeless}
use Rattle.scj_rules.specs.declared.scopes.Resolution.{Resolution}
use Rattle.scj_rules.specs.declared.scopes.Resolution.TheVariants.{Resolved as resolved, Unresolved as unresolved}
use Rattle.scj_rules.specs.declared.scopes.ScopedDeclaration.{ScopedDeclaration}
use Rattle.scj_rules.specs.declared.scopes.Written.{Written}
use Rattle.scj_rules.specs.declared.views.WrittenType.{WrittenType}
use Rattle.scj_base.specs.Bytes.{is_same}
use Rattle.scj_rules.specs.Words.{holds}
use Rattle.scj_rules.specs.Contexts.{Declarations}
use Rattle.scj_rules.specs.ScopeRules.{scope_number}
use Rattle.scj_rules.specs.ClassRules.{class_written}
use Rattle.scj_rules.specs.Views.{DeclaredMethod}
use Rattle.scj_rules.specs.StaticScopes.{class_scope, this_in, this_name, caller_name, unknown_name, resolved_or_missing, resolved_scope, resolve_name, is_unresolved, denotes_nothing, resolve_at, written_scope, is_known_name, type_scope, has_no_scope, is_unknown_scope, contradicts, is_rightly_scoped, scope_as_written, declaration_scope, is_unannotated, runs_in, has_unknown_runs_in, has_other_runs_in, default_runs_in, free_runs_in, fixed_for}
use Rattle.accepted_laws.specs.Judgements.{HasScope}

or_false : (a b : Bool) → (a || b) ≡ false → (a ≡ false) × (b ≡ false)
or_false true b e = absurd (true≢false e)
or_false false b e = (refl, e)

-- no class's scope is missing
abbrev pub Known : Declarations → Type 0
Known p = (class : ℕ) → class_scope p class ≡ scopeless → ⊥

module _ (p : Declarations) (known : Known p) where
  pub this_known : (class : ℕ) → HasScope (this_in p class)
  unfolding this_in
  this_known class = go (class_scope p class) refl
    where
      go : (s : ClassScope) → class_scope p class ≡ s → HasScope (elim s [ unannotated ↦ Some This | annotated s ↦ Some (In s) | scopeless ↦ None ])
      go unannotated e = (This, refl)
      go (annotated n) e = (In n, refl)
      go scopeless e = absurd (known class e)

  resolved_has : (o : Option Scope) → HasScope o → HasScope (resolved_scope (resolved_or_missing o))
  resolved_has o h = subst (λ o. HasScope (resolved_scope (resolved_or_missing o))) (sym h.1) (h.0, refl)

  -- a name that is known, in a class and where this scope is current
  written_known : (class : ℕ) (current : Option Scope) (name : List ℕ) → (is_same name this_name ≡ false → is_same name caller_name ≡ true → HasScope current) → is_known_name p name ≡ true → HasScope (written_scope p class current name)
  unfolding written_scope resolve_name
  written_known class current name now k = go (is_same name this_name) (is_same name caller_name) now k
    where
      number : (o : Option ℕ) → (is_some o || (false || false)) ≡ true → HasScope (resolved_scope (elim o as (λ _. Resolution) [ None ↦ unresolved | Some s ↦ resolved (In s) ]))
      number None k = absurd (true≢false (sym k))
      number (Some n) k = (In n, refl)

      go : (a b : Bool) → (a ≡ false → b ≡ true → HasScope current) → (is_some (scope_number p name) || (a || b)) ≡ true
          → HasScope (resolved_scope (if a then resolved_or_missing (this_in p class) else (if b then resolved_or_missing current else (elim (scope_number p name) as (λ _. Resolution) [ None ↦ unresolved | Some s ↦ resolved (In s) ]))))
      go true b now k = resolved_has (this_in p class) (this_known class)
      go false true now k = resolved_has current (now refl refl)
      go false false now k = number (scope_number p name) k

  type_known : (t : WrittenType) → type_scope p t ≡ scopeless → ⊥
  unfolding type_scope
  type_known t e = go (class_written p.names t) e
    where
      go : (o : Option ℕ) → (elim o as (λ _. ClassScope) [ None ↦ unannotated | Some class ↦ class_scope p class ]) ≡ scopeless → ⊥
      go None e = absurd (cc (e))
      go (Some class) e = known class e

  -- what a name denotes in the annotation of a declaration, where it denotes anything
  picked : (t : ScopedDeclaration) (w : Written) → is_unknown_scope p t w ≡ false →
      (t.is_field ≡ false → HasScope t.current) → HasScope (resolved_scope (resolve_at p t w.name))
  unfolding is_unknown_scope resolve_at denotes_nothing resolve_name
  picked t w e current =
      by_unknown (is_same w.name unknown_name) t.is_variable (is_same w.name this_name) (is_same w.name caller_name)
      t.is_field refl e
    where
      defined : Option ℕ → Resolution
      defined o = elim o as (λ _. Resolution) [ None ↦ unresolved | Some s ↦ resolved (In s) ]

      by_number : (o : Option ℕ) → is_unresolved (defined o) ≡ false → HasScope (resolved_scope (defined o))
      by_number None e = absurd (true≢false e)
      by_number (Some n) e = (In n, refl)

      by_this : (nothing : Bool) →
          is_unresolved (if nothing then unresolved else resolved_or_missing (this_in p t.class)) ≡ false →
          HasScope (resolved_scope (if nothing then unresolved else resolved_or_missing (this_in p t.class)))
      by_this true e = absurd (true≢false e)
      by_this false e = resolved_has (this_in p t.class) (this_known t.class)

      by_name : (a b f : Bool) → t.is_field ≡ f
          → is_unresolved (if (if a then t.is_static && is_unannotated (class_scope p t.class) else (b && f)) then unresolved
          else (if a then resolved_or_missing (this_in p t.class) else (if b then resolved_or_missing t.current else defined (scope_number p w.name)))) ≡ false
          → HasScope (resolved_scope (if (if a then t.is_static && is_unannotated (class_scope p t.class) else (b && f)) then unresolved
          else (if a then resolved_or_missing (this_in p t.class) else (if b then resolved_or_missing t.current else defined (scope_number p w.name)))))
      by_name true b f h e = by_this (t.is_static && is_unannotated (class_scope p t.class)) e
      by_name false true true h e = absurd (true≢false e)
      by_name false true false h e = resolved_has t.current (current h)
      by_name false false f h e = by_number (scope_number p w.name) e

      by_unknown : (u v a b f : Bool) → t.is_field ≡ f
          → is_unresolved (if u then (if v then resolved Unknown else unresolved) else (if (if a then t.is_static && is_unannotated (class_scope p t.class) else (b && f)) then unresolved
          else (if a then resolved_or_missing (this_in p t.class) else (if b then resolved_or_missing t.current else defined (scope_number p w.name))))) ≡ false
          → HasScope (resolved_scope (if u then (if v then resolved Unknown else unresolved) else (if (if a then t.is_static && is_unannotated (class_scope p t.class) else (b && f)) then unresolved
          else (if a then resolved_or_missing (this_in p t.class) else (if b then resolved_or_missing t.current else defined (scope_number p w.name))))))
      by_unknown true true a b f h e = (Unknown, refl)
      by_unknown true false a b f h e = absurd (true≢false e)
      by_unknown false v a b f h e = by_name a b f h e

  -- the scope of a declaration whose type lies anywhere
  free_known : (t : ScopedDeclaration) → holds t.scope (λ w. is_unknown_scope p t w || contradicts p t w) ≡ false → HasScope t.default → (t.is_field ≡ false → HasScope t.current) → HasScope (scope_as_written p t)
  unfolding scope_as_written
  free_known t right_ default current = go t.scope right_
    where
      go : (o : Option Written) → holds o (λ w. is_unknown_scope p t w || contradicts p t w) ≡ false → HasScope (elim o [ None ↦ t.default | Some w ↦ resolved_scope (resolve_at p t w.name) ])
      go None e = default
      go (Some w) e = picked t w (or_false _ _ e).0 current

  -- the scope of a declaration on which neither A1 nor A9 is broken
  pub declaration_known : (t : ScopedDeclaration) → has_no_scope t.declared_type ≡ false → holds t.scope (λ w. is_unknown_scope p t w || contradicts p t w) ≡ false → HasScope t.default → (t.is_field ≡ false → HasScope t.current) → HasScope (declaration_scope p t)
  unfolding declaration_scope
  declaration_known t kind right_ default current =
      subst HasScope (sym (ap (λ a. if a then None else (if is_rightly_scoped p t then inner else None)) kind ∙ ap (λ b. if not b then inner else None) right_)) (by_class (type_scope p t.declared_type) refl)
    where
      inner : Option Scope
      inner = elim (type_scope p t.declared_type) [ unannotated ↦ scope_as_written p t | annotated s ↦ Some (In s) | scopeless ↦ None ]

      by_class : (s : ClassScope) → type_scope p t.declared_type ≡ s → HasScope (elim s [ unannotated ↦ scope_as_written p t | annotated s ↦ Some (In s) | scopeless ↦ None ])
      by_class unannotated e = free_known t right_ default current
      by_class (annotated n) e = (In n, refl)
      by_class scopeless e = absurd (type_known t.declared_type e)

  -- the scope in which a method runs, where neither A7 nor A8 is broken
  pub runs_in_known : (class : ℕ) (m : DeclaredMethod) → holds m.declared.modifiers.runs_in (λ w. has_unknown_runs_in p m w || has_other_runs_in p class m w) ≡ false → HasScope (runs_in p class m)
  unfolding runs_in default_runs_in free_runs_in has_unknown_runs_in
  runs_in_known class m right_ =
      subst HasScope (sym (ap (λ b. if b then None else outer) right_)) (by_static m.declared.modifiers.is_static refl)
    where
      inner : Option Scope
      inner = elim (fixed_for p class m.declared.name) [ Some s ↦ Some s | None ↦ free_runs_in p class m.declared.modifiers.runs_in ]

      outer : Option Scope
      outer = if m.declared.modifiers.is_static then Some Caller else inner

      by_default : (s : ClassScope) → class_scope p class ≡ s → HasScope (elim s [ unannotated ↦ Some Caller | annotated s ↦ Some (In s) | scopeless ↦ None ])
      by_default unannotated e = (Caller, refl)
      by_default (annotated n) e = (In n, refl)
      by_default scopeless e = absurd (known class e)

      free : (st : Bool) → m.declared.modifiers.is_static ≡ st → st ≡ false → (o : Option Written) → holds o (λ w. has_unknown_runs_in p m w || has_other_runs_in p class m w) ≡ false → HasScope (free_runs_in p class o)
      free st e f None h = by_default (class_scope p class) refl
      free st e f (Some w) h =
          let k : not (is_known_name p w.name) ≡ false = sym (ap (λ t. if t then not (is_same w.name caller_name) else not (is_known_name p w.name)) (e ∙ f)) ∙ (or_false (has_unknown_runs_in p m w) _ h).0 in
          written_known class (Some Caller) w.name (λ a b. (Caller, refl)) (not_false _ k)
        where
          not_false : (t : Bool) → not t ≡ false → t ≡ true
          not_false true e = refl
          not_false false e = absurd (true≢false e)

      by_fixed : (o : Option Scope) → m.declared.modifiers.is_static ≡ false → HasScope (elim o [ Some s ↦ Some s | None ↦ free_runs_in p class m.declared.modifiers.runs_in ])
      by_fixed (Some s) e = (s, refl)
      by_fixed None e = free false e refl m.declared.modifiers.runs_in right_

      by_static : (st : Bool) → m.declared.modifiers.is_static ≡ st → HasScope (if st then Some Caller else inner)
      by_static true e = (Caller, refl)
      by_static false e = by_fixed (fixed_for p class m.declared.name) e
