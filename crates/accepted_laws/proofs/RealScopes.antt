-- No declaration has the scope of null: what a class, method, field or result lies in is THIS, CALLER or a named scope, and
-- so it is with a variable but where UNKNOWN is written.
use Rattle.std.proofs.Common.{◌≡◌, ℕ, List, refl, sym, ◌∙◌, subst, true≢false, ◌⊎◌, inl, inr, Option, Some, None, Bool, true, false, option_and_then, option_map, slice_get, if◌then◌else◌}
use Rattle.scj_base.specs.Bytes.{is_same}
use Rattle.scj_builtins.specs.declared.kinds.RunsInKind.{RunsInKind}
use Rattle.scj_builtins.specs.declared.kinds.RunsInKind.TheVariants.{Immortal as in_immortal, DefinedOrCaller as in_defined_or_caller, DefinedOrDeclared as in_defined_or_declared, Caller as in_caller}
use Rattle.scj_builtins.specs.declared.methods.FrameworkMethod.{FrameworkMethod}
use Rattle.scj_builtins.specs.Framework.{framework_methods}
use Rattle.scj_rules.specs.declared.scopes.ClassScope.{ClassScope}
use Rattle.scj_rules.specs.declared.scopes.ClassScope.TheVariants.{Unannotated as unannotated, Annotated as annotated, Missing as scopeless}
use Rattle.scj_rules.specs.declared.scopes.Resolution.{Resolution}
use Rattle.scj_rules.specs.declared.scopes.Resolution.TheVariants.{Resolved as resolved, Unresolved as unresolved}
use Rattle.scj_rules.specs.declared.scopes.ScopedDeclaration.{ScopedDeclaration}
use Rattle.scj_rules.specs.declared.scopes.Written.{Written}
use Rattle.scj_rules.specs.declared.typing.Ty.{Ty}
use Rattle.scj_rules.specs.declared.typing.Ty.TheVariants.{Int, Bool as Boolean, Void, NullTy, Label, Class as ClassTy, IntArray, BoolArray, ClassArray}
use Rattle.scj_rules.specs.declared.typing.Scope.{Scope}
use Rattle.scj_rules.specs.declared.typing.Scope.TheVariants.{Any, This, Caller, In, Unknown, Lost}
use Rattle.scj_rules.specs.declared.views.Declared.{Declared}
use Rattle.scj_rules.specs.declared.views.WrittenType.{WrittenType}
use Rattle.scj_rules.specs.declared.views.WrittenType.TheVariants.{Boolean as boolean_type, BooleanArray as boolean_array, Class as class_type, ClassArray as class_array, Int as int_type, IntArray as int_array, Long as long_type, Text as text_type, Void as void_type}
use Rattle.scj_rules.specs.Views.{DeclaredMethod, method_at, variable_at}
use Rattle.scj_rules.specs.Classes.{FoundMethod, class_number, framework_row_named}
use Rattle.scj_rules.specs.Contexts.{Declarations, context, is_static_member}
use Rattle.scj_rules.specs.ScopeRules.{immortal_scope, scope_number, defined_by_chain}
use Rattle.scj_rules.specs.StaticScopes.{beside, class_scope, scope_or, this_in, this_name, caller_name, unknown_name, resolved_or_missing, resolved_scope, resolve_name, resolve_at, denotes_nothing, written_scope, fixed_scope, fixed_runs_in, fixed_for, default_runs_in, free_runs_in, has_wrong_runs_in, runs_in, current_in, has_no_scope, type_scope, is_rightly_scoped, scope_as_written, declaration_scope, scoped_variable, scoped_result}
use Rattle.scj_rules.specs.AnnotationRules.{scoped_variable_at, result_scope}
use Rattle.scj_rules.specs.Types.{type_written}
use Rattle.scj_rules.specs.TypeRules.{declared_type_of}
use Rattle.scj_rules.specs.UseRules.{variable_scope_at}
use Rattle.accepted_laws.specs.Kinds.{Kind, number, truth, reference, kind_of, kind_of_variable, IsReal, IsRealKind, NamesArea}
use Rattle.accepted_laws.proofs.Tools.{some_inj}

-- ---- what names an area, and where only a variable's scope may be unknown

pub named_beside : (s : Scope) → NamesArea s → beside s ≡ s
unfolding beside
named_beside This h = refl
named_beside Caller h = refl
named_beside (In n) h = refl
named_beside Any h = absurd h
named_beside Unknown h = absurd h
named_beside Lost h = absurd h

pub named_is_real : (s : Scope) → NamesArea s → IsReal s
named_is_real This h = tt
named_is_real Caller h = tt
named_is_real (In n) h = tt
named_is_real Any h = h
named_is_real Unknown h = absurd h
named_is_real Lost h = absurd h

-- what a declaration has: a scope that names an area, or UNKNOWN where it declares a variable
abbrev pub NamesAreaOr : Bool → Scope → Type 0
NamesAreaOr is_variable s = NamesArea s ⊎ ((is_variable ≡ true) × (s ≡ Unknown))

named_or_real : (is_variable : Bool) (s : Scope) → NamesAreaOr is_variable s → IsReal s
named_or_real is_variable s (inl h) = named_is_real s h
named_or_real is_variable s (inr h) = subst IsReal (sym h.1) tt

module _ (p : Declarations) (scope : Scope) where
  caller_named : Some Caller ≡ Some scope → NamesArea scope
  caller_named e = subst NamesArea (some_inj Caller scope e) tt

  this_is_named : Some This ≡ Some scope → NamesArea scope
  this_is_named e = subst NamesArea (some_inj This scope e) tt

  in_named : (n : ℕ) → Some (In n) ≡ Some scope → NamesArea scope
  in_named n e = subst NamesArea (some_inj (In n) scope e) tt

  none_named : None ≡ Some scope → NamesArea scope
  none_named e = absurd (cc (e))

  pub this_named : (class : ℕ) → this_in p class ≡ Some scope → NamesArea scope
  unfolding this_in
  this_named class e = go (class_scope p class) e
    where
      go : (s : ClassScope) → scope_or s (Some This) ≡ Some scope → NamesArea scope
      go unannotated e = this_is_named e
      go (annotated n) e = in_named n e
      go scopeless e = none_named e

  fixed_named : (class : ℕ) (k : RunsInKind) → fixed_scope p class k ≡ Some scope → NamesArea scope
  unfolding fixed_scope
  fixed_named class in_immortal e = in_named immortal_scope e
  fixed_named class in_defined_or_caller e = go (defined_by_chain p class) e
    where
      go : (o : Option ℕ) → (elim o as (λ _. Option Scope) [ None ↦ Some Caller | Some s ↦ Some (In s) ]) ≡ Some scope → NamesArea scope
      go None e = caller_named e
      go (Some n) e = in_named n e
  fixed_named class in_defined_or_declared e = go (defined_by_chain p class) e
    where
      go : (o : Option ℕ) → option_map (λ s. In s) o ≡ Some scope → NamesArea scope
      go None e = none_named e
      go (Some n) e = in_named n e
  fixed_named class in_caller e = caller_named e

  fixed_for_named : (class : ℕ) (name : List ℕ) → fixed_for p class name ≡ Some scope → NamesArea scope
  unfolding fixed_for fixed_runs_in
  fixed_for_named class name e = by_number (option_and_then (λ (f : FoundMethod). f.method.builtin) (framework_row_named p.classes class name)) e
    where
      by_method : (o : Option FrameworkMethod) → option_and_then (λ (m : FrameworkMethod). fixed_scope p class m.runs_in) o ≡ Some scope → NamesArea scope
      by_method None e = none_named e
      by_method (Some m) e = fixed_named class m.runs_in e

      by_number : (o : Option ℕ) → option_and_then (fixed_runs_in p class) o ≡ Some scope → NamesArea scope
      by_number None e = none_named e
      by_number (Some n) e = by_method (slice_get framework_methods n) e

  resolved_is : (o : Option Scope) → resolved_scope (resolved_or_missing o) ≡ o
  resolved_is None = refl
  resolved_is (Some s) = refl

  written_named : (class : ℕ) (current : Option Scope) (name : List ℕ) → (current ≡ Some scope → NamesArea scope) → written_scope p class current name ≡ Some scope → NamesArea scope
  unfolding written_scope resolve_name
  written_named class current name c e = go (is_same name this_name) (is_same name caller_name) e
    where
      number : (o : Option ℕ) → resolved_scope (elim o as (λ _. Resolution) [ None ↦ unresolved | Some s ↦ resolved (In s) ]) ≡ Some scope → NamesArea scope
      number None e = none_named e
      number (Some n) e = in_named n e

      go : (a b : Bool) → resolved_scope (if a then resolved_or_missing (this_in p class) else (if b then resolved_or_missing current else (elim (scope_number p name) as (λ _. Resolution) [ None ↦ unresolved | Some s ↦ resolved (In s) ]))) ≡ Some scope → NamesArea scope
      go true b e = this_named class (sym (resolved_is (this_in p class)) ∙ e)
      go false true e = c (sym (resolved_is current) ∙ e)
      go false false e = number (scope_number p name) e

  free_named : (class : ℕ) (o : Option Written) → free_runs_in p class o ≡ Some scope → NamesArea scope
  unfolding free_runs_in default_runs_in
  free_named class None e = go (class_scope p class) e
    where
      go : (s : ClassScope) → scope_or s (Some Caller) ≡ Some scope → NamesArea scope
      go unannotated e = caller_named e
      go (annotated n) e = in_named n e
      go scopeless e = none_named e
  free_named class (Some w) e = written_named class (Some Caller) w.name caller_named e

  pub runs_in_named : (class : ℕ) (m : DeclaredMethod) → runs_in p class m ≡ Some scope → NamesArea scope
  unfolding runs_in
  runs_in_named class m e = by_wrong (has_wrong_runs_in p class m) e
    where
      by_fixed : (o : Option Scope) → fixed_for p class m.declared.name ≡ o → (elim o as (λ _. Option Scope) [ Some s ↦ Some s | None ↦ free_runs_in p class m.declared.modifiers.runs_in ]) ≡ Some scope → NamesArea scope
      by_fixed (Some s) f e = fixed_for_named class m.declared.name (f ∙ e)
      by_fixed None f e = free_named class m.declared.modifiers.runs_in e

      by_static : (t : Bool) → (if t then Some Caller else (elim (fixed_for p class m.declared.name) as (λ _. Option Scope) [ Some s ↦ Some s | None ↦ free_runs_in p class m.declared.modifiers.runs_in ])) ≡ Some scope → NamesArea scope
      by_static true e = caller_named e
      by_static false e = by_fixed (fixed_for p class m.declared.name) refl e

      by_wrong : (t : Bool) → (if t then None else (if m.declared.modifiers.is_static then Some Caller else (elim (fixed_for p class m.declared.name) as (λ _. Option Scope) [ Some s ↦ Some s | None ↦ free_runs_in p class m.declared.modifiers.runs_in ]))) ≡ Some scope → NamesArea scope
      by_wrong true e = none_named e
      by_wrong false e = by_static m.declared.modifiers.is_static e

  pub current_named : (class member : ℕ) → current_in p class member ≡ Some scope → NamesArea scope
  unfolding current_in
  current_named class member e = go (method_at p.nodes member) e
    where
      go : (o : Option DeclaredMethod) → (elim o as (λ _. Option Scope) [ Some m ↦ runs_in p class m | None ↦ this_in p class ]) ≡ Some scope → NamesArea scope
      go None e = this_named class e
      go (Some m) e = runs_in_named class m e

  -- the scope of a declaration names an area, where its defaults do; or it is a variable's, and UNKNOWN
  pub declaration_named : (t : ScopedDeclaration) → (t.default ≡ Some scope → NamesArea scope) →
      (t.current ≡ Some scope → NamesArea scope) → declaration_scope p t ≡ Some scope → NamesAreaOr t.is_variable scope
  unfolding declaration_scope scope_as_written resolve_at written_scope
  declaration_named t default current e = by_kind (has_no_scope t.declared_type) e
    where
      named : Written → Option Scope
      named w =
          resolved_scope
          (if is_same w.name unknown_name then (if t.is_variable then resolved Unknown else unresolved)
          else (if denotes_nothing p t w.name then unresolved else resolve_name p t.class t.current w.name))

      written : Option Scope
      written = elim t.scope as (λ _. Option Scope) [ None ↦ t.default | Some w ↦ named w ]

      by_name : (w : Written) (nothing : Bool) →
          resolved_scope (if nothing then unresolved else resolve_name p t.class t.current w.name) ≡ Some scope →
          NamesArea scope
      by_name w true e = none_named e
      by_name w false e = written_named t.class t.current w.name current e

      by_unknown : (w : Written) (unknown variable : Bool) → t.is_variable ≡ variable →
          resolved_scope
          (if unknown then (if variable then resolved Unknown else unresolved)
          else (if denotes_nothing p t w.name then unresolved else resolve_name p t.class t.current w.name))
          ≡ Some scope → NamesAreaOr t.is_variable scope
      by_unknown w true true is e = inr (is, sym (some_inj Unknown scope e))
      by_unknown w true false is e = inl (none_named e)
      by_unknown w false variable is e = inl (by_name w (denotes_nothing p t w.name) e)

      as_written : (o : Option Written) →
          (elim o as (λ _. Option Scope) [ None ↦ t.default | Some w ↦ named w ]) ≡ Some scope →
          NamesAreaOr t.is_variable scope
      as_written None e = inl (default e)
      as_written (Some w) e = by_unknown w (is_same w.name unknown_name) t.is_variable refl e

      by_class : (s : ClassScope) → scope_or s written ≡ Some scope → NamesAreaOr t.is_variable scope
      by_class unannotated e = as_written t.scope e
      by_class (annotated n) e = inl (in_named n e)
      by_class scopeless e = inl (none_named e)

      by_right : (b : Bool) → (if b then scope_or (type_scope p t.declared_type) written else None) ≡ Some scope →
          NamesAreaOr t.is_variable scope
      by_right true e = by_class (type_scope p t.declared_type) e
      by_right false e = inl (none_named e)

      by_kind : (b : Bool) →
          (if b then None
          else (if is_rightly_scoped p t then scope_or (type_scope p t.declared_type) written else None)) ≡ Some scope →
          NamesAreaOr t.is_variable scope
      by_kind true e = inl (none_named e)
      by_kind false e = by_right (is_rightly_scoped p t) e

  -- what a method gives lies in a scope that names an area
  pub result_named : (class : ℕ) (m : DeclaredMethod) → result_scope p class m ≡ Some scope → NamesArea scope
  result_named class m e =
      elim (declaration_named (scoped_result p class m) (runs_in_named class m) (runs_in_named class m) e)
      as (λ _. NamesArea scope) [ inl h ↦ h | inr h ↦ absurd (true≢false (sym h.0)) ]

  -- a variable's names one too, or is UNKNOWN
  pub variable_named : (id : ℕ) → variable_scope_at p id ≡ Some scope → NamesAreaOr true scope
  unfolding scoped_variable_at
  variable_named id e = by_class (context p id).class e
    where
      by_variable : (class member : ℕ) (o : Option Declared) → option_and_then (declaration_scope p) (option_map (λ (d : Declared). scoped_variable class (current_in p class member) (is_static_member p.nodes member) d) o) ≡ Some scope → NamesAreaOr true scope
      by_variable class member None e = inl (none_named e)
      by_variable class member (Some d) e = declaration_named (scoped_variable class (current_in p class member) (is_static_member p.nodes member) d) (current_named class member) (current_named class member) e

      by_member : (class : ℕ) (o : Option ℕ) → option_and_then (declaration_scope p) (option_and_then (λ member. option_map (λ (d : Declared). scoped_variable class (current_in p class member) (is_static_member p.nodes member) d) (variable_at p.nodes id)) o) ≡ Some scope → NamesAreaOr true scope
      by_member class None e = inl (none_named e)
      by_member class (Some member) e = by_variable class member (variable_at p.nodes id) e

      by_class : (o : Option ℕ) → option_and_then (declaration_scope p) (option_and_then (λ class. option_and_then (λ member. option_map (λ (d : Declared). scoped_variable class (current_in p class member) (is_static_member p.nodes member) d) (variable_at p.nodes id)) (context p id).member) o) ≡ Some scope → NamesAreaOr true scope
      by_class None e = inl (none_named e)
      by_class (Some class) e = by_member class (context p id).member e

-- THIS of a class is beside itself
pub this_beside : (p : Declarations) (class : ℕ) (home : Scope) → this_in p class ≡ Some home → beside home ≡ home
this_beside p class home e = named_beside home (this_named p home class e)

-- no written type is that of null
not_null : (names : List (List ℕ)) (t : WrittenType) → type_written names t ≡ Some NullTy → ⊥
unfolding type_written
not_null names int_type e = (let f : Int ≡ NullTy = some_inj Int NullTy e in cc (f))
not_null names boolean_type e = (let f : Boolean ≡ NullTy = some_inj Boolean NullTy e in cc (f))
not_null names void_type e = (let f : Void ≡ NullTy = some_inj Void NullTy e in cc (f))
not_null names long_type e = cc (e)
not_null names text_type e = (let f : Label ≡ NullTy = some_inj Label NullTy e in cc (f))
not_null names int_array e = (let f : IntArray ≡ NullTy = some_inj IntArray NullTy e in cc (f))
not_null names boolean_array e = (let f : BoolArray ≡ NullTy = some_inj BoolArray NullTy e in cc (f))
not_null names (class_type name) e = go (class_number names name) e
  where
    go : (o : Option ℕ) → option_map (λ class. ClassTy class) o ≡ Some NullTy → ⊥
    go None e = cc (e)
    go (Some c) e = (let f : ClassTy c ≡ NullTy = some_inj (ClassTy c) NullTy e in cc (f))
not_null names (class_array name) e = go (class_number names name) e
  where
    go : (o : Option ℕ) → option_map (λ class. ClassArray class) o ≡ Some NullTy → ⊥
    go None e = cc (e)
    go (Some c) e = (let f : ClassArray c ≡ NullTy = some_inj (ClassArray c) NullTy e in cc (f))

real_kind : (o : Option Ty) (s : Option Scope) (k : Kind) → (o ≡ Some NullTy → ⊥) →
    ((scope : Scope) → s ≡ Some scope → IsReal scope) → kind_of o s ≡ Some k → IsRealKind k
unfolding kind_of
real_kind (Some Int) s k n a e = subst IsRealKind (some_inj number k e) tt
real_kind (Some Boolean) s k n a e = subst IsRealKind (some_inj truth k e) tt
real_kind (Some NullTy) s k n a e = absurd (n refl)
real_kind (Some (ClassTy c)) (Some s) k n a e = subst IsRealKind (some_inj (reference (ClassTy c) s) k e) (a s refl)
real_kind (Some IntArray) (Some s) k n a e = subst IsRealKind (some_inj (reference IntArray s) k e) (a s refl)
real_kind (Some BoolArray) (Some s) k n a e = subst IsRealKind (some_inj (reference BoolArray s) k e) (a s refl)
real_kind (Some (ClassArray c)) (Some s) k n a e = subst IsRealKind (some_inj (reference (ClassArray c) s) k e) (a s refl)
real_kind _ _ k n a e = absurd (cc (e))

variable_not_null : (p : Declarations) (o : Option Declared) → option_and_then (declared_type_of p) o ≡ Some NullTy → ⊥
variable_not_null p None e = cc (e)
variable_not_null p (Some d) e = not_null p.names d.declared_type e

-- a variable's scope is never that of null
pub variable_is_real : (p : Declarations) (id : ℕ) (k : Kind) → kind_of_variable p id ≡ Some k → IsRealKind k
unfolding kind_of_variable
variable_is_real p id k e = real_kind (option_and_then (declared_type_of p) (variable_at p.nodes id)) (variable_scope_at p id) k (variable_not_null p (variable_at p.nodes id)) (λ scope h. named_or_real true scope (variable_named p scope id h)) e
