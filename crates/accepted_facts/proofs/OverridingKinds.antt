-- Kinds through overriding: what overrides a method in right steps takes what that takes and gives what that gives, as its
-- own class sees it.
use Rattle.std.proofs.Common.{◌≡◌, ℕ, List, [], ◌∷◌, map, refl, sym, ap, ◌∙◌, Option, Some, None, Bool, true, false, ◌||◌, ◌&&◌, true≢false, ◌⊎◌, if◌then◌else◌}
use Rattle.scj_base.specs.Bytes.{is_same}
use Rattle.scj_rules.specs.declared.scopes.ClassScope.{ClassScope}
use Rattle.scj_rules.specs.declared.scopes.ClassScope.TheVariants.{Unannotated as unannotated, Annotated as annotated, Missing as scopeless}
use Rattle.scj_rules.specs.declared.typing.Scope.{Scope}
use Rattle.scj_rules.specs.declared.typing.Scope.TheVariants.{Any, This, Caller, In, Unknown, Lost}
use Rattle.scj_rules.specs.declared.typing.Ty.{Ty}
use Rattle.scj_rules.specs.declared.typing.Ty.TheVariants.{Int, Bool as Boolean, Void, NullTy, Label, Class as ClassTy, IntArray, BoolArray, ClassArray}
use Rattle.scj_rules.specs.declared.views.Declared.{Declared}
use Rattle.scj_rules.specs.declared.views.WrittenType.{WrittenType}
use Rattle.scj_rules.specs.declared.views.WrittenType.TheVariants.{Boolean as boolean_type, BooleanArray as boolean_array, Class as class_type, ClassArray as class_array, Int as int_type, IntArray as int_array, Long as long_type, Text as text_type, Void as void_type}
use Rattle.scj_rules.specs.Views.{DeclaredMethod}
use Rattle.scj_rules.specs.Classes.{FoundMethod}
use Rattle.scj_rules.specs.ClassRules.{is_same_type, have_same_types}
use Rattle.scj_rules.specs.Contexts.{Declarations}
use Rattle.scj_rules.specs.ScopeRules.{scope_number}
use Rattle.scj_rules.specs.declared.scopes.Resolution.{Resolution}
use Rattle.scj_rules.specs.declared.scopes.Resolution.TheVariants.{Resolved as resolved, Unresolved as unresolved}
use Rattle.scj_rules.specs.declared.scopes.ScopedDeclaration.{ScopedDeclaration}
use Rattle.scj_rules.specs.declared.scopes.Written.{Written}
use Rattle.scj_rules.specs.StaticScopes.{beside, scope_or, this_in, this_name, caller_name, unknown_name, resolved_or_missing, resolved_scope, resolve_name, resolve_at, denotes_nothing, written_scope, runs_in, has_no_scope, type_scope, is_rightly_scoped, scope_as_written, declaration_scope, scoped_variable, scoped_result, parameter_scope}
use Rattle.scj_rules.specs.AnnotationRules.{seen_in, differ, parameters_differ, result_scope}
use Rattle.scj_rules.specs.Types.{type_written, is_reference}
use Rattle.scj_rules.specs.TypeRules.{declared_type_of}
use Rattle.accepted_laws.specs.Judgements.{HasScope}
use Rattle.accepted_laws.specs.Kinds.{Kind, number, truth, yes, fresh, reference, kind_of, seen_as, seen_kind, seen_option}
use Rattle.accepted_laws.proofs.ClassScopes.{override_same, seen_in_as, seen_twice}
use Rattle.accepted_laws.proofs.MethodNodes.{same_bytes}
use Rattle.accepted_laws.proofs.DispatchScopes.{runs_in_normal}
use Rattle.accepted_laws.proofs.RealScopes.{this_beside}
use Rattle.accepted_laws.proofs.Fields.{In as Element, here, there}
use Rattle.accepted_laws.proofs.Tools.{some_inj}
use Rattle.accepted_facts.specs.Methods.{kind_of_parameter, kind_given}

pub or_false : (a b : Bool) → (a || b) ≡ false → (a ≡ false) × (b ≡ false)
or_false true b e = absurd (true≢false e)
or_false false b e = (refl, e)

pub and_true : (a b : Bool) → (a && b) ≡ true → (a ≡ true) × (b ≡ true)
and_true true b e = (refl, e)
and_true false b e = absurd (true≢false (sym e))

-- ---- written types that pass as the same are the same

pub same_type : (a b : WrittenType) → is_same_type a b ≡ true → a ≡ b
unfolding is_same_type
same_type int_type int_type e = refl
same_type boolean_type boolean_type e = refl
same_type void_type void_type e = refl
same_type long_type long_type e = refl
same_type text_type text_type e = refl
same_type int_array int_array e = refl
same_type boolean_array boolean_array e = refl
same_type (class_type a) (class_type b) e = ap (λ n. class_type n) (same_bytes a b e)
same_type (class_array a) (class_array b) e = ap (λ n. class_array n) (same_bytes a b e)
same_type _ _ e = absurd (cc (e))

-- ---- kinds as they are seen

pub seen_kind_of : (home : Scope) (t : Option Ty) (s : Scope) → kind_of t (Some (seen_as home Caller s)) ≡ seen_option home Caller (kind_of t (Some s))
unfolding kind_of seen_option seen_kind seen_as
seen_kind_of home (Some Int) s = refl
seen_kind_of home (Some Boolean) s = refl
seen_kind_of home (Some NullTy) s = refl
seen_kind_of home (Some (ClassTy c)) s = refl
seen_kind_of home (Some IntArray) s = refl
seen_kind_of home (Some BoolArray) s = refl
seen_kind_of home (Some (ClassArray c)) s = refl
seen_kind_of home (Some Void) s = refl
seen_kind_of home (Some Label) s = refl
seen_kind_of home None s = refl

-- a kind without a scope looks the same from everywhere, but for a reference none is left
pub plain_kind : (home : Scope) (t : Option Ty) → kind_of t None ≡ seen_option home Caller (kind_of t None)
unfolding kind_of seen_option seen_kind seen_as
plain_kind home (Some Int) = refl
plain_kind home (Some Boolean) = refl
plain_kind home (Some NullTy) = refl
plain_kind home (Some (ClassTy c)) = refl
plain_kind home (Some IntArray) = refl
plain_kind home (Some BoolArray) = refl
plain_kind home (Some (ClassArray c)) = refl
plain_kind home (Some Void) = refl
plain_kind home (Some Label) = refl
plain_kind home None = refl

pub seen_option_twice : (home above : Scope) → (above ≡ This) ⊎ (above ≡ home) → (o : Option Kind) → seen_option home Caller (seen_option above Caller o) ≡ seen_option home Caller o
unfolding seen_option seen_kind
seen_option_twice home above h None = refl
seen_option_twice home above h (Some (reference t s)) = ap (λ s. Some (reference t s)) (seen_twice home above h s)
seen_option_twice home above h (Some number) = refl
seen_option_twice home above h (Some truth) = refl
seen_option_twice home above h (Some yes) = refl
seen_option_twice home above h (Some (fresh c s)) = refl

-- what has a kind without a scope has that kind in every scope
scope_free : (t : Option Ty) (k : Kind) → kind_of t None ≡ Some k → (s : Option Scope) → kind_of t s ≡ kind_of t None
unfolding kind_of
scope_free (Some Int) k e s = refl
scope_free (Some Boolean) k e s = refl
scope_free (Some NullTy) k e s = refl
scope_free _ k e s = absurd (cc (e))

pub map_twice : (home above : Scope) → (above ≡ This) ⊎ (above ≡ home) → (os : List (Option Kind)) → map (seen_option home Caller) (map (seen_option above Caller) os) ≡ map (seen_option home Caller) os
map_twice home above h [] = refl
map_twice home above h (o ∷ os) = ap (λ k. k ∷ map (seen_option home Caller) (map (seen_option above Caller) os)) (seen_option_twice home above h o) ∙ ap (λ ks. seen_option home Caller o ∷ ks) (map_twice home above h os)

-- a kind in a scope that its own class sees as it is
own_kind : (home : Scope) (t : Option Ty) (s : Option Scope) → (s ≡ Some This → home ≡ This) → kind_of t s ≡ seen_option home Caller (kind_of t s)
unfolding seen_as beside
own_kind home t None h = plain_kind home t
own_kind home t (Some This) h = ap (λ x. kind_of t (Some (beside x))) (sym (h refl)) ∙ seen_kind_of home t This
own_kind home t (Some Any) h = seen_kind_of home t Any
own_kind home t (Some Caller) h = seen_kind_of home t Caller
own_kind home t (Some (In n)) h = seen_kind_of home t (In n)
own_kind home t (Some Unknown) h = seen_kind_of home t Unknown
own_kind home t (Some Lost) h = seen_kind_of home t Lost

caller_not_this : Some Caller ≡ Some This → ⊥
caller_not_this e = (let f : Caller ≡ This = some_inj Caller This e in cc (f))

in_not_this : (n : ℕ) → Some (In n) ≡ Some This → ⊥
in_not_this n e = (let f : In n ≡ This = some_inj (In n) This e in cc (f))

none_not_this : None ≡ Some This → ⊥
none_not_this e = cc (e)

module _ (p : Declarations) where
  -- ---- one step

  -- where two scopes don't differ as the class sees them, two kinds of one type are the same, if both are there
  same_kinds : (class : ℕ) (home : Scope) → this_in p class ≡ Some home → (t : Option Ty) (s r : Option Scope) (j k : Kind) → kind_of t s ≡ Some j → kind_of t r ≡ Some k → differ s (seen_in p class r) ≡ false → kind_of t s ≡ seen_option home Caller (kind_of t r)
  same_kinds class home h t (Some s) (Some r) j k e f d =
      ap (λ x. kind_of t (Some x)) (override_same s (seen_as home Caller r) (Some s) (seen_in p class (Some r)) refl (seen_in_as p class home h r) d) ∙ seen_kind_of home t r
  same_kinds class home h t None None j k e f d = plain_kind home t
  same_kinds class home h t (Some s) None j k e f d = scope_free t k f (Some s) ∙ plain_kind home t
  same_kinds class home h t None (Some r) j k e f d = plain_kind home t ∙ ap (seen_option home Caller) (sym (scope_free t j e (Some r)))

  both_scoped : (class : ℕ) (home : Scope) → this_in p class ≡ Some home → (t : Option Ty) (s r : Option Scope) → HasScope s × HasScope r → differ s (seen_in p class r) ≡ false → kind_of t s ≡ seen_option home Caller (kind_of t r)
  both_scoped class home h t (Some s) (Some r) k d =
      ap (λ x. kind_of t (Some x)) (override_same s (seen_as home Caller r) (Some s) (seen_in p class (Some r)) refl (seen_in_as p class home h r) d) ∙ seen_kind_of home t r
  both_scoped class home h t None r k d = absurd (let e = k.0.1 in cc (e))
  both_scoped class home h t (Some s) None k d = absurd (let e = k.1.1 in cc (e))

  -- the same, where references have scopes
  pub same_scoped : (class : ℕ) (home : Scope) → this_in p class ≡ Some home → (t : Option Ty) (s r : Option Scope) → ((u : Ty) → t ≡ Some u → is_reference u ≡ true → HasScope s × HasScope r) → differ s (seen_in p class r) ≡ false → kind_of t s ≡ seen_option home Caller (kind_of t r)
  unfolding kind_of seen_option seen_kind seen_as is_reference
  same_scoped class home h None s r k d = refl
  same_scoped class home h (Some Int) s r k d = refl
  same_scoped class home h (Some Boolean) s r k d = refl
  same_scoped class home h (Some Void) s r k d = refl
  same_scoped class home h (Some NullTy) s r k d = refl
  same_scoped class home h (Some Label) s r k d = refl
  same_scoped class home h (Some (ClassTy c)) s r k d = both_scoped class home h (Some (ClassTy c)) s r (k (ClassTy c) refl refl) d
  same_scoped class home h (Some IntArray) s r k d = both_scoped class home h (Some IntArray) s r (k IntArray refl refl) d
  same_scoped class home h (Some BoolArray) s r k d = both_scoped class home h (Some BoolArray) s r (k BoolArray refl refl) d
  same_scoped class home h (Some (ClassArray c)) s r k d = both_scoped class home h (Some (ClassArray c)) s r (k (ClassArray c) refl refl) d

  -- ---- what a class sees of its own declarations

  this_is : (home : Scope) (class : ℕ) → this_in p class ≡ Some home → this_in p class ≡ Some This → home ≡ This
  this_is home class h e = some_inj home This (sym h ∙ e)

  written_this : (class : ℕ) (home : Scope) (current : Option Scope) (name : List ℕ) → this_in p class ≡ Some home → (current ≡ Some This → home ≡ This) → written_scope p class current name ≡ Some This → home ≡ This
  unfolding written_scope resolve_name
  written_this class home current name h c e = go (is_same name this_name) (is_same name caller_name) e
    where
      resolved_is : (o : Option Scope) → resolved_scope (resolved_or_missing o) ≡ o
      resolved_is None = refl
      resolved_is (Some s) = refl

      number : (o : Option ℕ) → resolved_scope (elim o as (λ _. Resolution) [ None ↦ unresolved | Some s ↦ resolved (In s) ]) ≡ Some This → ⊥
      number None e = none_not_this e
      number (Some n) e = in_not_this n e

      go : (a b : Bool) → resolved_scope (if a then resolved_or_missing (this_in p class) else (if b then resolved_or_missing current else (elim (scope_number p name) as (λ _. Resolution) [ None ↦ unresolved | Some s ↦ resolved (In s) ]))) ≡ Some This → home ≡ This
      go true b e = this_is home class h (sym (resolved_is (this_in p class)) ∙ e)
      go false true e = c (sym (resolved_is current) ∙ e)
      go false false e = absurd (number (scope_number p name) e)

  resolved_this : (t : ScopedDeclaration) (home : Scope) (name : List ℕ) → this_in p t.class ≡ Some home → (t.current ≡ Some This → home ≡ This) → resolved_scope (resolve_at p t name) ≡ Some This → home ≡ This
  unfolding resolve_at written_scope
  resolved_this t home name h c e = by_unknown (is_same name unknown_name) t.is_variable e
    where
      by_name : (nothing : Bool) → resolved_scope (if nothing then unresolved else resolve_name p t.class t.current name) ≡ Some This → home ≡ This
      by_name true e = absurd (none_not_this e)
      by_name false e = written_this t.class home t.current name h c e

      by_unknown : (u v : Bool) → resolved_scope (if u then (if v then resolved Unknown else unresolved) else (if denotes_nothing p t name then unresolved else resolve_name p t.class t.current name)) ≡ Some This → home ≡ This
      by_unknown true true e = absurd (let f : Unknown ≡ This = some_inj Unknown This e in cc (f))
      by_unknown true false e = absurd (none_not_this e)
      by_unknown false v e = by_name (denotes_nothing p t name) e

  declared_this : (t : ScopedDeclaration) (home : Scope) → this_in p t.class ≡ Some home → (t.default ≡ Some This → home ≡ This) → (t.current ≡ Some This → home ≡ This) → declaration_scope p t ≡ Some This → home ≡ This
  unfolding declaration_scope scope_as_written
  declared_this t home h d c e = by_kind (has_no_scope t.declared_type) e
    where
      as_written : (o : Option Written) → (elim o as (λ _. Option Scope) [ None ↦ t.default | Some w ↦ resolved_scope (resolve_at p t w.name) ]) ≡ Some This → home ≡ This
      as_written None e = d e
      as_written (Some w) e = resolved_this t home w.name h c e

      by_class : (s : ClassScope) → scope_or s (elim t.scope as (λ _. Option Scope) [ None ↦ t.default | Some w ↦ resolved_scope (resolve_at p t w.name) ]) ≡ Some This → home ≡ This
      by_class unannotated e = as_written t.scope e
      by_class (annotated n) e = absurd (in_not_this n e)
      by_class scopeless e = absurd (none_not_this e)

      by_right : (b : Bool) → (if b then scope_or (type_scope p t.declared_type) (elim t.scope as (λ _. Option Scope) [ None ↦ t.default | Some w ↦ resolved_scope (resolve_at p t w.name) ]) else None) ≡ Some This → home ≡ This
      by_right true e = by_class (type_scope p t.declared_type) e
      by_right false e = absurd (none_not_this e)

      by_kind : (b : Bool) → (if b then None else (if is_rightly_scoped p t then scope_or (type_scope p t.declared_type) (elim t.scope as (λ _. Option Scope) [ None ↦ t.default | Some w ↦ resolved_scope (resolve_at p t w.name) ]) else None)) ≡ Some This → home ≡ This
      by_kind true e = absurd (none_not_this e)
      by_kind false e = by_right (is_rightly_scoped p t) e

  runs_this : (class : ℕ) (m : DeclaredMethod) (home : Scope) → this_in p class ≡ Some home → runs_in p class m ≡ Some This → home ≡ This
  unfolding seen_as
  runs_this class m home h e = sym (this_beside p class home h) ∙ runs_in_normal p class m home This h e

  own_parameter : (f : FoundMethod) (home : Scope) → this_in p f.on ≡ Some home → (d : Declared) → kind_of_parameter p f d ≡ seen_option home Caller (kind_of_parameter p f d)
  unfolding kind_of_parameter
  own_parameter f home h d =
      own_kind home (declared_type_of p d) (parameter_scope p f.on f.method d)
      (declared_this (scoped_variable f.on (runs_in p f.on f.method) f.method.declared.modifiers.is_static d) home h (runs_this f.on f.method home h) (runs_this f.on f.method home h))

  pub own_parameters : (f : FoundMethod) (home : Scope) → this_in p f.on ≡ Some home → (ds : List Declared) → map (kind_of_parameter p f) ds ≡ map (seen_option home Caller) (map (kind_of_parameter p f) ds)
  own_parameters f home h [] = refl
  own_parameters f home h (d ∷ ds) = ap (λ k. k ∷ map (kind_of_parameter p f) ds) (own_parameter f home h d) ∙ ap (λ ks. seen_option home Caller (kind_of_parameter p f d) ∷ ks) (own_parameters f home h ds)

  pub own_result : (f : FoundMethod) (home : Scope) → this_in p f.on ≡ Some home → kind_given p f ≡ seen_option home Caller (kind_given p f)
  unfolding kind_given
  own_result f home h =
      own_kind home (declared_type_of p f.method.declared) (result_scope p f.on f.method)
      (declared_this (scoped_result p f.on f.method) home h (runs_this f.on f.method home h) (runs_this f.on f.method home h))

  -- ---- parameters, one step

  abbrev HasKinds : FoundMethod → List Declared → Type 0
  HasKinds f ds = (d : Declared) → Element d ds → (k : Kind) × (kind_of_parameter p f d ≡ Some k)

  one_parameter : (g h : FoundMethod) (home : Scope) → this_in p g.on ≡ Some home → (d x : Declared) → d.declared_type ≡ x.declared_type → differ (parameter_scope p g.on g.method d) (seen_in p g.on (parameter_scope p h.on h.method x)) ≡ false
      → (k : Kind) × (kind_of_parameter p g d ≡ Some k) → (k : Kind) × (kind_of_parameter p h x ≡ Some k) → kind_of_parameter p g d ≡ seen_option home Caller (kind_of_parameter p h x)
  unfolding kind_of_parameter
  one_parameter g h home is d x t e j k =
      let typed : declared_type_of p d ≡ declared_type_of p x = ap (type_written p.names) t in
      ap (λ o. kind_of o (parameter_scope p g.on g.method d)) typed
      ∙ same_kinds g.on home is (declared_type_of p x) (parameter_scope p g.on g.method d) (parameter_scope p h.on h.method x) j.0 k.0 (ap (λ o. kind_of o (parameter_scope p g.on g.method d)) (sym typed) ∙ j.1) k.1 e

  pub parameters_step : (g h : FoundMethod) (home : Scope) → this_in p g.on ≡ Some home → (ds es : List Declared) → have_same_types ds es ≡ true → parameters_differ p g.on g.method h.on h.method ds es ≡ false → HasKinds g ds → HasKinds h es
      → map (kind_of_parameter p g) ds ≡ map (seen_option home Caller) (map (kind_of_parameter p h) es)
  unfolding parameters_differ
  parameters_step g h home is [] [] t e j k = refl
  parameters_step g h home is [] (x ∷ es) t e j k = absurd (true≢false (sym t))
  parameters_step g h home is (d ∷ ds) [] t e j k = absurd (true≢false (sym t))
  parameters_step g h home is (d ∷ ds) (x ∷ es) t e j k =
      let same = and_true (is_same_type d.declared_type x.declared_type) (have_same_types ds es) t in
      let parts = or_false (differ (parameter_scope p g.on g.method d) (seen_in p g.on (parameter_scope p h.on h.method x))) (parameters_differ p g.on g.method h.on h.method ds es) e in
      ap (λ o. o ∷ map (kind_of_parameter p g) ds) (one_parameter g h home is d x (same_type d.declared_type x.declared_type same.0) parts.0 (j d here) (k x here))
      ∙ ap (λ os. seen_option home Caller (kind_of_parameter p h x) ∷ os) (parameters_step g h home is ds es same.1 parts.1 (λ y i. j y (there i)) (λ y i. k y (there i)))
