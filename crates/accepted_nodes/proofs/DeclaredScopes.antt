-- The scopes of the declarations that an expression names: of variables, fields and results, as a use sees them.
use Rattle.std.proofs.Common.{◌≡◌, ℕ, List, refl, sym, ap, ◌∙◌, Option, Some, None, Bool, true, false, not, ◌||◌, ◌&&◌, true≢false, option_and_then, option_map, slice_get, if◌then◌else◌}
use Rattle.scj_base.specs.Bytes.{is_same}
use Rattle.scj_tree.specs.declared.nodes.Node.{Node}
use Rattle.scj_tree.specs.declared.nodes.Node.TheVariants.{Parameter, Local, LocalWithValue}
use Rattle.scj_tree.specs.Forest.{Forest, IsForest}
use Rattle.scj_rules.specs.declared.scopes.ClassScope.{ClassScope}
use Rattle.scj_rules.specs.declared.scopes.ClassScope.TheVariants.{Unannotated as unannotated, Annotated as annotated, Missing as scopeless}
use Rattle.scj_rules.specs.declared.scopes.Resolution.{Resolution}
use Rattle.scj_rules.specs.declared.scopes.Resolution.TheVariants.{Resolved as resolved, Unresolved as unresolved}
use Rattle.scj_rules.specs.declared.scopes.ScopedDeclaration.{ScopedDeclaration}
use Rattle.scj_rules.specs.declared.scopes.Written.{Written}
use Rattle.scj_rules.specs.declared.typing.Scope.{Scope}
use Rattle.scj_rules.specs.declared.typing.Scope.TheVariants.{This, Caller, In, Unknown}
use Rattle.scj_rules.specs.declared.typing.Ty.{Ty}
use Rattle.scj_rules.specs.declared.typing.Ty.TheVariants.{Int, Bool as Boolean, Void, Label}
use Rattle.scj_rules.specs.declared.views.Declared.{Declared}
use Rattle.scj_rules.specs.declared.views.WrittenType.{WrittenType}
use Rattle.scj_rules.specs.declared.views.WrittenType.TheVariants.{Boolean as boolean_type, Int as int_type, Long as long_type, Text as text_type, Void as void_type}
use Rattle.scj_rules.specs.Words.{holds}
use Rattle.scj_rules.specs.Views.{DeclaredMethod, variable_at, variable_of}
use Rattle.scj_rules.specs.Contexts.{Declarations, declarations_of, context, is_static_member}
use Rattle.scj_rules.specs.ScopeRules.{immortal_scope, scope_number}
use Rattle.scj_rules.specs.StaticScopes.{are_same_scope, class_scope, scope_or, this_in, this_name, caller_name, unknown_name, resolved_or_missing, resolved_scope, resolve_name, runs_in, free_runs_in, fixed_for, has_wrong_runs_in, current_in, has_no_scope, type_scope, is_unannotated, denotes_nothing, is_unknown_scope, contradicts, scope_as_written, declaration_scope, scoped_in_member, scoped_variable, scoped_result, scoped_field, suits_field, misfits_field, field_scope, is_outer_of, resolve_at}
use Rattle.scj_rules.specs.AnnotationRules.{scoped_variable_at, scoped_declaration_at, result_scope}
use Rattle.scj_rules.specs.Types.{type_written, is_reference}
use Rattle.scj_rules.specs.UseRules.{variable_scope_at}
use Rattle.scj_rules.specs.Phases.{IsAccepted}
use Rattle.accepted_laws.specs.Judgements.{HasScope}
use Rattle.accepted_laws.specs.Sorts.{IsWellSorted}
use Rattle.accepted_laws.proofs.DeclarationScopes.{declaration_has_scope}
use Rattle.accepted_nodes.proofs.Uses.{same_scope}
use Rattle.accepted_laws.proofs.Tools.{some_inj}

-- a declaration whose type is a reference has a scope
pub reference_has_scope : (names : List (List ℕ)) (w : WrittenType) (t : Ty) → type_written names w ≡ Some t → is_reference t ≡ true → has_no_scope w ≡ false
unfolding type_written is_reference has_no_scope
reference_has_scope names int_type t e r = absurd (true≢false (sym (ap is_reference (some_inj Int t e) ∙ r)))
reference_has_scope names boolean_type t e r = absurd (true≢false (sym (ap is_reference (some_inj Boolean t e) ∙ r)))
reference_has_scope names void_type t e r = absurd (true≢false (sym (ap is_reference (some_inj Void t e) ∙ r)))
reference_has_scope names long_type t e r = absurd (cc (e))
reference_has_scope names text_type t e r = absurd (true≢false (sym (ap is_reference (some_inj Label t e) ∙ r)))
reference_has_scope names _ t e r = refl

and_true : (a b : Bool) → (a && b) ≡ true → (a ≡ true) × (b ≡ true)
and_true true b e = (refl, e)
and_true false b e = absurd (true≢false (sym e))

pub scope_or_has : (s : ClassScope) (o : Option Scope) → (s ≡ scopeless → ⊥) → HasScope o → HasScope (scope_or s o)
scope_or_has unannotated o k h = h
scope_or_has (annotated n) o k h = (In n, refl)
scope_or_has scopeless o k h = absurd (k refl)

module _ (p : Declarations) where
  -- ---- fields

  -- the scope of a field suits it
  pub field_suits : (class : ℕ) (f : Declared) (s : Scope) → field_scope p class f ≡ Some s → suits_field p (class_scope p class) f.modifiers.is_static s ≡ true
  unfolding field_scope misfits_field
  field_suits class f s e = go (declaration_scope p (scoped_field p class f)) e
    where
      none : (t : Bool) → (if t then None else None) ≡ Some s → ⊥
      none true e = cc (e)
      none false e = cc (e)

      some : (r : Scope) (t : Bool) → suits_field p (class_scope p class) f.modifiers.is_static r ≡ t → (if not t then None else Some r) ≡ Some s → suits_field p (class_scope p class) f.modifiers.is_static s ≡ true
      some r true k e = ap (suits_field p (class_scope p class) f.modifiers.is_static) (sym (some_inj r s e)) ∙ k
      some r false k e = absurd (cc (e))

      go : (o : Option Scope) → (if holds o (λ s. not (suits_field p (class_scope p class) f.modifiers.is_static s)) then None else o) ≡ Some s → suits_field p (class_scope p class) f.modifiers.is_static s ≡ true
      go None e = absurd (none false e)
      go (Some r) e = some r (suits_field p (class_scope p class) f.modifiers.is_static r) refl e

  -- the scope of a static field is IMMORTAL
  pub static_field_scope : (class : ℕ) (f : Declared) (s : Scope) → f.modifiers.is_static ≡ true → suits_field p (class_scope p class) f.modifiers.is_static s ≡ true → s ≡ In immortal_scope
  unfolding suits_field
  static_field_scope class f s k e = same_scope s (In immortal_scope) (sym (ap (λ t. suits_field p (class_scope p class) t s) k) ∙ e)

  suits_not_caller : (class : ℕ) (k : ClassScope) (t : Bool) → (k ≡ scopeless → ⊥) → suits_field p k t Caller ≡ true → ⊥
  unfolding suits_field are_same_scope is_outer_of
  suits_not_caller class k true n e = true≢false (sym e)
  suits_not_caller class unannotated false n e = true≢false (sym e)
  suits_not_caller class (annotated m) false n e = true≢false (sym e)
  suits_not_caller class scopeless false n e = n refl

  -- a field never lies in CALLER
  pub field_not_caller : (class : ℕ) (f : Declared) → (class_scope p class ≡ scopeless → ⊥) → field_scope p class f ≡ Some Caller → ⊥
  field_not_caller class f k e = suits_not_caller class (class_scope p class) f.modifiers.is_static k (field_suits class f Caller e)

  -- ---- results of static methods

  caller_not_this : Some Caller ≡ Some This → ⊥
  caller_not_this e = (let f : Caller ≡ This = some_inj Caller This e in cc (f))

  in_not_this : (n : ℕ) → Some (In n) ≡ Some This → ⊥
  in_not_this n e = (let f : In n ≡ This = some_inj (In n) This e in cc (f))

  none_not_this : None ≡ Some This → ⊥
  none_not_this e = cc (e)

  static_runs_in : (class : ℕ) (m : DeclaredMethod) → m.declared.modifiers.is_static ≡ true → runs_in p class m ≡ Some This → ⊥
  unfolding runs_in
  static_runs_in class m k e = go (has_wrong_runs_in p class m) e
    where
      inner : Option Scope
      inner = elim (fixed_for p class m.declared.name) [ Some s ↦ Some s | None ↦ free_runs_in p class m.declared.modifiers.runs_in ]

      go : (t : Bool) → (if t then None else (if m.declared.modifiers.is_static then Some Caller else inner)) ≡ Some This → ⊥
      go true e = none_not_this e
      go false e = caller_not_this (sym (ap (λ t. if t then Some Caller else inner) k) ∙ e)

  this_unannotated : (class : ℕ) → this_in p class ≡ Some This → is_unannotated (class_scope p class) ≡ true
  unfolding this_in is_unannotated
  this_unannotated class e = go (class_scope p class) e
    where
      go : (s : ClassScope) → scope_or s (Some This) ≡ Some This → is_unannotated s ≡ true
      go unannotated e = refl
      go (annotated n) e = absurd (in_not_this n e)
      go scopeless e = absurd (none_not_this e)

  resolved_is : (o : Option Scope) → resolved_scope (resolved_or_missing o) ≡ o
  resolved_is None = refl
  resolved_is (Some s) = refl

  -- no annotation of a declaration of a static member denotes THIS
  written_this : (t : ScopedDeclaration) (w : Written) → t.is_static ≡ true → (t.current ≡ Some This → ⊥) → resolved_scope (resolve_at p t w.name) ≡ Some This → ⊥
  unfolding resolve_at resolve_name denotes_nothing
  written_this t w k c e = by_unknown (is_same w.name unknown_name) t.is_variable e
    where
      number : (o : Option ℕ) → resolved_scope (elim o as (λ _. Resolution) [ None ↦ unresolved | Some s ↦ resolved (In s) ]) ≡ Some This → ⊥
      number None e = none_not_this e
      number (Some n) e = in_not_this n e

      name : Bool → Bool → Resolution
      name a b = if a then resolved_or_missing (this_in p t.class) else (if b then resolved_or_missing t.current else (elim (scope_number p w.name) as (λ _. Resolution) [ None ↦ unresolved | Some s ↦ resolved (In s) ]))

      by_this : (nothing static_ unannotated_ : Bool) → static_ ≡ true → (static_ && unannotated_) ≡ nothing →
          (this_in p t.class ≡ Some This → unannotated_ ≡ true) →
          resolved_scope (if nothing then unresolved else resolved_or_missing (this_in p t.class)) ≡ Some This → ⊥
      by_this true static_ unannotated_ k s u e = none_not_this e
      by_this false static_ unannotated_ k s u e =
          let a : this_in p t.class ≡ Some This = sym (resolved_is (this_in p t.class)) ∙ e in
          true≢false (sym (ap (λ x. x && unannotated_) k ∙ u a) ∙ s)

      by_name : (a b nothing : Bool) → (if a then t.is_static && is_unannotated (class_scope p t.class) else (b && t.is_field)) ≡ nothing →
          resolved_scope (if nothing then unresolved else name a b) ≡ Some This → ⊥
      by_name true b nothing h e = by_this nothing t.is_static (is_unannotated (class_scope p t.class)) k h (this_unannotated t.class) e
      by_name a b true h e = none_not_this e
      by_name false true false h e = c (sym (resolved_is t.current) ∙ e)
      by_name false false false h e = number (scope_number p w.name) e

      by_unknown : (u v : Bool) → resolved_scope (if u then (if v then resolved Unknown else unresolved) else (if (if is_same w.name this_name then t.is_static && is_unannotated (class_scope p t.class) else (is_same w.name caller_name && t.is_field)) then unresolved else name (is_same w.name this_name) (is_same w.name caller_name))) ≡ Some This → ⊥
      by_unknown true true e = (let f : Unknown ≡ This = some_inj Unknown This e in cc (f))
      by_unknown true false e = none_not_this e
      by_unknown false v e = by_name (is_same w.name this_name) (is_same w.name caller_name) _ refl e

  -- what a static method takes and gives never lies in THIS
  pub static_not_this : (is_variable : Bool) (class : ℕ) (m : DeclaredMethod) (d : Declared) → m.declared.modifiers.is_static ≡ true → declaration_scope p (scoped_in_member is_variable class (runs_in p class m) m.declared.modifiers.is_static d) ≡ Some This → ⊥
  unfolding declaration_scope scope_as_written
  static_not_this is_variable class m d k e = by_kind (has_no_scope t.declared_type) e
    where
      t : ScopedDeclaration
      t = scoped_in_member is_variable class (runs_in p class m) m.declared.modifiers.is_static d

      as_written : (o : Option Written) → holds o (λ w. is_unknown_scope p t w || contradicts p t w) ≡ false → (elim o as (λ _. Option Scope) [ None ↦ t.default | Some w ↦ resolved_scope (resolve_at p t w.name) ]) ≡ Some This → ⊥
      as_written None h e = static_runs_in class m k e
      as_written (Some w) h e = written_this t w k (static_runs_in class m k) e

      by_class : (s : ClassScope) → holds t.scope (λ w. is_unknown_scope p t w || contradicts p t w) ≡ false → scope_or s (elim t.scope as (λ _. Option Scope) [ None ↦ t.default | Some w ↦ resolved_scope (resolve_at p t w.name) ]) ≡ Some This → ⊥
      by_class unannotated h e = as_written t.scope h e
      by_class (annotated n) h e = in_not_this n e
      by_class scopeless h e = none_not_this e

      by_right : (b : Bool) → holds t.scope (λ w. is_unknown_scope p t w || contradicts p t w) ≡ b → (if not b then scope_or (type_scope p t.declared_type) (elim t.scope as (λ _. Option Scope) [ None ↦ t.default | Some w ↦ resolved_scope (resolve_at p t w.name) ]) else None) ≡ Some This → ⊥
      by_right true h e = none_not_this e
      by_right false h e = by_class (type_scope p t.declared_type) h e

      by_kind : (b : Bool) → (if b then None else (if not (holds t.scope (λ w. is_unknown_scope p t w || contradicts p t w)) then scope_or (type_scope p t.declared_type) (elim t.scope as (λ _. Option Scope) [ None ↦ t.default | Some w ↦ resolved_scope (resolve_at p t w.name) ]) else None)) ≡ Some This → ⊥
      by_kind true e = none_not_this e
      by_kind false e = by_right (holds t.scope (λ w. is_unknown_scope p t w || contradicts p t w)) refl e

  pub static_result_not_this : (class : ℕ) (m : DeclaredMethod) → m.declared.modifiers.is_static ≡ true → result_scope p class m ≡ Some This → ⊥
  static_result_not_this class m k e = static_not_this false class m m.declared k e

module _ (forest : Forest) (accepted : IsAccepted forest) (whole : IsForest forest) (sorted : IsWellSorted forest.nodes) where
  abbrev q : Declarations
  q = declarations_of forest

  -- ---- variables

  pub at_variable : (v b c : ℕ) (d : Declared) → (context q v).class ≡ Some c → (context q v).member ≡ Some b → variable_at q.nodes v ≡ Some d → scoped_variable_at q v ≡ Some (scoped_variable c (current_in q c b) (is_static_member q.nodes b) d)
  unfolding scoped_variable_at
  at_variable v b c d ec em e =
      ap (λ (o : Option ℕ). option_and_then (λ class. option_and_then (λ member. option_map (λ (d : Declared). scoped_variable class (current_in q class member) (is_static_member q.nodes member) d) (variable_at q.nodes v)) (context q v).member) o) ec
      ∙ ap (λ (o : Option ℕ). option_and_then (λ member. option_map (λ (d : Declared). scoped_variable c (current_in q c member) (is_static_member q.nodes member) d) (variable_at q.nodes v)) o) em
      ∙ ap (option_map (λ (d : Declared). scoped_variable c (current_in q c b) (is_static_member q.nodes b) d)) e

  scoped_there : (v b c : ℕ) (node : Node) (d : Declared) → slice_get q.nodes v ≡ Some node → variable_of q.nodes v node ≡ Some d → (context q v).class ≡ Some c → (context q v).member ≡ Some b
      → (scoped_declaration_at q v node ≡ scoped_variable_at q v) × (scoped_variable_at q v ≡ Some (scoped_variable c (current_in q c b) (is_static_member q.nodes b) d))
  unfolding variable_of scoped_declaration_at scoped_variable_at
  scoped_there v b c (Parameter position name flags declared_type) d there is ec em = (refl, at_variable v b c d ec em (ap (option_and_then (variable_of q.nodes v)) there ∙ is))
  scoped_there v b c (Local position name flags declared_type) d there is ec em = (refl, at_variable v b c d ec em (ap (option_and_then (variable_of q.nodes v)) there ∙ is))
  scoped_there v b c (LocalWithValue position name_position name flags declared_type value) d there is ec em = (refl, at_variable v b c d ec em (ap (option_and_then (variable_of q.nodes v)) there ∙ is))
  scoped_there v b c _ d there is ec em = absurd (cc (is))

  -- a variable of a body, whose type is a reference, has a scope
  pub variable_has_scope : (v b c : ℕ) (d : Declared) (t : Ty) → variable_at q.nodes v ≡ Some d → (context q v).class ≡ Some c → (context q v).member ≡ Some b → type_written q.names d.declared_type ≡ Some t → is_reference t ≡ true → HasScope (variable_scope_at q v)
  variable_has_scope v b c d t e ec em typed r = go (slice_get q.nodes v) refl e
    where
      go : (o : Option Node) → slice_get q.nodes v ≡ o → option_and_then (variable_of q.nodes v) o ≡ Some d → HasScope (variable_scope_at q v)
      go None there e = absurd (cc (e))
      go (Some node) there e =
          let s = scoped_there v b c node d there e ec em in
          let h = declaration_has_scope forest accepted whole sorted v node (scoped_variable c (current_in q c b) (is_static_member q.nodes b) d) there (s.0 ∙ s.1) (reference_has_scope q.names d.declared_type t typed r) in
          (h.0, ap (option_and_then (declaration_scope q)) s.1 ∙ h.1)
