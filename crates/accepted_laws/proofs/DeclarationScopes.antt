-- In an accepted program no scope is missing: each class, method, variable, field and result has one, as far as its values
-- are references.
use Rattle.std.proofs.Common.{◌≡◌, ℕ, ◌<◌, ◌≤◌, zero, suc, List, [], ◌∷◌, length, refl, sym, ap, ◌∙◌, subst, arith, Option, Some, None, Bool, true, false, ◌||◌, true≢false, slice_get, option_and_then, option_map, if◌then◌else◌, nat_lt}
use Rattle.std.proofs.lemmas.Bool.Decides.{nat_tests}
use Rattle.scj_base.specs.declared.findings.Rule.{Rule}
use Rattle.scj_base.specs.declared.findings.Rule.TheVariants.{A1, A7, A8, A9}
use Rattle.scj_base.specs.declared.positions.Position.{Position}
use Rattle.scj_tree.specs.declared.nodes.Node.{Node}
use Rattle.scj_tree.specs.declared.nodes.Node.TheVariants.{Class, Field, Method, Parameter, Local, LocalWithValue}
use Rattle.scj_tree.specs.Forest.{Forest, IsForest}
use Rattle.scj_rules.specs.declared.scopes.ClassScope.TheVariants.{Unannotated as unannotated, Annotated as annotated, Missing as scopeless}
use Rattle.scj_rules.specs.declared.scopes.ScopedDeclaration.{ScopedDeclaration}
use Rattle.scj_rules.specs.declared.scopes.Written.{Written}
use Rattle.scj_rules.specs.declared.typing.Scope.{Scope}
use Rattle.scj_rules.specs.declared.typing.Scope.TheVariants.{In}
use Rattle.scj_rules.specs.declared.views.Declared.{Declared}
use Rattle.scj_rules.specs.Words.{chain, found_at, holds}
use Rattle.scj_rules.specs.Views.{WrittenClass, DeclaredMethod, variable_at, field_at, method_at}
use Rattle.scj_rules.specs.Classes.{ClassRow, superclass_in, superclasses}
use Rattle.scj_rules.specs.Contexts.{Declarations, declarations_of, context, is_static_member}
use Rattle.scj_rules.specs.ScopeRules.{immortal_scope, scope_written_in}
use Rattle.scj_rules.specs.StaticScopes.{has_unknown_scope, differs_from_above, is_implied_immortal, scope_of_right_class, class_scope_under, class_scope_on, class_scope, this_in, has_no_scope, is_unknown_scope, contradicts, scoped_variable, scoped_result, scoped_field, declaration_scope, runs_in, current_in, has_unknown_runs_in, has_other_runs_in}
use Rattle.scj_rules.specs.AnnotationRules.{scoped_variable_at, scoped_declaration_at, a1, a6_of, a7_and_a8_of, a9, broken_value}
use Rattle.scj_rules.specs.Phases.{IsAccepted}
use Rattle.accepted_laws.specs.Judgements.{HasScope}
use Rattle.accepted_laws.specs.Sorts.{IsWellSorted}
use Rattle.accepted_laws.proofs.Breaks.{both_empty, right, no_break_at_node}
use Rattle.accepted_laws.proofs.Dispatch.{methods_unbroken}
use Rattle.accepted_laws.proofs.MethodNodes.{method_node}
use Rattle.accepted_laws.proofs.KnownScopes.{Known, this_known, declaration_known, runs_in_known}
use Rattle.accepted_laws.proofs.MemberContexts.{member_is}
use Rattle.accepted_laws.proofs.ScopesOfClasses.{class_scope_known, no_annotation_break}
use Rattle.accepted_laws.proofs.Subtypes.{some_classes}
use Rattle.accepted_laws.proofs.Tools.{some_inj}

get_none : {A : Type 0} (xs : List A) (k : ℕ) → length xs ≤ k → slice_get xs k ≡ None
get_none [] k l = refl
get_none (x ∷ xs) zero l = absurd (omega (arith, l))
get_none (x ∷ xs) (suc k) l = get_none xs k (omega (arith, l))

chain_alone : (next : ℕ → Option ℕ) (n a : ℕ) → 0 < n → next a ≡ None → chain next n a ≡ a ∷ []
unfolding chain
chain_alone next zero a l e = absurd (omega (arith, l))
chain_alone next (suc n) a l e = ap (λ (o : Option ℕ). a ∷ (elim o as (λ _. List ℕ) [ None ↦ [] | Some b ↦ chain next n b ])) e

both_false : (o : Option Written) (f g : Written → Bool) (r s : Rule) → broken_value o f r ≡ [] → broken_value o g s ≡ [] → holds o (λ w. f w || g w) ≡ false
both_false None f g r s e h = refl
both_false (Some w) f g r s e h = ap (λ t. t || g w) (right (f w) r w.position e) ∙ right (g w) s w.position h

-- neither A1 nor A9 is broken at a declaration
declared_right : (p : Declarations) (t : ScopedDeclaration) (o : Option ScopedDeclaration) → o ≡ Some t → found_at o (λ t. broken_value t.scope (is_unknown_scope p t) A1) ≡ [] → found_at o (λ t. broken_value t.scope (contradicts p t) A9) ≡ []
    → holds t.scope (λ w. is_unknown_scope p t w || contradicts p t w) ≡ false
declared_right p t o e h k =
    both_false t.scope (is_unknown_scope p t) (contradicts p t) A1 A9
    (sym (ap (λ (o : Option ScopedDeclaration). found_at o (λ t. broken_value t.scope (is_unknown_scope p t) A1)) e) ∙ h)
    (sym (ap (λ (o : Option ScopedDeclaration). found_at o (λ t. broken_value t.scope (contradicts p t) A9)) e) ∙ k)

class_declares_none : (p : Declarations) (id : ℕ) (position : Position) (name : List ℕ) (flags header : Option ℕ) (members : List ℕ) (t : ScopedDeclaration) → scoped_declaration_at p id (Class position name flags header members) ≡ Some t → ⊥
unfolding scoped_declaration_at
class_declares_none p id position name flags header members t e = cc (e)

right_declaration : (p : Declarations) (id : ℕ) (node : Node) (t : ScopedDeclaration) → scoped_declaration_at p id node ≡ Some t → a1 p id node ≡ [] → a9 p id node ≡ [] → holds t.scope (λ w. is_unknown_scope p t w || contradicts p t w) ≡ false
unfolding a1 a9
right_declaration p id (Class position name flags header members) t e h k = absurd (class_declares_none p id position name flags header members t e)
right_declaration p id (Field position name flags declared_type equals value) t e h k = declared_right p t _ e h k
right_declaration p id (Method position name flags result_type parameters body) t e h k = declared_right p t _ e h k
right_declaration p id (Parameter position name flags declared_type) t e h k = declared_right p t _ e h k
right_declaration p id (Local position name flags declared_type) t e h k = declared_right p t _ e h k
right_declaration p id (LocalWithValue position name_position name flags declared_type value) t e h k = declared_right p t _ e h k
right_declaration p id _ t e h k = declared_right p t _ e h k

module _ (forest : Forest) (accepted : IsAccepted forest) (whole : IsForest forest) (sorted : IsWellSorted forest.nodes) where
  abbrev p : Declarations
  p = declarations_of forest

  -- what is no class is unannotated, or lies in IMMORTAL
  no_class_known : (class : ℕ) → length p.classes ≤ class → class_scope p class ≡ scopeless → ⊥
  unfolding class_scope superclasses class_scope_on class_scope_under scope_written_in differs_from_above scope_of_right_class
  no_class_known class l e =
      let none : slice_get p.classes class ≡ None = get_none p.classes class l in
      let next : superclass_in p.classes class ≡ None = ap (λ (o : Option ClassRow). option_and_then (λ (row : ClassRow). row.superclass) o) none in
      let w : scope_written_in p class ≡ None = ap (λ (o : Option ClassRow). option_and_then (λ (c : WrittenClass). c.modifiers.scope) (option_and_then (λ (row : ClassRow). row.written) o)) none in
      not_unknown (is_implied_immortal p class)
      (sym (ap (class_scope_on p) (chain_alone (superclass_in p.classes) (length p.classes) class (some_classes forest accepted) next)
      ∙ ap (λ w. if has_unknown_scope p w || differs_from_above p w unannotated (is_implied_immortal p class) then scopeless else scope_of_right_class p w unannotated (is_implied_immortal p class)) w) ∙ e)
    where
      not_unknown : (t : Bool) → (if t then annotated immortal_scope else unannotated) ≡ scopeless → ⊥
      not_unknown true e = cc (e)
      not_unknown false e = cc (e)

  -- no scope of a class is missing
  pub all_known : Known p
  all_known class e = go (nat_lt class (length p.classes)) refl
    where
      go : (t : Bool) → nat_lt class (length p.classes) ≡ t → ⊥
      go true h = (let l : class < length p.classes = grind (arith, nat_tests) in class_scope_known forest accepted whole sorted class l e)
      go false h = (let l : length p.classes ≤ class = grind (arith, nat_tests) in no_class_known class l e)

  -- THIS has a scope in each class
  pub this_has_scope : (class : ℕ) → HasScope (this_in p class)
  this_has_scope class = this_known p all_known class

  -- each method runs in a scope
  pub runs_in_has_scope : (class id : ℕ) (m : DeclaredMethod) → method_at p.nodes id ≡ Some m → (context p id).class ≡ Some class → HasScope (runs_in p class m)
  unfolding a7_and_a8_of
  runs_in_has_scope class id m e c =
      let n = method_node p.nodes id m e in
      let b = both_empty (a6_of p class m) (a7_and_a8_of p class m) (methods_unbroken forest accepted whole sorted class id n.node m n.is_there n.is c) in
      let r = both_empty (broken_value m.declared.modifiers.runs_in (has_unknown_runs_in p m) A7) (broken_value m.declared.modifiers.runs_in (has_other_runs_in p class m) A8) b.1 in
      runs_in_known p all_known class m (both_false m.declared.modifiers.runs_in (has_unknown_runs_in p m) (has_other_runs_in p class m) A7 A8 r.0 r.1)

  -- a scope is current in each member
  pub current_has_scope : (class member : ℕ) → (context p member).class ≡ Some class → HasScope (current_in p class member)
  unfolding current_in
  current_has_scope class member c = go (method_at p.nodes member) refl
    where
      go : (o : Option DeclaredMethod) → method_at p.nodes member ≡ o → HasScope (elim o as (λ _. Option Scope) [ Some m ↦ runs_in p class m | None ↦ this_in p class ])
      go None e = this_has_scope class
      go (Some m) e = runs_in_has_scope class member m e c

  -- the defaults of a declaration
  pub record HasDefaults (t : ScopedDeclaration) : Type 0 where
    pub default : HasScope t.default
    pub current : t.is_field ≡ false → HasScope t.current

  field_defaults : (id : ℕ) (t : ScopedDeclaration) (c : Option ℕ) (o : Option Declared) → option_and_then (λ class. option_map (λ (f : Declared). scoped_field p class f) o) c ≡ Some t → HasDefaults t
  field_defaults id t None o e = absurd (cc (e))
  field_defaults id t (Some class) None e = absurd (cc (e))
  field_defaults id t (Some class) (Some f) e = subst HasDefaults (some_inj _ t e) (record { default = go f.modifiers.is_static; current = λ h. absurd (true≢false h) })
    where
      go : (b : Bool) → HasScope (if b then Some (In immortal_scope) else this_in p class)
      go true = (In immortal_scope, refl)
      go false = this_has_scope class

  method_defaults : (id : ℕ) (t : ScopedDeclaration) (c : Option ℕ) → (context p id).class ≡ c → (o : Option DeclaredMethod) → method_at p.nodes id ≡ o → option_and_then (λ class. option_map (λ (m : DeclaredMethod). scoped_result p class m) o) c ≡ Some t → HasDefaults t
  method_defaults id t None k o h e = absurd (cc (e))
  method_defaults id t (Some class) k None h e = absurd (cc (e))
  method_defaults id t (Some class) k (Some m) h e = (let r = runs_in_has_scope class id m h k in subst HasDefaults (some_inj _ t e) (record { default = r; current = λ _. r }))

  variable_defaults : (id : ℕ) (t : ScopedDeclaration) (c : Option ℕ) → (context p id).class ≡ c → (b : Option ℕ) → (context p id).member ≡ b → (o : Option Declared)
      → option_and_then (λ class. option_and_then (λ member. option_map (λ (d : Declared). scoped_variable class (current_in p class member) (is_static_member p.nodes member) d) o) b) c ≡ Some t → HasDefaults t
  variable_defaults id t None k b m o e = absurd (cc (e))
  variable_defaults id t (Some class) k None m o e = absurd (cc (e))
  variable_defaults id t (Some class) k (Some member) m None e = absurd (cc (e))
  variable_defaults id t (Some class) k (Some member) m (Some d) e =
      let i = member_is forest whole sorted id member m in
      let r = current_has_scope class member (i.same_class ∙ k) in
      subst HasDefaults (some_inj _ t e) (record { default = r; current = λ _. r })

  defaults : (id : ℕ) (node : Node) (t : ScopedDeclaration) → scoped_declaration_at p id node ≡ Some t → HasDefaults t
  unfolding scoped_declaration_at scoped_variable_at
  defaults id (Field position name flags declared_type equals value) t e = field_defaults id t (context p id).class (field_at p.nodes id) e
  defaults id (Method position name flags result_type parameters body) t e = method_defaults id t (context p id).class refl (method_at p.nodes id) refl e
  defaults id (Parameter position name flags declared_type) t e = variable_defaults id t (context p id).class refl (context p id).member refl (variable_at p.nodes id) e
  defaults id (Local position name flags declared_type) t e = variable_defaults id t (context p id).class refl (context p id).member refl (variable_at p.nodes id) e
  defaults id (LocalWithValue position name_position name flags declared_type value) t e = variable_defaults id t (context p id).class refl (context p id).member refl (variable_at p.nodes id) e
  defaults id _ t e = absurd (cc (e))

  -- each variable, field and result whose values are references has a scope
  pub declaration_has_scope : (id : ℕ) (node : Node) (t : ScopedDeclaration) → slice_get p.nodes id ≡ Some node → scoped_declaration_at p id node ≡ Some t → has_no_scope t.declared_type ≡ false → HasScope (declaration_scope p t)
  declaration_has_scope id node t there e kind =
      let n = no_break_at_node forest accepted id node there in
      let b = no_annotation_break p id node n.no_annotation_rule in
      let d = defaults id node t e in
      declaration_known p all_known t kind (right_declaration p id node t e b.unknown_scope b.contradicting_scope) d.default d.current
