-- Values at single nodes of an accepted program: conditions are boolean, and the value of a local or of a `return` fits where
-- it goes in type and scope.
use Rattle.std.proofs.Common.{◌≡◌, ℕ, List, [], ◌++◌, refl, sym, ap, ◌∙◌, Option, Some, None, false, not, true≢false, option_and_then, option_map, slice_get}
use Rattle.scj_base.specs.declared.findings.Rule.TheVariants.{T2, T7, T8, T13, E4}
use Rattle.scj_base.specs.declared.positions.Position.{Position}
use Rattle.scj_tree.specs.declared.nodes.Node.{Node}
use Rattle.scj_tree.specs.declared.nodes.Node.TheVariants.{If, While, For, LocalWithValue, This as ThisNode}
use Rattle.scj_tree.specs.Forest.{Forest, IsForest}
use Rattle.scj_rules.specs.declared.typing.Ty.{Ty}
use Rattle.scj_rules.specs.declared.typing.Ty.TheVariants.{Int, Bool as Boolean, Void, NullTy, Label, Class as ClassTy, IntArray, BoolArray, ClassArray}
use Rattle.scj_rules.specs.declared.typing.Scope.{Scope}
use Rattle.scj_rules.specs.declared.typing.Scope.TheVariants.{Any, This, Caller, In, Unknown, Lost}
use Rattle.scj_rules.specs.Words.{broken, holds}
use Rattle.scj_rules.specs.Views.{position_at, variable_at, variable_of}
use Rattle.scj_rules.specs.Contexts.{Declarations, declarations_of, has_object}
use Rattle.scj_rules.specs.Types.{assigns, are_same, is_boolean}
use Rattle.scj_rules.specs.TypeRules.{t1, t2, t3, t4, t5, t6, t7, t8, t9, t10, t11, t12, t13, t14, type_breaks, type_of, misfits_initial_value, written_type, declared_type_of, is_declared_already}
use Rattle.scj_rules.specs.UseRules.{e1, e2, e3, e4_and_e5, e6, e7, e8, e9, e10, use_breaks, scope_of, misfit_scope, variable_scope_at}
use Rattle.scj_rules.specs.StaticScopes.{beside, substitute, this_in}
use Rattle.scj_rules.specs.Phases.{IsAccepted}
use Rattle.accepted_laws.specs.Judgements.{type_at_node, scope_at_node, Judged, Inside, OwnObject}
use Rattle.accepted_laws.specs.Kinds.{Kind, reference, kind_of, kind_of_variable, Fits, IsRealKind}
use Rattle.accepted_laws.specs.Sorts.{IsWellSorted}
use Rattle.accepted_laws.proofs.Breaks.{both_empty, right, no_break_at_node, type_phase_empty}
use Rattle.accepted_laws.proofs.DeclarationScopes.{this_has_scope}
use Rattle.accepted_laws.proofs.Judged.{scopes_are, has_object_static}
use Rattle.accepted_laws.proofs.Typed.{types_are, behind_children}
use Rattle.accepted_nodes.proofs.Uses.{fits_where_passed}

pub boolean_is : (t : Ty) → not (is_boolean t) ≡ false → t ≡ Boolean
unfolding are_same
boolean_is Boolean e = refl
boolean_is Int e = absurd (true≢false e)
boolean_is Void e = absurd (true≢false e)
boolean_is NullTy e = absurd (true≢false e)
boolean_is Label e = absurd (true≢false e)
boolean_is (ClassTy c) e = absurd (true≢false e)
boolean_is IntArray e = absurd (true≢false e)
boolean_is BoolArray e = absurd (true≢false e)
boolean_is (ClassArray c) e = absurd (true≢false e)

-- seen from inside, a scope is as it is
pub own_view : (r : Option Scope) → option_and_then (substitute (Some This) (Some Caller)) r ≡ r
unfolding substitute beside
own_view None = refl
own_view (Some This) = refl
own_view (Some Any) = refl
own_view (Some Caller) = refl
own_view (Some (In n)) = refl
own_view (Some Unknown) = refl
own_view (Some Lost) = refl

-- what has a kind has a type
pub typed_of : (o : Option Ty) (s : Option Scope) (k : Kind) → kind_of o s ≡ Some k → (t : Ty) × (o ≡ Some t)
unfolding kind_of
typed_of None s k e = absurd (cc (e))
typed_of (Some t) s k e = (t, refl)

module _ (forest : Forest) (accepted : IsAccepted forest) where
  abbrev p : Declarations
  p = declarations_of forest

  condition_boolean : (condition : ℕ) (t : Ty) → broken (holds (type_at_node p condition) (λ t. not (is_boolean t))) T8 (position_at p.nodes condition) ++ [] ≡ [] → type_at_node p condition ≡ Some t → t ≡ Boolean
  condition_boolean condition t e h =
      boolean_is t (sym (ap (λ (o : Option Ty). holds o (λ t. not (is_boolean t))) h)
      ∙ right (holds (type_at_node p condition) (λ t. not (is_boolean t))) T8 (position_at p.nodes condition) (both_empty (broken (holds (type_at_node p condition) (λ t. not (is_boolean t))) T8 (position_at p.nodes condition)) [] e).0)

  -- the condition of an `if` is boolean
  pub if_condition : (id : ℕ) (position : Position) (condition then_part : ℕ) (else_part : Option ℕ) (t : Ty) → slice_get p.nodes id ≡ Some (If position condition then_part else_part) → type_at_node p condition ≡ Some t → t ≡ Boolean
  unfolding type_breaks t1 t2 t3 t4 t5 t6 t7 t8 t9 t10 t11 t12 t13 t14
  if_condition id position condition then_part else_part t there h =
      let n = no_break_at_node forest accepted id (If position condition then_part else_part) there in condition_boolean condition t n.no_type_rule h

  -- the condition of a `while` is boolean
  pub while_condition : (id : ℕ) (position : Position) (condition body : ℕ) (t : Ty) → slice_get p.nodes id ≡ Some (While position condition body) → type_at_node p condition ≡ Some t → t ≡ Boolean
  unfolding type_breaks t1 t2 t3 t4 t5 t6 t7 t8 t9 t10 t11 t12 t13 t14
  while_condition id position condition body t there h =
      let n = no_break_at_node forest accepted id (While position condition body) there in condition_boolean condition t n.no_type_rule h

  -- the condition of a `for` is boolean
  pub for_condition : (id : ℕ) (position : Position) (first condition step body : ℕ) (t : Ty) → slice_get p.nodes id ≡ Some (For position first condition step body) → type_at_node p condition ≡ Some t → t ≡ Boolean
  unfolding type_breaks t1 t2 t3 t4 t5 t6 t7 t8 t9 t10 t11 t12 t13 t14
  for_condition id position first condition step body t there h =
      let n = no_break_at_node forest accepted id (For position first condition step body) there in condition_boolean condition t n.no_type_rule h

  variable_is : (id : ℕ) (position name_position : Position) (name : List ℕ) (flags : Option ℕ) (declared_type value : ℕ) → slice_get p.nodes id ≡ Some (LocalWithValue position name_position name flags declared_type value)
      → option_and_then (declared_type_of p) (variable_at p.nodes id) ≡ written_type p declared_type
  unfolding variable_of
  variable_is id position name_position name flags declared_type value there =
      ap (λ (o : Option Node). option_and_then (declared_type_of p) (option_and_then (variable_of p.nodes id) o)) there

  -- the value with which a local is declared fits the local
  pub initial_value_fits : (id : ℕ) (position name_position : Position) (name : List ℕ) (flags : Option ℕ) (declared_type value : ℕ) → slice_get p.nodes id ≡ Some (LocalWithValue position name_position name flags declared_type value)
      → (j k : Kind) → Judged p value (Some j) → kind_of_variable p id ≡ Some k → IsRealKind k → Fits p This Caller j k
  unfolding Judged kind_of_variable type_breaks t1 t2 t3 t4 t5 t6 t7 t8 t9 t10 t11 t12 t13 t14 use_breaks e1 e2 e3 e4_and_e5 e6 e7 e8 e9 e10
  initial_value_fits id position name_position name flags declared_type value there j k ej ek real_ =
      let n = no_break_at_node forest accepted id (LocalWithValue position name_position name flags declared_type value) there in
      let after = both_empty (broken (is_declared_already p id name) T2 name_position) (broken (misfits_initial_value p (type_at_node p) declared_type value) T7 position ++ []) n.no_type_rule in
      let types = right (misfits_initial_value p (type_at_node p) declared_type value) T7 position (both_empty (broken (misfits_initial_value p (type_at_node p) declared_type value) T7 position) [] after.1).0 in
      let scopes = right (misfit_scope (scope_at_node p value) (variable_scope_at p id)) E4 position (both_empty (broken (misfit_scope (scope_at_node p value) (variable_scope_at p id)) E4 position) [] n.no_use_rule).0 in
      let t = typed_of (type_at_node p value) (scope_at_node p value) j ej in
      let ek2 : kind_of (written_type p declared_type) (variable_scope_at p id) ≡ Some k = ap (λ (o : Option Ty). kind_of o (variable_scope_at p id)) (sym (variable_is id position name_position name flags declared_type value there)) ∙ ek in
      let u = typed_of (written_type p declared_type) (variable_scope_at p id) k ek2 in
      let fit : not (assigns p.classes t.0 u.0) ≡ false =
      sym (ap (λ (o : Option Ty). holds o (λ u. holds (type_at_node p value) (λ v. not (assigns p.classes v u)))) u.1 ∙ ap (λ (o : Option Ty). holds o (λ v. not (assigns p.classes v u.0))) t.1) ∙ types in
      fits_where_passed p This Caller tt t.0 u.0 (scope_at_node p value) (variable_scope_at p id) j k
      (ap (λ (o : Option Ty). kind_of o (scope_at_node p value)) (sym t.1) ∙ ej) (ap (λ (o : Option Ty). kind_of o (variable_scope_at p id)) (sym u.1) ∙ ek2) real_ fit
      (ap (misfit_scope (scope_at_node p value)) (own_view (variable_scope_at p id)) ∙ scopes)

  module _ (whole : IsForest forest) (sorted : IsWellSorted forest.nodes) where
    -- `this` stands where there is an object, is of the class around it, and lies where that class's objects lie
    pub this_is_own : (b c id : ℕ) (position : Position) → slice_get p.nodes id ≡ Some (ThisNode position) → Inside p b c id → (own : OwnObject p b c) × Judged p id (Some (reference (ClassTy c) own.home))
    unfolding Judged kind_of type_of scope_of type_breaks t1 t2 t3 t4 t5 t6 t7 t8 t9 t10 t11 t12 t13 t14
    this_is_own b c id position there inside =
        let ts = types_are p (behind_children forest whole) (type_phase_empty forest accepted) id (ThisNode position) there in
        let h = this_has_scope forest accepted whole sorted c in
        let ty : type_at_node p id ≡ Some (ClassTy c) = ts.1 ∙ ap (λ (o : Option ℕ). option_map (λ class. ClassTy class) o) inside.class in
        let sc : scope_at_node p id ≡ Some h.0 = scopes_are p (type_at_node p) (behind_children forest whole) id (ThisNode position) there ∙ ap (λ (o : Option ℕ). option_and_then (this_in p) o) inside.class ∙ h.1 in (
          record { has_object = has_object_static p id b inside.member (right (not (has_object p id)) T13 position (both_empty (broken (not (has_object p id)) T13 position) [] ts.0).0); home = h.0; is_home = h.1 },
          ap (λ (o : Option Ty). kind_of o (scope_at_node p id)) ty ∙ ap (λ (o : Option Scope). kind_of (Some (ClassTy c)) o) sc,
        )
