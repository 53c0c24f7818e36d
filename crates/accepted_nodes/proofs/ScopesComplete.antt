-- In an accepted program each expression in a body whose value is a reference has a static scope: no scope is missing.
use Rattle.std.proofs.Common.{◌≡◌, ℕ, ◌<◌, zero, suc, List, [], ◌∷◌, refl, sym, ap, ◌∙◌, arith, Option, Some, None, Bool, true, false, not, ◌||◌, ◌&&◌, true≢false, inl, inr, option_and_then, option_map, slice_get, if◌then◌else◌, ◌==◌}
use Rattle.scj_base.specs.declared.positions.Position.{Position}
use Rattle.scj_tree.specs.declared.nodes.Node.{Node}
use Rattle.scj_tree.specs.declared.nodes.Node.TheVariants.{Binary, Unary, Cast, Parenthesized, SimpleName, FieldAccess, Call, Element, New, NewArray, Text, Number, True, False, Null, This as ThisNode}
use Rattle.scj_tree.specs.Forest.{Forest, IsForest}
use Rattle.scj_tree.specs.Shape.{children}
use Rattle.scj_rules.specs.declared.scopes.ClassScope.TheVariants.{Missing as scopeless}
use Rattle.scj_rules.specs.declared.typing.FoundField.{FoundField}
use Rattle.scj_rules.specs.declared.typing.Meaning.{Meaning}
use Rattle.scj_rules.specs.declared.typing.Meaning.TheVariants.{Class as a_class, Field as a_field, Nothing as nothing, Variable as a_variable}
use Rattle.scj_rules.specs.declared.typing.Receiver.{Receiver}
use Rattle.scj_rules.specs.declared.typing.Receiver.TheVariants.{Class as the_class, Value as the_value, Own as own_object}
use Rattle.scj_rules.specs.declared.typing.Scope.{Scope}
use Rattle.scj_rules.specs.declared.typing.Scope.TheVariants.{Any, This, Caller, In, Unknown, Lost}
use Rattle.scj_rules.specs.declared.typing.Ty.{Ty}
use Rattle.scj_rules.specs.declared.typing.Ty.TheVariants.{Int, Bool as Boolean, Label, Class as ClassTy, IntArray, BoolArray, ClassArray}
use Rattle.scj_rules.specs.Words.{is_among, holds}
use Rattle.scj_rules.specs.Views.{variable_at, field_of}
use Rattle.scj_rules.specs.Classes.{ClassRow, FoundMethod, class_number, field_named, method_named}
use Rattle.scj_rules.specs.Contexts.{Declarations, declarations_of, context, object_of, variable_named}
use Rattle.scj_rules.specs.ScopeRules.{immortal_scope}
use Rattle.scj_rules.specs.StaticScopes.{beside, class_scope, this_in, substitute, field_scope, current_in}
use Rattle.scj_rules.specs.AnnotationRules.{result_scope}
use Rattle.scj_rules.specs.Types.{is_int, is_boolean, is_reference, element_type, binary_type, unary_type, are_comparable, meaning, class_meaning, class_at_name, receiver, call_receiver, class_of_receiver, accessed_field, called_method, names_class, is_no_reference, is_length_of_array, all_types, assigns}
use Rattle.scj_rules.specs.TypeRules.{Types, type_of, type_of_meaning, access_type, call_type, declared_type_of, lacks_object_of_field, lacks_object_of_method, lacks_method, are_related}
use Rattle.scj_rules.specs.UseRules.{Scopes, scope_of, scope_of_meaning, scope_of_field, scope_of_new, scope_of_call, scope_of_element, scope_in_class, receiver_scope, this_at, current_at, variable_scope_at}
use Rattle.scj_rules.specs.Phases.{IsAccepted}
use Rattle.accepted_laws.specs.Judgements.{type_at_node, scope_at_node, HasScope, Inside, IsValue}
use Rattle.accepted_laws.specs.Overriding.{IsUserMethod}
use Rattle.accepted_laws.specs.Sorts.{HasRightChildren, IsWellSorted, is_argument, is_expression}
use Rattle.accepted_laws.proofs.DeclarationScopes.{all_known, this_has_scope, current_has_scope}
use Rattle.accepted_laws.proofs.Judged.{scopes_are}
use Rattle.accepted_laws.proofs.MemberContexts.{member_is}
use Rattle.accepted_laws.proofs.MemberScopes.{field_has_scope, result_has_scope}
use Rattle.accepted_laws.proofs.MemberVariables.{in_scope}
use Rattle.accepted_laws.proofs.Tools.{some_inj}
use Rattle.accepted_laws.proofs.Typed.{behind_children}
use Rattle.accepted_nodes.proofs.DeclaredScopes.{reference_has_scope, scope_or_has, field_suits, static_field_scope, field_not_caller, static_result_not_this, variable_has_scope}
use Rattle.accepted_nodes.proofs.DeclaredTypes.{new_names_class, cast_names_class}
use Rattle.accepted_nodes.proofs.FormParts.{takes_parts}
use Rattle.accepted_nodes.proofs.ValueChildren.{not_first}
use Rattle.scj_rules.proofs.ChainLemmas.{or_right}
use Rattle.accepted_nodes.proofs.FoundMembers.{field_found, reference_of_user}
use Rattle.accepted_nodes.proofs.TypeBreaks.{right_access, RightAccess, right_call, RightCall, right_cast}
use Rattle.accepted_nodes.proofs.TypesComplete.{at_p, type_is, unbroken, ValueAt, value_at, child_at, of_expression, same_first, of_class, variable_meant, ClassOrValue, receiver_cases, method_there, value_has_type, all_typed, all_of}

plain_int : (t : Ty) → Some Int ≡ Some t → is_reference t ≡ false
unfolding is_reference
plain_int t e = ap is_reference (sym (some_inj Int t e))

plain_boolean : (t : Ty) → Some Boolean ≡ Some t → is_reference t ≡ false
unfolding is_reference
plain_boolean t e = ap is_reference (sym (some_inj Boolean t e))

plain_label : (t : Ty) → Some Label ≡ Some t → is_reference t ≡ false
unfolding is_reference
plain_label t e = ap is_reference (sym (some_inj Label t e))

plain_if : (test : Bool) (o : Option Ty) (t : Ty) → (o ≡ Some t → is_reference t ≡ false) → (if test then o else None) ≡ Some t → is_reference t ≡ false
plain_if true o t h e = h e
plain_if false o t h e = absurd (cc (e))

either_if : (test : Bool) (a b : Option Ty) (t : Ty) → (a ≡ Some t → is_reference t ≡ false) → (b ≡ Some t → is_reference t ≡ false) → (if test then a else b) ≡ Some t → is_reference t ≡ false
either_if true a b t h k e = h e
either_if false a b t h k e = k e

-- no operator gives a reference
pub binary_plain : (rows : List ClassRow) (operator : ℕ) (a b t : Ty) → binary_type rows operator a b ≡ Some t → is_reference t ≡ false
unfolding binary_type
binary_plain rows operator a b t e =
    either_if _ _ _ t (plain_if (is_boolean a && is_boolean b) (Some Boolean) t (plain_boolean t))
    (either_if _ _ _ t (plain_if (is_int a && is_int b) (Some Boolean) t (plain_boolean t))
    (either_if _ _ _ t (plain_if (are_comparable rows a b) (Some Boolean) t (plain_boolean t)) (plain_if (is_int a && is_int b) (Some Int) t (plain_int t))))
    e

pub unary_plain : (operator : ℕ) (a t : Ty) → unary_type operator a ≡ Some t → is_reference t ≡ false
unfolding unary_type
unary_plain operator a t e = either_if _ _ _ t (plain_if (is_boolean a) (Some Boolean) t (plain_boolean t)) (plain_if (is_int a) (Some Int) t (plain_int t)) e

pub of_option : {A B : Type 0} (o : Option A) (f : A → Option B) (y : B) → option_and_then f o ≡ Some y → (x : A) × (o ≡ Some x) × (f x ≡ Some y)
of_option None f y e = absurd (cc (e))
of_option (Some x) f y e = (x, refl, e)

-- what lies beside an object that has a scope has one
has_beside : (o : Option Scope) → HasScope o → HasScope (option_map beside o)
has_beside o h = (beside h.0, ap (option_map beside) h.1)

-- a scope as a use sees it
pub seen_has : (object current : Option Scope) (s : Scope) → (s ≡ This → HasScope object) → (s ≡ Caller → HasScope current) → HasScope (substitute object current s)
unfolding substitute
seen_has object current This h k = has_beside object (h refl)
seen_has object current Caller h k = k refl
seen_has object current Any h k = (Any, refl)
seen_has object current (In n) h k = (In n, refl)
seen_has object current Unknown h k = (Unknown, refl)
seen_has object current Lost h k = (Lost, refl)

module _ (forest : Forest) (accepted : IsAccepted forest) (whole : IsForest forest) (sorted : IsWellSorted forest.nodes) where
  abbrev p : Declarations
  p = declarations_of forest

  abbrev types : Types
  types = type_at_node p

  abbrev scopes : Scopes
  scopes = scope_at_node p

  pub known : (class : ℕ) → class_scope p class ≡ scopeless → ⊥
  known class = all_known forest accepted whole sorted class

  -- ---- THIS and the current scope in a body

  pub this_there : (b c id : ℕ) → Inside p b c id → HasScope (this_at p id)
  this_there b c id inside = (let h = this_has_scope forest accepted whole sorted c in (h.0, ap (option_and_then (this_in p)) inside.class ∙ h.1))

  pub current_there : (b c id : ℕ) → Inside p b c id → HasScope (current_at p id)
  unfolding current_at
  current_there b c id inside =
      let i = member_is forest whole sorted id b inside.member in
      let h = current_has_scope forest accepted whole sorted c b (i.same_class ∙ inside.class) in
      (h.0, ap (λ (o : Option ℕ). option_and_then (λ class. option_and_then (current_in p class) (context p id).member) o) inside.class ∙ ap (option_and_then (current_in p c)) inside.member ∙ h.1)

  -- ---- fields

  -- a field's scope, where it is one of a reference
  pub found_field_scope : (class : ℕ) (name : List ℕ) (f : FoundField) (t : Ty) → field_named p.classes class name ≡ Some f → declared_type_of p f.field ≡ Some t → is_reference t ≡ true → HasScope (field_scope p f.on f.field)
  found_field_scope class name f t e d r =
      let q = field_found forest accepted whole sorted class name f e in
      let n = of_option (slice_get p.nodes f.field.node) (field_of p.nodes f.field.node) f.field q.is_there in
      field_has_scope forest accepted whole sorted f.on f.field.node n.0 f.field n.1 n.2 q.stands_in_class (reference_has_scope p.names f.field.declared_type t d r)

  -- a field of an object that has a scope
  pub field_seen : (class : ℕ) (name : List ℕ) (f : FoundField) (t : Ty) (object : Option Scope) → field_named p.classes class name ≡ Some f → declared_type_of p f.field ≡ Some t → is_reference t ≡ true → HasScope object → HasScope (scope_of_field p object f)
  unfolding scope_of_field
  field_seen class name f t object e d r h =
      let s = found_field_scope class name f t e d r in
      let v = seen_has object None s.0 (λ _. h) (λ c. absurd (field_not_caller p f.on f.field (known f.on) (s.1 ∙ ap (λ x. Some x) c))) in
      (v.0, ap (option_and_then (substitute object None)) s.1 ∙ v.1)

  -- a static field, whatever stands before the dot
  pub static_seen : (class : ℕ) (name : List ℕ) (f : FoundField) (t : Ty) (object : Option Scope) → field_named p.classes class name ≡ Some f → declared_type_of p f.field ≡ Some t → is_reference t ≡ true → f.field.modifiers.is_static ≡ true → HasScope (scope_of_field p object f)
  unfolding scope_of_field
  static_seen class name f t object e d r k =
      let s = found_field_scope class name f t e d r in
      let n = static_field_scope p f.on f.field s.0 k (field_suits p f.on f.field s.0 s.1) in
      let v = seen_has object None s.0 (λ c. absurd (in_other (sym n ∙ c))) (λ c. absurd (in_caller (sym n ∙ c))) in
      (v.0, ap (option_and_then (substitute object None)) s.1 ∙ v.1)
    where
      in_other : In immortal_scope ≡ This → ⊥
      in_other e = cc (e)

      in_caller : In immortal_scope ≡ Caller → ⊥
      in_caller e = cc (e)

  -- ---- names

  meaning_scoped : (b c id : ℕ) (name : List ℕ) (t : Ty) → Inside p b c id → type_of_meaning p (meaning p id name) ≡ Some t → is_reference t ≡ true → HasScope (scope_of_meaning p id (meaning p id name))
  unfolding meaning class_meaning type_of_meaning scope_of_meaning
  meaning_scoped b c id name t inside e r = go (variable_named p id name) refl (option_and_then (λ class. field_named p.classes class name) (context p id).class) refl (context p id).before_dot (class_number p.names name) e
    where
      last : Bool → Option ℕ → Meaning
      last t o = if t then (elim o as (λ _. Meaning) [ None ↦ nothing | Some class ↦ a_class class ]) else nothing

      of : Option ℕ → Option FoundField → Bool → Option ℕ → Meaning
      of v f t o = elim v as (λ _. Meaning) [ Some v ↦ a_variable v | None ↦ elim f as (λ _. Meaning) [ Some f ↦ a_field f | None ↦ last t o ] ]

      variable : (v : ℕ) → variable_named p id name ≡ Some v → option_and_then (declared_type_of p) (variable_at p.nodes v) ≡ Some t → HasScope (variable_scope_at p v)
      variable v a e =
          let d = variable_meant forest accepted whole sorted id v name a in
          let i = in_scope forest whole sorted id v d.2 in
          let m : (context p v).member ≡ Some b = i.same ∙ inside.member in
          let k : (context p v).class ≡ Some c = sym (member_is forest whole sorted v b m).same_class ∙ (member_is forest whole sorted id b inside.member).same_class ∙ inside.class in
          variable_has_scope forest accepted whole sorted v b c d.0 t d.1 k m (sym (ap (option_and_then (declared_type_of p)) d.1) ∙ e) r

      go : (v : Option ℕ) → variable_named p id name ≡ v → (f : Option FoundField) → option_and_then (λ class. field_named p.classes class name) (context p id).class ≡ f → (u : Bool) (o : Option ℕ) → type_of_meaning p (of v f u o) ≡ Some t → HasScope (scope_of_meaning p id (of v f u o))
      go (Some v) a f g u o e = variable v a e
      go None a (Some f) g u o e =
          let q = of_class (context p id).class (λ class. field_named p.classes class name) f g in
          field_seen q.0 name f t (this_at p id) q.2 e r (this_there b c id inside)
      go None a None g true (Some class) e = absurd (cc (e))
      go None a None g true None e = absurd (cc (e))
      go None a None g false o e = absurd (cc (e))

  -- ---- each kind of expression

  abbrev ScopedBelow : ℕ → ℕ → ℕ → Type 0
  ScopedBelow b c n = (x : ℕ) (node : Node) (t : Ty) → x < n → slice_get forest.nodes x ≡ Some node → Inside p b c x → IsValue p x node → types x ≡ Some t → is_reference t ≡ true → HasScope (scopes x)

  abbrev Scoped : ℕ → Node → Type 0
  Scoped id node = (b c : ℕ) (t : Ty) → slice_get forest.nodes id ≡ Some node → Inside p b c id → ScopedBelow b c id → type_of p types id node ≡ Some t → is_reference t ≡ true → HasScope (scope_of p types scopes id node)

  scoped_at : (b c id x : ℕ) (t : Ty) → ScopedBelow b c id → ValueAt forest accepted whole sorted b c id x → types x ≡ Some t → is_reference t ≡ true → HasScope (scopes x)
  scoped_at b c id x t below v e r = below x v.node t v.less v.is_there v.inside v.value e r

  parenthesized_scoped : (id : ℕ) (position : Position) (inner : ℕ) → Scoped id (Parenthesized position inner)
  unfolding type_of scope_of children is_argument is_expression object_of takes_parts HasRightChildren
  parenthesized_scoped id position inner b c t there inside below e r =
      let s = sorted.each id (Parenthesized position inner) there in
      scoped_at b c id inner t below (child_at forest accepted whole sorted b c id _ there inside refl inner (same_first forest accepted whole sorted inner []) (of_expression forest accepted whole sorted inner s) refl refl) e r

  -- what may be cast is a reference
  pub cast_of_reference : (u v : Ty) → not (are_related p.classes u v) ≡ false → is_reference u ≡ true
  cast_of_reference u v e = go (is_reference u) e
    where
      go : (t : Bool) → not (t && (assigns p.classes u v || assigns p.classes v u)) ≡ false → t ≡ true
      go true e = refl
      go false e = absurd (true≢false e)

  cast_scoped : (id : ℕ) (position name_position : Position) (name : List ℕ) (operand : ℕ) → Scoped id (Cast position name_position name operand)
  unfolding type_of scope_of children is_argument is_expression object_of takes_parts HasRightChildren scope_in_class
  cast_scoped id position name_position name operand b c t there inside below e r =
      let s = sorted.each id (Cast position name_position name operand) there in
      let v = child_at forest accepted whole sorted b c id _ there inside refl operand (same_first forest accepted whole sorted operand []) (of_expression forest accepted whole sorted operand s) refl refl in
      let u = value_has_type forest accepted whole sorted b c operand v.node v.is_there v.inside v.value in
      let n = cast_names_class forest accepted sorted id position name_position name operand (at_p forest accepted whole sorted id _ there) in
      let w = right_cast p types id position name_position name operand (unbroken forest accepted whole sorted id _ there) in
      let reference : is_reference u.0 ≡ true = cast_of_reference u.0 (ClassTy n.0)
      (sym (ap (λ (o : Option Ty). holds o (λ t. holds (class_number p.names name) (λ class. not (are_related p.classes t (ClassTy class))))) u.1 ∙ ap (λ (o : Option ℕ). holds o (λ class. not (are_related p.classes u.0 (ClassTy class)))) n.1) ∙ w) in
      let h = scope_or_has (class_scope p n.0) (scopes operand) (known n.0) (scoped_at b c id operand u.0 below v u.1 reference) in
      (h.0, ap (option_and_then (λ class. scope_in_class p class (scopes operand))) n.1 ∙ h.1)

  element_of_array : (a t : Ty) (scope : Option Scope) → element_type a ≡ Some t → is_reference t ≡ true → (is_reference a ≡ true → HasScope scope) → HasScope (scope_of_element p scope a)
  unfolding element_type is_reference scope_of_element scope_in_class
  element_of_array IntArray t scope e r h = absurd (true≢false (sym (ap is_reference (some_inj Int t e) ∙ r)))
  element_of_array BoolArray t scope e r h = absurd (true≢false (sym (ap is_reference (some_inj Boolean t e) ∙ r)))
  element_of_array (ClassArray class) t scope e r h = scope_or_has (class_scope p class) (option_map beside scope) (known class) (has_beside scope (h refl))
  element_of_array _ t scope e r h = absurd (cc (e))

  element_scoped : (id : ℕ) (position : Position) (array index : ℕ) → Scoped id (Element position array index)
  unfolding type_of scope_of children is_argument is_expression object_of takes_parts HasRightChildren
  element_scoped id position array index b c t there inside below e r =
      let s = sorted.each id (Element position array index) there in
      let v = child_at forest accepted whole sorted b c id _ there inside refl array (same_first forest accepted whole sorted array (index ∷ [])) (of_expression forest accepted whole sorted array s.0) refl refl in
      let a = of_option (types array) (λ a. option_and_then (λ i. element_type a) (types index)) t e in
      let i = of_option (types index) (λ i. element_type a.0) t a.2 in
      let h = element_of_array a.0 t (scopes array) i.2 r (λ k. scoped_at b c id array a.0 below v a.1 k) in
      (h.0, ap (option_and_then (scope_of_element p (scopes array))) a.1 ∙ h.1)

  new_scoped : (id : ℕ) (position name_position : Position) (name arguments : List ℕ) → Scoped id (New position name_position name arguments)
  unfolding scope_of scope_of_new
  new_scoped id position name_position name arguments b c t there inside below e r =
      let n = new_names_class forest accepted sorted id position name_position name arguments (at_p forest accepted whole sorted id _ there) in
      let h = scope_or_has (class_scope p n.0) (current_at p id) (known n.0) (current_there b c id inside) in
      (h.0, ap (option_and_then (scope_of_new p id)) n.1 ∙ h.1)

  -- the field of an access, where its type is a reference
  pub accessed_reference : (r : Receiver) (name : List ℕ) (t : Ty) → access_type p r name ≡ Some t → is_reference t ≡ true → (f : FoundField) × (accessed_field p r name ≡ Some f) × (declared_type_of p f.field ≡ Some t)
  unfolding access_type
  accessed_reference r name t e k = go (is_length_of_array r name) e
    where
      go : (l : Bool) → (if l then Some Int else option_and_then (λ (f : FoundField). declared_type_of p f.field) (accessed_field p r name)) ≡ Some t → (f : FoundField) × (accessed_field p r name ≡ Some f) × (declared_type_of p f.field ≡ Some t)
      go true e = absurd (true≢false (sym k ∙ plain_int t e))
      go false e = of_option (accessed_field p r name) (λ (f : FoundField). declared_type_of p f.field) t e

  pub static_access : (id class : ℕ) (name : List ℕ) (f : FoundField) → accessed_field p (the_class class) name ≡ Some f → lacks_object_of_field p id name (the_class class) ≡ false → f.field.modifiers.is_static ≡ true
  unfolding names_class
  static_access id class name f a e = not_false f.field.modifiers.is_static (sym (ap (λ (o : Option FoundField). holds o (λ (f : FoundField). not f.field.modifiers.is_static)) a) ∙ e)
    where
      not_false : (t : Bool) → not t ≡ false → t ≡ true
      not_false true e = refl
      not_false false e = absurd (true≢false e)

  -- a value that has members is of a class
  pub class_value : (u : Ty) (class : ℕ) → class_of_receiver (the_value u) ≡ Some class → u ≡ ClassTy class
  unfolding class_of_receiver
  class_value (ClassTy d) class e = ap (λ n. ClassTy n) (some_inj d class e)
  class_value _ class e = absurd (cc (e))

  pub class_is_reference : (u : Ty) (class : ℕ) → u ≡ ClassTy class → is_reference u ≡ true
  unfolding is_reference
  class_is_reference u class e = ap is_reference e

  access_scoped : (id : ℕ) (position : Position) (name : List ℕ) (object : ℕ) → Scoped id (FieldAccess position name object)
  unfolding type_of scope_of children is_argument is_expression object_of takes_parts HasRightChildren
  access_scoped id position name object b c t there inside below e r =
      let s = sorted.each id (FieldAccess position name object) there in
      let o = of_expression forest accepted whole sorted object s in
      let at : class_at_name p object o.node ≡ None → ValueAt forest accepted whole sorted b c id object = λ k. value_at forest accepted whole sorted b c id _ there inside refl object (same_first forest accepted whole sorted object []) o k refl in
      let w = right_access p types id position name object (unbroken forest accepted whole sorted id _ there) in
      by_receiver o.node at w (receiver_cases forest accepted whole sorted object o.node o.is_there (λ k. (let v = at k in value_has_type forest accepted whole sorted b c object v.node v.is_there v.inside v.value)))
    where
      found : (r0 : Receiver) → receiver p types object ≡ Some r0 → ((f : FoundField) (class : ℕ) → accessed_field p r0 name ≡ Some f → class_of_receiver r0 ≡ Some class → field_named p.classes class name ≡ Some f → declared_type_of p f.field ≡ Some t → HasScope (scope_of_field p (scopes object) f))
          → HasScope (option_and_then (λ r. option_and_then (scope_of_field p (scopes object)) (accessed_field p r name)) (receiver p types object))
      found r0 re k =
          let a = accessed_reference r0 name t (sym (ap (option_and_then (λ r. access_type p r name)) re) ∙ e) r in
          let q = of_class (class_of_receiver r0) (λ class. field_named p.classes class name) a.0 a.1 in
          let h = k a.0 q.0 a.1 q.1 q.2 a.2 in
          (h.0, ap (option_and_then (λ r. option_and_then (scope_of_field p (scopes object)) (accessed_field p r name))) re ∙ ap (option_and_then (scope_of_field p (scopes object))) a.1 ∙ h.1)

      by_receiver : (n : Node) → (class_at_name p object n ≡ None → ValueAt forest accepted whole sorted b c id object) → RightAccess p types id object name → ClassOrValue forest accepted whole sorted object n
          → HasScope (option_and_then (λ r. option_and_then (scope_of_field p (scopes object)) (accessed_field p r name)) (receiver p types object))
      by_receiver n at w (inl q) = found (the_class q.0) q.2 (λ f class a k m d.
          static_seen class name f t (scopes object) m d r (static_access id q.0 name f a (sym (ap (λ (o : Option Receiver). holds o (lacks_object_of_field p id name)) q.2) ∙ w.has_object)))
      by_receiver n at w (inr q) = found (the_value q.0) q.3 (λ f class a k m d.
          field_seen class name f t (scopes object) m d r (scoped_at b c id object q.0 below (at q.1) q.2 (class_is_reference q.0 class (class_value q.0 class k))))

  -- ---- calls

  -- the scope of what a user's method gives, as its caller sees it
  pub result_seen : (f : FoundMethod) (t : Ty) (object current : Option Scope) → IsUserMethod p f → declared_type_of p f.method.declared ≡ Some t → is_reference t ≡ true → (f.method.declared.modifiers.is_static ≡ false → HasScope object) → HasScope current → HasScope (scope_of_call p object current f)
  unfolding scope_of_call
  result_seen f t object current u d r h k =
      let s = result_has_scope forest accepted whole sorted f.on f.method.declared.node f.method u.is_there u.stands_in_class (reference_has_scope p.names f.method.declared.declared_type t d r) in
      let v = seen_has object current s.0 (λ c. by_static f.method.declared.modifiers.is_static refl (s.1 ∙ ap (λ x. Some x) c)) (λ c. k) in
      (v.0, ap (option_and_then (substitute object current)) s.1 ∙ v.1)
    where
      by_static : (b : Bool) → f.method.declared.modifiers.is_static ≡ b → result_scope p f.on f.method ≡ Some This → HasScope object
      by_static true e c = absurd (static_result_not_this p f.on f.method e c)
      by_static false e c = h e

  pub static_call : (id class : ℕ) (name : List ℕ) (f : FoundMethod) → called_method p (the_class class) name ≡ Some f → lacks_method p (the_class class) name ≡ false → lacks_object_of_method p id name (the_class class) ≡ false → f.method.declared.modifiers.is_static ≡ true
  unfolding names_class
  static_call id class name f a l e =
      not_false f.method.declared.modifiers.is_static
      (sym (ap (λ t. not t && holds (called_method p (the_class class) name) (λ (f : FoundMethod). not f.method.declared.modifiers.is_static)) l ∙ ap (λ (o : Option FoundMethod). holds o (λ (f : FoundMethod). not f.method.declared.modifiers.is_static)) a) ∙ e)
    where
      not_false : (t : Bool) → not t ≡ false → t ≡ true
      not_false true e = refl
      not_false false e = absurd (true≢false e)

  -- what the rules say of a call that has a receiver and typed arguments
  pub record CallRules (id : ℕ) (name : List ℕ) (r : Receiver) : Type 0 where
    pub of_reference : is_no_reference r ≡ false
    pub has_method : lacks_method p r name ≡ false
    pub has_object : lacks_object_of_method p id name r ≡ false

  pub call_rules : (id : ℕ) (name : List ℕ) (object : Option ℕ) (arguments : List ℕ) (r : Receiver) (ts : List Ty) → call_receiver p types id object ≡ Some r → all_types types arguments ≡ Some ts → RightCall p types id object arguments name → CallRules id name r
  call_rules id name object arguments r ts e f w =
      let both : (test : Receiver → Bool) → holds (call_receiver p types id object) (λ r. holds (all_types types arguments) (λ ts. test r)) ≡ test r
      = λ test. ap (λ (o : Option Receiver). holds o (λ r. holds (all_types types arguments) (λ ts. test r))) e ∙ ap (λ (o : Option (List Ty)). holds o (λ ts. test r)) f in
      record { of_reference = sym (both is_no_reference) ∙ w.of_reference; has_method = sym (both (λ r. lacks_method p r name)) ∙ w.has_method; has_object = sym (both (lacks_object_of_method p id name)) ∙ w.has_object }

  pub call_type_is : (id : ℕ) (name : List ℕ) (object : Option ℕ) (arguments : List ℕ) (r : Receiver) (ts : List Ty) (t : Ty) (f : FoundMethod) → call_receiver p types id object ≡ Some r → all_types types arguments ≡ Some ts → called_method p r name ≡ Some f
      → option_and_then (λ r. option_and_then (λ ts. call_type p r name) (all_types types arguments)) (call_receiver p types id object) ≡ Some t → declared_type_of p f.method.declared ≡ Some t
  unfolding call_type
  call_type_is id name object arguments r ts t f e k m h =
      sym (ap (λ (o : Option Receiver). option_and_then (λ r. option_and_then (λ ts. call_type p r name) (all_types types arguments)) o) e ∙ ap (λ (o : Option (List Ty)). option_and_then (λ ts. call_type p r name) o) k
      ∙ ap (option_and_then (λ (f : FoundMethod). declared_type_of p f.method.declared)) m) ∙ h

  call_scoped_by : (b c id : ℕ) (name : List ℕ) (object : Option ℕ) (arguments : List ℕ) (t : Ty) (r : Receiver) (ts : List Ty) → Inside p b c id → call_receiver p types id object ≡ Some r → all_types types arguments ≡ Some ts → RightCall p types id object arguments name
      → option_and_then (λ r. option_and_then (λ ts. call_type p r name) (all_types types arguments)) (call_receiver p types id object) ≡ Some t → is_reference t ≡ true
      → ((f : FoundMethod) (class : ℕ) → called_method p r name ≡ Some f → class_of_receiver r ≡ Some class → CallRules id name r → f.method.declared.modifiers.is_static ≡ false → HasScope (receiver_scope p scopes id object))
      → HasScope (option_and_then (λ r. option_and_then (scope_of_call p (receiver_scope p scopes id object) (current_at p id)) (called_method p r name)) (call_receiver p types id object))
  call_scoped_by b c id name object arguments t r ts inside e k w h reference scoped =
      let rules = call_rules id name object arguments r ts e k w in
      let f = method_there forest accepted whole sorted r name rules.of_reference rules.has_method in
      let q = of_class (class_of_receiver r) (λ class. method_named p.classes class name) f.0 f.1 in
      let d = call_type_is id name object arguments r ts t f.0 e k f.1 h in
      let u = reference_of_user forest accepted whole sorted q.0 name f.0 t q.2 f.2 d reference in
      let v = result_seen f.0 t (receiver_scope p scopes id object) (current_at p id) u d reference (λ plain. scoped f.0 q.0 f.1 q.1 rules plain) (current_there b c id inside) in
      (v.0, ap (option_and_then (λ r. option_and_then (scope_of_call p (receiver_scope p scopes id object) (current_at p id)) (called_method p r name))) e ∙ ap (option_and_then (scope_of_call p (receiver_scope p scopes id object) (current_at p id))) f.1 ∙ v.1)

  pub arguments_typed : (b c id : ℕ) (ids : List ℕ) → ((x : ℕ) → is_among x ids ≡ true → ValueAt forest accepted whole sorted b c id x) → (ts : List Ty) × (all_types types ids ≡ Some ts)
  arguments_typed b c id ids h = all_typed forest accepted whole sorted ids (λ x among. (let v = h x among in value_has_type forest accepted whole sorted b c x v.node v.is_there v.inside v.value))

  call_scoped : (id : ℕ) (position : Position) (name : List ℕ) (object : Option ℕ) (arguments : List ℕ) → Scoped id (Call position name object arguments)
  unfolding type_of scope_of children is_argument is_expression object_of takes_parts HasRightChildren call_receiver receiver_scope
  call_scoped id position name None arguments b c t there inside below e r =
      let s = sorted.each id (Call position name None arguments) there in
      let ts = arguments_typed b c id arguments (λ x among. child_at forest accepted whole sorted b c id _ there inside refl x among (all_of forest accepted whole sorted x arguments s.1 among) refl refl) in
      call_scoped_by b c id name None arguments t (own_object c) ts.0 inside (ap (option_map (λ class. own_object class)) inside.class) ts.1 (right_call p types id position name None arguments (unbroken forest accepted whole sorted id _ there)) e r
      (λ f class m k rules plain. this_there b c id inside)
  call_scoped id position name (Some object) arguments b c t there inside below e r =
      let s = sorted.each id (Call position name (Some object) arguments) there in
      let o = of_expression forest accepted whole sorted object s.0 in
      let ts = arguments_typed b c id arguments (λ x among. child_at forest accepted whole sorted b c id _ there inside refl x (or_right (x == object) (is_among x arguments) among) (all_of forest accepted whole sorted x arguments s.1 among) (not_first forest whole accepted id x object _ arguments there refl among) refl) in
      let at : class_at_name p object o.node ≡ None → ValueAt forest accepted whole sorted b c id object = λ k. value_at forest accepted whole sorted b c id _ there inside refl object (same_first forest accepted whole sorted object arguments) o k refl in
      let w = right_call p types id position name (Some object) arguments (unbroken forest accepted whole sorted id _ there) in
      elim (receiver_cases forest accepted whole sorted object o.node o.is_there (λ k. (let v = at k in value_has_type forest accepted whole sorted b c object v.node v.is_there v.inside v.value)))
      as (λ z. HasScope (option_and_then (λ r. option_and_then (scope_of_call p (scopes object) (current_at p id)) (called_method p r name)) (receiver p types object))) [
        | inl q ↦ call_scoped_by b c id name (Some object) arguments t (the_class q.0) ts.0 inside q.2 ts.1 w e r (λ f class m k rules plain. absurd (true≢false (sym (static_call id q.0 name f m rules.has_method rules.has_object) ∙ plain)))
        | inr q ↦ call_scoped_by b c id name (Some object) arguments t (the_value q.0) ts.0 inside q.3 ts.1 w e r (λ f class m k rules plain. scoped_at b c id object q.0 below (at q.1) q.2 (class_is_reference q.0 class (class_value q.0 class k)))
      ]

  scoped_of : (id : ℕ) (node : Node) → IsValue p id node → Scoped id node
  unfolding type_of scope_of is_argument is_expression
  scoped_of id (Number position value is_negative) v b c t there inside below e r = absurd (true≢false (sym r ∙ plain_int t e))
  scoped_of id (True position) v b c t there inside below e r = absurd (true≢false (sym r ∙ plain_boolean t e))
  scoped_of id (False position) v b c t there inside below e r = absurd (true≢false (sym r ∙ plain_boolean t e))
  scoped_of id (Text position text) v b c t there inside below e r = absurd (true≢false (sym r ∙ plain_label t e))
  scoped_of id (Null position) v b c t there inside below e r = (Any, refl)
  scoped_of id (ThisNode position) v b c t there inside below e r = this_there b c id inside
  scoped_of id (SimpleName position name) v b c t there inside below e r = meaning_scoped b c id name t inside e r
  scoped_of id (Parenthesized position inner) v b c t there inside below e r = parenthesized_scoped id position inner b c t there inside below e r
  scoped_of id (Binary position operator left operand) v b c t there inside below e r =
      absurd (let x = of_option (types left) (λ a. option_and_then (binary_type p.classes operator a) (types operand)) t e in let y = of_option (types operand) (binary_type p.classes operator x.0) t x.2 in true≢false (sym r ∙ binary_plain p.classes operator x.0 y.0 t y.2))
  scoped_of id (Unary position operator operand) v b c t there inside below e r = absurd (let x = of_option (types operand) (unary_type operator) t e in true≢false (sym r ∙ unary_plain operator x.0 t x.2))
  scoped_of id (Cast position name_position name operand) v b c t there inside below e r = cast_scoped id position name_position name operand b c t there inside below e r
  scoped_of id (FieldAccess position name object) v b c t there inside below e r = access_scoped id position name object b c t there inside below e r
  scoped_of id (Call position name object arguments) v b c t there inside below e r = call_scoped id position name object arguments b c t there inside below e r
  scoped_of id (Element position array index) v b c t there inside below e r = element_scoped id position array index b c t there inside below e r
  scoped_of id (New position name_position name arguments) v b c t there inside below e r = new_scoped id position name_position name arguments b c t there inside below e r
  scoped_of id (NewArray position element size) v b c t there inside below e r = current_there b c id inside
  scoped_of id _ v b c t there inside below e r = absurd (true≢false (sym v.is_argument))

  pub scope_is : (x : ℕ) (node : Node) → slice_get forest.nodes x ≡ Some node → scopes x ≡ scope_of p types scopes x node
  unfolding declarations_of
  scope_is x node there = scopes_are p types (behind_children forest whole) x node there

  scoped_below : (b c n : ℕ) → ScopedBelow b c n
  scoped_below b c zero x node t l there inside v e r = absurd (omega (arith, l))
  scoped_below b c (suc n) x node t l there inside v e r = step (scoped_below b c n)
    where
      step : ScopedBelow b c n → HasScope (scopes x)
      step ih =
          let s = scoped_of x node v b c t there inside (λ y child u m. ih y child u (omega (arith, l, m))) (sym (type_is forest accepted whole sorted x node there) ∙ e) r in
          (s.0, scope_is x node there ∙ s.1)

  -- each expression in a body whose value is a reference has a static scope
  pub value_has_scope : (b c id : ℕ) (node : Node) (t : Ty) → slice_get forest.nodes id ≡ Some node → Inside p b c id → IsValue p id node → types id ≡ Some t → is_reference t ≡ true → HasScope (scopes id)
  value_has_scope b c id node t there inside v e r = scoped_below b c (suc id) id node t (omega arith) there inside v e r
