-- In an accepted program each expression in a body is judged: it has a kind, or gives nothing.
use Rattle.std.proofs.Common.{◌≡◌, ℕ, ◌<◌, zero, suc, List, [], filter, refl, sym, ap, ◌∙◌, subst, arith, Option, Some, None, Bool, true, false, ◌&&◌, true≢false, inl, inr, option_and_then, option_map, is_some, slice_get, if◌then◌else◌, ◌==◌}
use Rattle.scj_base.specs.declared.positions.Position.{Position}
use Rattle.scj_builtins.specs.declared.kinds.GivesKind.{GivesKind}
use Rattle.scj_builtins.specs.declared.kinds.GivesKind.TheVariants.{Nothing, Number as GivesNumber, Long, Truth, Sequencer, Mission}
use Rattle.scj_builtins.specs.declared.methods.FrameworkMethod.{FrameworkMethod}
use Rattle.scj_builtins.specs.Framework.{framework_methods}
use Rattle.scj_tree.specs.declared.nodes.Node.{Node}
use Rattle.scj_tree.specs.declared.nodes.Node.TheVariants.{Binary, Unary, Cast, Parenthesized, SimpleName, FieldAccess, Call, Element, New, NewArray, Number, True, False, Null, This as ThisNode}
use Rattle.scj_tree.specs.Forest.{Forest, IsForest}
use Rattle.scj_tree.specs.Shape.{children}
use Rattle.scj_rules.specs.declared.typing.FoundField.{FoundField}
use Rattle.scj_rules.specs.declared.typing.Meaning.{Meaning}
use Rattle.scj_rules.specs.declared.typing.Meaning.TheVariants.{Class as a_class, Field as a_field, Nothing as nothing, Variable as a_variable}
use Rattle.scj_rules.specs.declared.typing.Receiver.{Receiver}
use Rattle.scj_rules.specs.declared.typing.Scope.TheVariants.{Any}
use Rattle.scj_rules.specs.declared.typing.Ty.{Ty}
use Rattle.scj_rules.specs.declared.typing.Ty.TheVariants.{Int, Bool as Boolean, Void, NullTy, Label, Class as ClassTy, IntArray, BoolArray, ClassArray}
use Rattle.scj_rules.specs.Views.{DeclaredMethod}
use Rattle.scj_rules.specs.Classes.{ClassRow, FoundMethod, class_number, field_named, method_named, own_method, framework_method, framework_methods_on, result_written}
use Rattle.scj_rules.specs.Contexts.{Declarations, declarations_of, context, variable_named}
use Rattle.scj_rules.specs.Types.{is_int, is_boolean, is_reference, element_type, array_of, binary_type, unary_type, are_comparable, meaning, class_meaning, class_of_receiver, accessed_field, called_method, call_receiver, receiver, all_types, is_length_of_array, type_written}
use Rattle.scj_rules.specs.TypeRules.{Types, type_of, type_of_meaning, access_type, call_type, declared_type_of, written_type}
use Rattle.scj_rules.specs.Phases.{IsAccepted}
use Rattle.accepted_laws.specs.Judgements.{type_at_node, scope_at_node, HasScope, Inside, IsValue, Judged}
use Rattle.accepted_laws.specs.Kinds.{Kind, number, truth, reference, kind_of}
use Rattle.accepted_laws.specs.Sorts.{Of, HasRightChildren, IsWellSorted, is_expression}
use Rattle.accepted_laws.proofs.Dispatch.{OwnDeclaration, own_declaration, user_method}
use Rattle.scj_rules.proofs.ParentLemmas.{child-less}
use Rattle.accepted_laws.proofs.Fields.{In}
use Rattle.accepted_laws.proofs.Interfaces.{row_is}
use Rattle.accepted_laws.proofs.Rows.{IsFrameworkRow}
use Rattle.accepted_laws.proofs.Tools.{some_inj}
use Rattle.accepted_nodes.proofs.FoundMembers.{field_found, own_found, in_mapped, none_of_user}
use Rattle.accepted_nodes.proofs.ScopesComplete.{of_option, value_has_scope}
use Rattle.accepted_nodes.proofs.TypesComplete.{same_first, of_class, variable_meant, type_is, value_has_type}
use Rattle.accepted_facts.proofs.DeclaredKinds.{holds_values, variable_holds, field_holds, method_gives}

abbrev NoLabel : Option Ty → Type 0
NoLabel o = o ≡ Some Label → ⊥

int_no_label : NoLabel (Some Int)
int_no_label e = (let f : Int ≡ Label = some_inj Int Label e in cc (f))

boolean_no_label : NoLabel (Some Boolean)
boolean_no_label e = (let f : Boolean ≡ Label = some_inj Boolean Label e in cc (f))

none_no_label : NoLabel None
none_no_label e = cc (e)

class_no_label : (c : ℕ) → NoLabel (Some (ClassTy c))
class_no_label c e = (let f : ClassTy c ≡ Label = some_inj (ClassTy c) Label e in cc (f))

if_no_label : (t : Bool) (a b : Option Ty) → NoLabel a → NoLabel b → NoLabel (if t then a else b)
if_no_label true a b h k e = h e
if_no_label false a b h k e = k e

binary_no_label : (rows : List ClassRow) (operator : ℕ) (a b : Ty) → NoLabel (binary_type rows operator a b)
unfolding binary_type
binary_no_label rows operator a b e =
    if_no_label _ _ _ (if_no_label (is_boolean a && is_boolean b) (Some Boolean) None boolean_no_label none_no_label)
    (if_no_label _ _ _ (if_no_label (is_int a && is_int b) (Some Boolean) None boolean_no_label none_no_label)
    (if_no_label _ _ _ (if_no_label (are_comparable rows a b) (Some Boolean) None boolean_no_label none_no_label) (if_no_label (is_int a && is_int b) (Some Int) None int_no_label none_no_label)))
    e

unary_no_label : (operator : ℕ) (a : Ty) → NoLabel (unary_type operator a)
unfolding unary_type
unary_no_label operator a e = if_no_label _ _ _ (if_no_label (is_boolean a) (Some Boolean) None boolean_no_label none_no_label) (if_no_label (is_int a) (Some Int) None int_no_label none_no_label) e

class_named_no_label : (o : Option ℕ) → NoLabel (option_map (λ class. ClassTy class) o)
class_named_no_label None = none_no_label
class_named_no_label (Some c) = class_no_label c

element_no_label : (a : Ty) → NoLabel (element_type a)
unfolding element_type
element_no_label IntArray = int_no_label
element_no_label BoolArray = boolean_no_label
element_no_label (ClassArray c) = class_no_label c
element_no_label _ = none_no_label

array_no_label : (a : Ty) → NoLabel (array_of a)
unfolding array_of
array_no_label Int e = (let f : IntArray ≡ Label = some_inj IntArray Label e in cc (f))
array_no_label Boolean e = (let f : BoolArray ≡ Label = some_inj BoolArray Label e in cc (f))
array_no_label (ClassTy c) e = (let f : ClassArray c ≡ Label = some_inj (ClassArray c) Label e in cc (f))
array_no_label _ e = none_no_label e

result_no_label : (names : List (List ℕ)) (g : GivesKind) → NoLabel (type_written names (result_written g))
unfolding type_written result_written
result_no_label names Nothing e = (let f : Void ≡ Label = some_inj Void Label e in cc (f))
result_no_label names GivesNumber e = int_no_label e
result_no_label names Long e = none_no_label e
result_no_label names Truth e = boolean_no_label e
result_no_label names Sequencer e = class_named_no_label _ e
result_no_label names Mission e = class_named_no_label _ e

label_holds_none : holds_values Label ≡ true → ⊥
unfolding holds_values
label_holds_none e = true≢false (sym e)

-- what a type that isn't a text's has as its kind
judged_type : (p : Declarations) (id : ℕ) (t : Ty) → type_at_node p id ≡ Some t → (t ≡ Label → ⊥) → (is_reference t ≡ true → HasScope (scope_at_node p id)) → (o : Option Kind) × Judged p id o
unfolding Judged kind_of is_reference
judged_type p id Int e n h = (Some number, ap (λ t. kind_of t (scope_at_node p id)) e)
judged_type p id Boolean e n h = (Some truth, ap (λ t. kind_of t (scope_at_node p id)) e)
judged_type p id Void e n h = (None, e)
judged_type p id NullTy e n h = (Some (reference NullTy Any), ap (λ t. kind_of t (scope_at_node p id)) e)
judged_type p id Label e n h = absurd (n refl)
judged_type p id (ClassTy c) e n h = (let s = h refl in (Some (reference (ClassTy c) s.0), ap (λ t. kind_of t (scope_at_node p id)) e ∙ ap (kind_of (Some (ClassTy c))) s.1))
judged_type p id IntArray e n h = (let s = h refl in (Some (reference IntArray s.0), ap (λ t. kind_of t (scope_at_node p id)) e ∙ ap (kind_of (Some IntArray)) s.1))
judged_type p id BoolArray e n h = (let s = h refl in (Some (reference BoolArray s.0), ap (λ t. kind_of t (scope_at_node p id)) e ∙ ap (kind_of (Some BoolArray)) s.1))
judged_type p id (ClassArray c) e n h = (let s = h refl in (Some (reference (ClassArray c) s.0), ap (λ t. kind_of t (scope_at_node p id)) e ∙ ap (kind_of (Some (ClassArray c))) s.1))

module _ (forest : Forest) (accepted : IsAccepted forest) (whole : IsForest forest) (sorted : IsWellSorted forest.nodes) where
  abbrev p : Declarations
  p = declarations_of forest

  abbrev types : Types
  types = type_at_node p

  -- ---- what is declared gives no text

  field_no_label : (class : ℕ) (name : List ℕ) (f : FoundField) → field_named p.classes class name ≡ Some f → NoLabel (declared_type_of p f.field)
  field_no_label class name f e h = label_holds_none (field_holds forest sorted f.field.node f.field Label (field_found forest accepted whole sorted class name f e).is_there h)

  framework_no_label : (y : ℕ) (f : FoundMethod) (row : ClassRow) → IsFrameworkRow y row → In f.method row.methods → NoLabel (declared_type_of p f.method.declared)
  unfolding framework_methods_on framework_method
  framework_no_label y f row k h e =
      let m = in_mapped framework_method f.method (filter (λ (m : FrameworkMethod). m.on == y) framework_methods) (subst (In f.method) k.methods h) in
      result_no_label p.names m.0.gives (ap (λ (m : DeclaredMethod). type_written p.names m.declared.declared_type) m.2 ∙ e)

  method_no_label : (class : ℕ) (name : List ℕ) (f : FoundMethod) → method_named p.classes class name ≡ Some f → NoLabel (declared_type_of p f.method.declared)
  method_no_label class name f e h = go (is_some f.method.builtin) refl
    where
      q : (y : ℕ) × (own_method p.classes name y ≡ Some f)
      q = own_found forest accepted whole sorted class name f e

      d : OwnDeclaration forest accepted q.0 name f
      d = own_declaration forest accepted q.0 name f q.1

      void_no_label : (Label ≡ Void) → ⊥
      void_no_label e = cc (e)

      go : (t : Bool) → is_some f.method.builtin ≡ t → ⊥
      go false b =
          let u = user_method forest accepted whole sorted q.0 name f q.1 b in
          elim (method_gives forest sorted f.method.declared.node f.method Label u.is_there h) as (λ z. ⊥) [ inl v ↦ void_no_label v | inr v ↦ label_holds_none v ]
      go true b = elim (row_is forest accepted q.0 d.row d.is_row) as (λ z. ⊥)
          [ inl k ↦ framework_no_label q.0 f d.row k d.among h | inr u ↦ true≢false (sym b ∙ none_of_user forest accepted whole sorted u.0 d.row u.2 f.method d.among) ]

  -- ---- each kind of expression

  meaning_no_label : (id : ℕ) (name : List ℕ) → NoLabel (type_of_meaning p (meaning p id name))
  unfolding meaning class_meaning type_of_meaning
  meaning_no_label id name e = go (variable_named p id name) refl (option_and_then (λ class. field_named p.classes class name) (context p id).class) refl (context p id).before_dot (class_number p.names name) e
    where
      last : Bool → Option ℕ → Meaning
      last t o = if t then (elim o as (λ _. Meaning) [ None ↦ nothing | Some class ↦ a_class class ]) else nothing

      of : Option ℕ → Option FoundField → Bool → Option ℕ → Meaning
      of v f t o = elim v as (λ _. Meaning) [ Some v ↦ a_variable v | None ↦ elim f as (λ _. Meaning) [ Some f ↦ a_field f | None ↦ last t o ] ]

      go : (v : Option ℕ) → variable_named p id name ≡ v → (f : Option FoundField) → option_and_then (λ class. field_named p.classes class name) (context p id).class ≡ f → (t : Bool) (o : Option ℕ) → type_of_meaning p (of v f t o) ≡ Some Label → ⊥
      go (Some v) a f b t o e =
          let d = variable_meant forest accepted whole sorted id v name a in
          label_holds_none (variable_holds forest sorted v d.0 Label d.1 (sym (ap (option_and_then (declared_type_of p)) d.1) ∙ e))
      go None a (Some f) b t o e = (let q = of_class (context p id).class (λ class. field_named p.classes class name) f b in field_no_label q.0 name f q.2 e)
      go None a None b true (Some class) e = none_no_label e
      go None a None b true None e = none_no_label e
      go None a None b false o e = none_no_label e

  access_no_label : (r : Receiver) (name : List ℕ) → NoLabel (access_type p r name)
  unfolding access_type
  access_no_label r name = if_no_label (is_length_of_array r name) (Some Int) _ int_no_label found
    where
      found : option_and_then (λ (f : FoundField). declared_type_of p f.field) (accessed_field p r name) ≡ Some Label → ⊥
      found e =
          let f = of_option (accessed_field p r name) (λ (f : FoundField). declared_type_of p f.field) Label e in
          let q = of_class (class_of_receiver r) (λ class. field_named p.classes class name) f.0 f.1 in field_no_label q.0 name f.0 q.2 f.2

  call_no_label : (r : Receiver) (name : List ℕ) → NoLabel (call_type p r name)
  unfolding call_type
  call_no_label r name e =
      let f = of_option (called_method p r name) (λ (f : FoundMethod). declared_type_of p f.method.declared) Label e in
      let q = of_class (class_of_receiver r) (λ class. method_named p.classes class name) f.0 f.1 in method_no_label q.0 name f.0 q.2 f.2

  expression_no_label : (id : ℕ) (node : Node) → is_expression node ≡ true → ((position : Position) (inner : ℕ) → node ≡ Parenthesized position inner → NoLabel (types inner)) → NoLabel (type_of p types id node)
  unfolding type_of is_expression
  expression_no_label id (Number position value is_negative) k h e = int_no_label e
  expression_no_label id (True position) k h e = boolean_no_label e
  expression_no_label id (False position) k h e = boolean_no_label e
  expression_no_label id (Null position) k h e = (let f : NullTy ≡ Label = some_inj NullTy Label e in cc (f))
  expression_no_label id (ThisNode position) k h e = class_named_no_label (context p id).class e
  expression_no_label id (SimpleName position name) k h e = meaning_no_label id name e
  expression_no_label id (Parenthesized position inner) k h e = h position inner refl e
  expression_no_label id (Binary position operator left operand) k h e =
      let a = of_option (types left) (λ a. option_and_then (binary_type p.classes operator a) (types operand)) Label e in
      let b = of_option (types operand) (binary_type p.classes operator a.0) Label a.2 in binary_no_label p.classes operator a.0 b.0 b.2
  expression_no_label id (Unary position operator operand) k h e = (let a = of_option (types operand) (unary_type operator) Label e in unary_no_label operator a.0 a.2)
  expression_no_label id (Cast position name_position name operand) k h e =
      (let a = of_option (types operand) (λ t. option_map (λ class. ClassTy class) (class_number p.names name)) Label e in class_named_no_label (class_number p.names name) a.2)
  expression_no_label id (FieldAccess position name object) k h e = (let a = of_option (receiver p types object) (λ r. access_type p r name) Label e in access_no_label a.0 name a.2)
  expression_no_label id (Call position name object arguments) k h e =
      let a = of_option (call_receiver p types id object) (λ r. option_and_then (λ ts. call_type p r name) (all_types types arguments)) Label e in
      let b = of_option (all_types types arguments) (λ ts. call_type p a.0 name) Label a.2 in call_no_label a.0 name b.2
  expression_no_label id (Element position array index) k h e =
      let a = of_option (types array) (λ a. option_and_then (λ i. element_type a) (types index)) Label e in
      let b = of_option (types index) (λ i. element_type a.0) Label a.2 in element_no_label a.0 b.2
  expression_no_label id (New position name_position name arguments) k h e =
      if_no_label _ None (option_and_then (λ ts. option_map (λ class. ClassTy class) (class_number p.names name)) (all_types types arguments)) none_no_label
      (λ e. (let a = of_option (all_types types arguments) (λ ts. option_map (λ class. ClassTy class) (class_number p.names name)) Label e in class_named_no_label (class_number p.names name) a.2)) e
  expression_no_label id (NewArray position element size) k h e =
      let a = of_option (types size) (λ n. option_and_then array_of (written_type p element)) Label e in
      let b = of_option (written_type p element) array_of Label a.2 in array_no_label b.0 b.2
  expression_no_label id _ k h e = absurd (true≢false (sym k))

  abbrev NoLabelBelow : ℕ → Type 0
  NoLabelBelow n = (x : ℕ) (node : Node) → x < n → slice_get forest.nodes x ≡ Some node → is_expression node ≡ true → NoLabel (types x)

  inner_at : (id : ℕ) (node : Node) (position : Position) (inner : ℕ) → slice_get forest.nodes id ≡ Some node → node ≡ Parenthesized position inner → (o : Of is_expression forest.nodes inner) × (inner < id)
  unfolding HasRightChildren children
  inner_at id node position inner there e =
      let stands : slice_get forest.nodes id ≡ Some (Parenthesized position inner) = there ∙ ap (λ n. Some n) e in
      (sorted.each id (Parenthesized position inner) stands, child-less forest whole id inner (Parenthesized position inner) stands (same_first forest accepted whole sorted inner []))

  no_label_below : (n : ℕ) → NoLabelBelow n
  no_label_below zero x node l there k e = omega (arith, l)
  no_label_below (suc n) x node l there k e = step (no_label_below n)
    where
      step : NoLabelBelow n → ⊥
      step ih =
          expression_no_label x node k (λ position inner same. (let i = inner_at x node position inner there same in let o = i.0 in ih inner o.node (let m = i.1 in omega (arith, l, m)) o.is_there o.passes))
          (sym (type_is forest accepted whole sorted x node there) ∙ e)

  -- each expression in a body is judged
  pub judged : (b c id : ℕ) (node : Node) → slice_get forest.nodes id ≡ Some node → Inside p b c id → IsValue p id node → is_expression node ≡ true → (o : Option Kind) × Judged p id o
  judged b c id node there inside v k =
      let t = value_has_type forest accepted whole sorted b c id node there inside v in
      judged_type p id t.0 t.1 (λ e. no_label_below (suc id) id node (omega arith) there k (t.1 ∙ ap (λ t. Some t) e))
      (λ r. value_has_scope forest accepted whole sorted b c id node t.0 there inside v t.1 r)
