-- In an accepted program each variable and each field has a type, and so has each result but `long` (C9).
use Rattle.std.proofs.Common.{◌≡◌, ℕ, List, [], refl, sym, ap, ◌∙◌, subst, Option, Some, None, Bool, true, false, not, true≢false, ◌⊎◌, inl, inr, option_and_then, option_map, unwrap_or, is_some, slice_get}
use Rattle.scj_base.specs.declared.findings.Rule.TheVariants.{C9}
use Rattle.scj_base.specs.declared.positions.Position.{Position}
use Rattle.scj_tree.specs.declared.nodes.Node.{Node}
use Rattle.scj_tree.specs.declared.nodes.Node.TheVariants.{IntType, BooleanType, ClassType, VoidType, LongType, Field, Method, Parameter, Local, LocalWithValue, Cast, New, NewArray}
use Rattle.scj_tree.specs.Forest.{Forest}
use Rattle.scj_rules.specs.declared.typing.Ty.TheVariants.{Int, Bool as Boolean, Void, Class as ClassTy, IntArray, BoolArray, ClassArray}
use Rattle.scj_rules.specs.declared.views.Declared.{Declared}
use Rattle.scj_rules.specs.declared.views.WrittenType.TheVariants.{Long as long_type, Void as void_type}
use Rattle.scj_rules.specs.Words.{found_at, holds}
use Rattle.scj_rules.specs.Views.{DeclaredMethod, type_of_node, type_at, variable_at, variable_of, field_at, field_of, method_at, method_of}
use Rattle.scj_rules.specs.Classes.{class_number}
use Rattle.scj_rules.specs.ClassRules.{c9, c9_type, c9_element, c11, node_breaks, at_node, names_no_type, names_no_class, is_type_class}
use Rattle.scj_rules.specs.Contexts.{Declarations, declarations_of}
use Rattle.scj_rules.specs.Types.{type_written, array_of}
use Rattle.scj_rules.specs.TypeRules.{written_type, declared_type_of}
use Rattle.scj_rules.specs.Phases.{IsAccepted}
use Rattle.accepted_laws.specs.Judgements.{HasType}
use Rattle.accepted_laws.specs.Sorts.{Of, HasRightChildren, IsWellSorted, is_type, is_result, is_element_type}
use Rattle.accepted_laws.proofs.Breaks.{both_empty, right, no_break_at_node}
use Rattle.accepted_laws.proofs.Tools.{some_inj}

not_false : (t : Bool) → not t ≡ false → t ≡ true
not_false true e = refl
not_false false e = absurd (true≢false e)

-- a class's number
abbrev pub HasNumber : Option ℕ → Type 0
HasNumber o = (n : ℕ) × (o ≡ Some n)

pub number_of_held : (o : Option ℕ) (test : ℕ → Bool) → not (holds o test) ≡ false → HasNumber o
number_of_held None test e = absurd (true≢false e)
number_of_held (Some n) test e = (n, refl)

numbered : (o : Option ℕ) → not (is_some o) ≡ false → HasNumber o
numbered None e = absurd (true≢false e)
numbered (Some n) e = (n, refl)

module _ (p : Declarations) where
  written_at : (t : ℕ) (node : Node) → slice_get p.nodes t ≡ Some node → written_type p t ≡ type_written p.names (unwrap_or (type_of_node node) void_type)
  written_at t node there = ap (λ (o : Option Node). type_written p.names (unwrap_or (option_and_then type_of_node o) void_type)) there

  class_type_made : (t : ℕ) (position : Position) (name : List ℕ) (argument : Option ℕ) (is_array : Bool) → slice_get p.nodes t ≡ Some (ClassType position name argument is_array) → HasNumber (class_number p.names name) → HasType (written_type p t)
  unfolding type_of_node type_written
  class_type_made t position name argument true there n =
      (ClassArray n.0, written_at t (ClassType position name argument true) there ∙ ap (λ (o : Option ℕ). option_map (λ class. ClassArray class) o) n.1)
  class_type_made t position name argument false there n =
      (ClassTy n.0, written_at t (ClassType position name argument false) there ∙ ap (λ (o : Option ℕ). option_map (λ class. ClassTy class) o) n.1)

  named_type : (t : ℕ) (position : Position) (name : List ℕ) (argument : Option ℕ) (is_array : Bool) → slice_get p.nodes t ≡ Some (ClassType position name argument is_array) → at_node p (c9_type p) t ≡ [] → HasNumber (class_number p.names name)
  unfolding c9_type
  named_type t position name argument is_array there e =
      number_of_held (class_number p.names name) (is_type_class p)
      (right (names_no_type p name) C9 position (sym (ap (λ (o : Option Node). found_at (option_and_then (c9_type p) o) (λ found. found)) there) ∙ e))

  -- the type at a node of a type, where C9 isn't broken
  pub type_made : (t : ℕ) (node : Node) → slice_get p.nodes t ≡ Some node → is_type node ≡ true → at_node p (c9_type p) t ≡ [] → HasType (written_type p t)
  unfolding is_type type_of_node type_written
  type_made t (IntType position true) there k e = (IntArray, written_at t (IntType position true) there)
  type_made t (IntType position false) there k e = (Int, written_at t (IntType position false) there)
  type_made t (BooleanType position true) there k e = (BoolArray, written_at t (BooleanType position true) there)
  type_made t (BooleanType position false) there k e = (Boolean, written_at t (BooleanType position false) there)
  type_made t (ClassType position name argument is_array) there k e = class_type_made t position name argument is_array there (named_type t position name argument is_array there e)
  type_made t _ there k e = absurd (true≢false (sym k))

  -- of a result: the same, or `void`, or `long`
  pub result_made : (t : ℕ) (node : Node) → slice_get p.nodes t ≡ Some node → is_result node ≡ true → at_node p (c9_type p) t ≡ [] → (type_at p.nodes t ≡ long_type) ⊎ HasType (written_type p t)
  unfolding is_result is_type type_of_node type_written
  result_made t (VoidType position) there k e = inr (Void, written_at t (VoidType position) there)
  result_made t (LongType position) there k e = inl (ap (λ (o : Option Node). unwrap_or (option_and_then type_of_node o) void_type) there)
  result_made t (IntType position is_array) there k e = inr (type_made t (IntType position is_array) there k e)
  result_made t (BooleanType position is_array) there k e = inr (type_made t (BooleanType position is_array) there k e)
  result_made t (ClassType position name argument is_array) there k e = inr (type_made t (ClassType position name argument is_array) there k e)
  result_made t _ there k e = absurd (true≢false (sym k))

module _ (forest : Forest) (accepted : IsAccepted forest) (sorted : IsWellSorted forest.nodes) where
  abbrev p : Declarations
  p = declarations_of forest

  c9_unbroken : (id : ℕ) (node : Node) → slice_get p.nodes id ≡ Some node → c9 p node ≡ []
  unfolding node_breaks
  c9_unbroken id node there = (let n = no_break_at_node forest accepted id node there in (both_empty (c9 p node) (c11 p id node) n.no_class_rule).0)

  children_at : (id : ℕ) (node : Node) → slice_get p.nodes id ≡ Some node → HasRightChildren p.nodes node
  unfolding declarations_of
  children_at id node there = sorted.each id node there

  of_type : (t : ℕ) → Of is_type p.nodes t → at_node p (c9_type p) t ≡ [] → HasType (written_type p t)
  of_type t o e = type_made p t o.node o.is_there o.passes e

  variable_typed : (id : ℕ) (node : Node) (d : Declared) → HasRightChildren p.nodes node → c9 p node ≡ [] → variable_of p.nodes id node ≡ Some d → HasType (declared_type_of p d)
  unfolding variable_of HasRightChildren c9
  variable_typed id (Parameter position name flags declared_type) d h e k =
      (let t = of_type declared_type h.1 e in (t.0, ap (declared_type_of p) (sym (some_inj _ d k)) ∙ t.1))
  variable_typed id (Local position name flags declared_type) d h e k =
      (let t = of_type declared_type h.1 e in (t.0, ap (declared_type_of p) (sym (some_inj _ d k)) ∙ t.1))
  variable_typed id (LocalWithValue position name_position name flags declared_type value) d h e k =
      (let t = of_type declared_type h.1 e in (t.0, ap (declared_type_of p) (sym (some_inj _ d k)) ∙ t.1))
  variable_typed id _ d h e k = absurd (cc (k))

  -- each variable has a type
  pub variable_has_type : (id : ℕ) (d : Declared) → variable_at p.nodes id ≡ Some d → HasType (declared_type_of p d)
  variable_has_type id d k = go (slice_get p.nodes id) refl k
    where
      go : (o : Option Node) → slice_get p.nodes id ≡ o → option_and_then (variable_of p.nodes id) o ≡ Some d → HasType (declared_type_of p d)
      go None there k = absurd (cc (k))
      go (Some node) there k = variable_typed id node d (children_at id node there) (c9_unbroken id node there) k

  field_typed : (id : ℕ) (node : Node) (d : Declared) → HasRightChildren p.nodes node → c9 p node ≡ [] → field_of p.nodes id node ≡ Some d → HasType (declared_type_of p d)
  unfolding field_of HasRightChildren c9
  field_typed id (Field position name flags declared_type equals value) d h e k =
      (let t = of_type declared_type h.1 e in (t.0, ap (declared_type_of p) (sym (some_inj _ d k)) ∙ t.1))
  field_typed id _ d h e k = absurd (cc (k))

  -- each field has a type
  pub field_has_type : (id : ℕ) (d : Declared) → field_at p.nodes id ≡ Some d → HasType (declared_type_of p d)
  field_has_type id d k = go (slice_get p.nodes id) refl k
    where
      go : (o : Option Node) → slice_get p.nodes id ≡ o → option_and_then (field_of p.nodes id) o ≡ Some d → HasType (declared_type_of p d)
      go None there k = absurd (cc (k))
      go (Some node) there k = field_typed id node d (children_at id node there) (c9_unbroken id node there) k

  abbrev LongOrTyped : Declared → Type 0
  LongOrTyped d = (d.declared_type ≡ long_type) ⊎ HasType (declared_type_of p d)

  result_typed : (id : ℕ) (node : Node) (m : DeclaredMethod) → HasRightChildren p.nodes node → c9 p node ≡ [] → method_of p.nodes id node ≡ Some m → LongOrTyped m.declared
  unfolding method_of HasRightChildren c9
  result_typed id (Method position name flags result_type parameters body) m h e k =
      (let o = h.1 in subst (λ (m : DeclaredMethod). LongOrTyped m.declared) (some_inj _ m k) (result_made p result_type o.node o.is_there o.passes e))
  result_typed id _ m h e k = absurd (cc (k))

  -- each result has a type, but `long`
  pub result_has_type : (id : ℕ) (m : DeclaredMethod) → method_at p.nodes id ≡ Some m → LongOrTyped m.declared
  result_has_type id m k = go (slice_get p.nodes id) refl k
    where
      go : (o : Option Node) → slice_get p.nodes id ≡ o → option_and_then (method_of p.nodes id) o ≡ Some m → LongOrTyped m.declared
      go None there k = absurd (cc (k))
      go (Some node) there k = result_typed id node m (children_at id node there) (c9_unbroken id node there) k

  -- a class is named after `new` and in a cast
  pub new_names_class : (id : ℕ) (position name_position : Position) (name : List ℕ) (arguments : List ℕ) → slice_get p.nodes id ≡ Some (New position name_position name arguments) → HasNumber (class_number p.names name)
  unfolding c9
  new_names_class id position name_position name arguments there = numbered (class_number p.names name) (right (names_no_class p name) C9 name_position (c9_unbroken id (New position name_position name arguments) there))

  pub cast_names_class : (id : ℕ) (position name_position : Position) (name : List ℕ) (operand : ℕ) → slice_get p.nodes id ≡ Some (Cast position name_position name operand) → HasNumber (class_number p.names name)
  unfolding c9
  cast_names_class id position name_position name operand there = numbered (class_number p.names name) (right (names_no_class p name) C9 name_position (c9_unbroken id (Cast position name_position name operand) there))

  -- the elements of a new array have a type, of which there are arrays
  element_made : (t : ℕ) (node : Node) → slice_get p.nodes t ≡ Some node → is_element_type node ≡ true → at_node p (c9_element p) t ≡ [] → HasType (option_and_then array_of (written_type p t))
  unfolding is_element_type type_of_node type_written c9_element array_of
  element_made t (IntType position false) there k e = (IntArray, ap (option_and_then array_of) (written_at p t (IntType position false) there))
  element_made t (BooleanType position false) there k e = (BoolArray, ap (option_and_then array_of) (written_at p t (BooleanType position false) there))
  element_made t (ClassType position name argument false) there k e =
      let n = numbered (class_number p.names name) (right (names_no_class p name) C9 position (sym (ap (λ (o : Option Node). found_at (option_and_then (c9_element p) o) (λ found. found)) there) ∙ e)) in
      (ClassArray n.0, ap (option_and_then array_of) (written_at p t (ClassType position name argument false) there ∙ ap (λ (o : Option ℕ). option_map (λ class. ClassTy class) o) n.1))
  element_made t _ there k e = absurd (true≢false (sym k))

  pub new_array_has_type : (id : ℕ) (position : Position) (element size : ℕ) → slice_get p.nodes id ≡ Some (NewArray position element size) → HasType (option_and_then array_of (written_type p element))
  unfolding c9 HasRightChildren
  new_array_has_type id position element size there =
      let o = (children_at id (NewArray position element size) there).0 in
      element_made element o.node o.is_there o.passes (c9_unbroken id (NewArray position element size) there)
