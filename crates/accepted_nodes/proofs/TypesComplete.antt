-- In an accepted program each expression in a body has a type: no type is missing.
use Rattle.std.proofs.Common.{◌≡◌, ℕ, ◌<◌, zero, suc, List, [], ◌∷◌, refl, sym, ap, ◌∙◌, arith, Option, Some, None, Bool, true, false, not, ◌||◌, ◌&&◌, true≢false, ◌⊎◌, inl, inr, option_and_then, option_map, is_some, slice_get, if◌then◌else◌, ◌==◌}
use Rattle.scj_base.specs.Bytes.{is_same}
use Rattle.scj_base.specs.declared.positions.Position.{Position}
use Rattle.scj_tree.specs.declared.nodes.Node.{Node}
use Rattle.scj_tree.specs.declared.nodes.Node.TheVariants.{Binary, Unary, Cast, Parenthesized, SimpleName, FieldAccess, Call, Element, New, NewArray, Text, Number, True, False, Null, This as ThisNode}
use Rattle.scj_tree.specs.Forest.{Forest, IsForest}
use Rattle.scj_tree.specs.Shape.{children}
use Rattle.scj_rules.specs.declared.typing.FoundField.{FoundField}
use Rattle.scj_rules.specs.declared.typing.Meaning.{Meaning}
use Rattle.scj_rules.specs.declared.typing.Meaning.TheVariants.{Class as a_class, Field as a_field, Nothing as nothing, Variable as a_variable}
use Rattle.scj_rules.specs.declared.typing.Receiver.{Receiver}
use Rattle.scj_rules.specs.declared.typing.Receiver.TheVariants.{Class as the_class, Value as the_value, Own as own_object}
use Rattle.scj_rules.specs.declared.typing.Ty.{Ty}
use Rattle.scj_rules.specs.declared.typing.Ty.TheVariants.{Int, Bool as Boolean, NullTy, Label, Class as ClassTy, IntArray, BoolArray, ClassArray}
use Rattle.scj_rules.specs.declared.views.Declared.{Declared}
use Rattle.scj_rules.specs.Definitions.{read}
use Rattle.scj_rules.specs.Words.{is_among, holds}
use Rattle.scj_rules.specs.Views.{variable_at}
use Rattle.scj_rules.specs.Classes.{FoundMethod, class_number, field_named, method_named}
use Rattle.scj_rules.specs.Contexts.{Declarations, declarations_of, context, object_of, variable_named, known_variables}
use Rattle.scj_rules.specs.Types.{element_type, is_array, is_int, array_of, binary_type, unary_type, meaning, class_meaning, class_in, class_at_name, receiver, call_receiver, class_of_receiver, accessed_field, called_method, is_no_reference, is_length_of_array, is_callable, is_value, all_types, is_form_part}
use Rattle.scj_rules.specs.TypeRules.{Types, type_of, type_of_meaning, access_type, call_type, declared_type_of, written_type, class_type_named, denotes_no_declaration, lacks_field, lacks_method, cannot_be_called, type_breaks}
use Rattle.scj_rules.specs.Phases.{IsAccepted}
use Rattle.scj_rules.proofs.ChainLemmas.{or_left, or_right, is_same_number}
use Rattle.scj_rules.proofs.ParentLemmas.{child-less}
use Rattle.accepted_laws.specs.Judgements.{type_at_node, HasType, Inside, IsValue}
use Rattle.accepted_laws.specs.Sorts.{Of, AllOf, HasRightChildren, IsWellSorted, is_argument, is_expression}
use Rattle.accepted_laws.proofs.Breaks.{no_break_at_node, type_phase_empty}
use Rattle.accepted_nodes.proofs.DeclaredTypes.{variable_has_type, new_names_class, cast_names_class, new_array_has_type}
use Rattle.accepted_nodes.proofs.FormParts.{takes_parts, held, no_part}
use Rattle.accepted_nodes.proofs.FoundMembers.{found_field_type, called_has_type}
use Rattle.accepted_laws.proofs.InnerNodes.{inner_argument}
use Rattle.accepted_laws.proofs.Children.{among_of}
use Rattle.accepted_laws.proofs.MethodNodes.{find_passes}
use Rattle.accepted_laws.proofs.Fields.{in_find}
use Rattle.accepted_laws.proofs.Subtypes.{among_in}
use Rattle.accepted_laws.proofs.SortSteps.{expression_is_argument}
use Rattle.accepted_nodes.proofs.TypeBreaks.{right_name, right_binary, right_unary, right_element, right_access, right_call, RightCall}
use Rattle.accepted_laws.proofs.Typed.{types_are, behind_children}
use Rattle.accepted_nodes.proofs.ValueChildren.{inside_child, value_child, not_first}

pub some_of : (o : Option Ty) → not (is_some o) ≡ false → HasType o
some_of None e = absurd (true≢false e)
some_of (Some t) e = (t, refl)

-- what two typed operands give where they fit
both_fit : (a b : Option Ty) (f : Ty → Ty → Option Ty) → HasType a → HasType b → holds a (λ a. holds b (λ b. not (is_some (f a b)))) ≡ false → HasType (option_and_then (λ a. option_and_then (f a) b) a)
both_fit a b f s t e =
    let r = some_of (f s.0 t.0) (sym (ap (λ (o : Option Ty). holds o (λ a. holds b (λ b. not (is_some (f a b))))) s.1 ∙ ap (λ (o : Option Ty). holds o (λ b. not (is_some (f s.0 b)))) t.1) ∙ e) in
    (r.0, ap (λ (o : Option Ty). option_and_then (λ a. option_and_then (f a) b) o) s.1 ∙ ap (option_and_then (f s.0)) t.1 ∙ r.1)

one_fits : (a : Option Ty) (f : Ty → Option Ty) → HasType a → holds a (λ a. not (is_some (f a))) ≡ false → HasType (option_and_then f a)
one_fits a f s e =
    let r = some_of (f s.0) (sym (ap (λ (o : Option Ty). holds o (λ a. not (is_some (f a)))) s.1) ∙ e) in
    (r.0, ap (option_and_then f) s.1 ∙ r.1)

-- an array has elements of a type
element_there : (a i : Ty) → not (is_array a && is_int i) ≡ false → HasType (element_type a)
unfolding is_array element_type
element_there IntArray i e = (Int, refl)
element_there BoolArray i e = (Boolean, refl)
element_there (ClassArray c) i e = (ClassTy c, refl)
element_there _ i e = absurd (true≢false e)

-- what is found has a field or a method, where the rules find none missing
pub found_there : {A : Type 0} (o : Option A) (test : A → Bool) → (elim o as (λ _. Bool) [ None ↦ true | Some x ↦ test x ]) ≡ false → (x : A) × (o ≡ Some x) × (test x ≡ false)
found_there None test e = absurd (true≢false e)
found_there (Some x) test e = (x, refl, e)

first_true : (a b : Bool) → (not a && b) ≡ false → (a ≡ true) ⊎ (b ≡ false)
first_true true b e = inl refl
first_true false b e = inr e

or_first : (a b : Bool) → (a || b) ≡ false → a ≡ false
or_first true b e = e
or_first false b e = refl

not_false : (t : Bool) → not t ≡ false → t ≡ true
not_false true e = refl
not_false false e = absurd (true≢false e)

-- what a receiver's class has
pub of_class : {A : Type 0} (o : Option ℕ) (f : ℕ → Option A) (y : A) → option_and_then f o ≡ Some y → (class : ℕ) × (o ≡ Some class) × (f class ≡ Some y)
of_class None f y e = absurd (cc (e))
of_class (Some c) f y e = (c, refl, e)

module _ (forest : Forest) (accepted : IsAccepted forest) (whole : IsForest forest) (sorted : IsWellSorted forest.nodes) where
  abbrev p : Declarations
  p = declarations_of forest

  abbrev types : Types
  types = type_at_node p

  -- the values below a number have types
  abbrev TypedBelow : ℕ → ℕ → ℕ → Type 0
  TypedBelow b c n = (x : ℕ) (node : Node) → x < n → slice_get forest.nodes x ≡ Some node → Inside p b c x → IsValue p x node → HasType (types x)

  -- ---- names

  pub variable_meant : (id v : ℕ) (name : List ℕ) → variable_named p id name ≡ Some v → (d : Declared) × (variable_at p.nodes v ≡ Some d) × (is_among v (known_variables p id) ≡ true)
  unfolding variable_named
  variable_meant id v name e =
      let test : ℕ → Bool = λ v. holds (variable_at p.nodes v) (λ (d : Declared). is_same name d.name) in
      let q = held (variable_at p.nodes v) (λ (d : Declared). is_same name d.name) (find_passes test v (known_variables p id) e) in
      (q.0, q.1, among_in v (known_variables p id) (in_find test v (known_variables p id) e))

  meaning_typed : (id : ℕ) (name : List ℕ) → denotes_no_declaration (meaning p id name) ≡ false → class_in (meaning p id name) ≡ None → HasType (type_of_meaning p (meaning p id name))
  unfolding meaning class_meaning denotes_no_declaration class_in type_of_meaning
  meaning_typed id name e n = go (variable_named p id name) refl (option_and_then (λ class. field_named p.classes class name) (context p id).class) refl (context p id).before_dot (class_number p.names name) e n
    where
      last : Bool → Option ℕ → Meaning
      last t o = if t then (elim o as (λ _. Meaning) [ None ↦ nothing | Some class ↦ a_class class ]) else nothing

      of : Option ℕ → Option FoundField → Bool → Option ℕ → Meaning
      of v f t o = elim v as (λ _. Meaning) [ Some v ↦ a_variable v | None ↦ elim f as (λ _. Meaning) [ Some f ↦ a_field f | None ↦ last t o ] ]

      go : (v : Option ℕ) → variable_named p id name ≡ v → (f : Option FoundField) → option_and_then (λ class. field_named p.classes class name) (context p id).class ≡ f → (t : Bool) (o : Option ℕ) → denotes_no_declaration (of v f t o) ≡ false → class_in (of v f t o) ≡ None → HasType (type_of_meaning p (of v f t o))
      go (Some v) a f b t o e n =
          let d = variable_meant id v name a in
          let t = variable_has_type forest accepted sorted v d.0 d.1 in
          (t.0, ap (option_and_then (declared_type_of p)) d.1 ∙ t.1)
      go None a (Some f) b t o e n = (let q = of_class (context p id).class (λ class. field_named p.classes class name) f b in found_field_type forest accepted whole sorted q.0 name f q.2)
      go None a None b true (Some class) e n = absurd (cc (n))
      go None a None b true None e n = absurd (true≢false e)
      go None a None b false o e n = absurd (true≢false e)

  -- ---- receivers

  -- a receiver before a dot: a class that is named, or a value with a type
  abbrev pub ClassOrValue : ℕ → Node → Type 0
  ClassOrValue object node =
      ((class : ℕ) × (class_at_name p object node ≡ Some class) × (receiver p types object ≡ Some (the_class class)))
      ⊎ ((u : Ty) × (class_at_name p object node ≡ None) × (types object ≡ Some u) × (receiver p types object ≡ Some (the_value u)))

  pub receiver_cases : (object : ℕ) (node : Node) → slice_get forest.nodes object ≡ Some node → (class_at_name p object node ≡ None → HasType (types object)) → ClassOrValue object node
  unfolding receiver declarations_of
  receiver_cases object node there typed =
      go (class_at_name p object node) refl (ap (λ (o : Option Node). option_and_then (class_at_name p object) o) there)
    where
      go : (o : Option ℕ) → class_at_name p object node ≡ o → read p.nodes (class_at_name p object) object ≡ class_at_name p object node → ClassOrValue object node
      go (Some class) e f = inl (class, e, ap (λ (o : Option ℕ). elim o as (λ _. Option Receiver) [ Some class ↦ Some (the_class class) | None ↦ option_map (λ t. the_value t) (types object) ]) (f ∙ e))
      go None e f =
          let t = typed e in
          inr (t.0, e, t.1, ap (λ (o : Option ℕ). elim o as (λ _. Option Receiver) [ Some class ↦ Some (the_class class) | None ↦ option_map (λ t. the_value t) (types object) ]) (f ∙ e) ∙ ap (option_map (λ t. the_value t)) t.1)

  pub receiver_there : (object : ℕ) (node : Node) → slice_get forest.nodes object ≡ Some node → (class_at_name p object node ≡ None → HasType (types object)) → (r : Receiver) × (receiver p types object ≡ Some r)
  receiver_there object node there typed = elim (receiver_cases object node there typed) as (λ z. (r : Receiver) × (receiver p types object ≡ Some r)) [ inl q ↦ (the_class q.0, q.2) | inr q ↦ (the_value q.0, q.3) ]

  access_typed : (id : ℕ) (name : List ℕ) (r : Receiver) → is_no_reference r ≡ false → lacks_field p r name ≡ false → HasType (access_type p r name)
  unfolding lacks_field access_type
  access_typed id name r n l = go (is_length_of_array r name) (accessed_field p r name) refl (first (is_no_reference r) _ n l)
    where
      first : (a b : Bool) → a ≡ false → (not a && b) ≡ false → b ≡ false
      first true b n e = absurd (true≢false n)
      first false b n e = e

      go : (t : Bool) (o : Option FoundField) → accessed_field p r name ≡ o → (not t && (elim o as (λ _. Bool) [ None ↦ true | Some f ↦ is_value r && f.field.modifiers.is_static ])) ≡ false → HasType (if t then Some Int else option_and_then (λ (f : FoundField). declared_type_of p f.field) o)
      go true o e l = (Int, refl)
      go false None e l = absurd (true≢false l)
      go false (Some f) e l = (let q = of_class (class_of_receiver r) (λ class. field_named p.classes class name) f e in found_field_type forest accepted whole sorted q.0 name f q.2)

  pub method_there : (r : Receiver) (name : List ℕ) → is_no_reference r ≡ false → lacks_method p r name ≡ false → (f : FoundMethod) × (called_method p r name ≡ Some f) × (is_callable p f ≡ true)
  unfolding lacks_method
  method_there r name n l =
      let q = found_there (called_method p r name) (cannot_be_called p r) (first (is_no_reference r) _ n l) in
      (q.0, q.1, not_false (is_callable p q.0) (or_first (not (is_callable p q.0)) _ q.2))
    where
      first : (a b : Bool) → a ≡ false → (not a && b) ≡ false → b ≡ false
      first true b n e = absurd (true≢false n)
      first false b n e = e

  call_typed : (r : Receiver) (name : List ℕ) → is_no_reference r ≡ false → lacks_method p r name ≡ false → HasType (call_type p r name)
  unfolding call_type
  call_typed r name n l =
      let f = method_there r name n l in
      let q = of_class (class_of_receiver r) (λ class. method_named p.classes class name) f.0 f.1 in
      let t = called_has_type forest accepted whole sorted q.0 name f.0 q.2 f.2 in
      (t.0, ap (option_and_then (λ (f : FoundMethod). declared_type_of p f.method.declared)) f.1 ∙ t.1)

  -- ---- lists of values

  pub all_typed : (ids : List ℕ) → ((x : ℕ) → is_among x ids ≡ true → HasType (types x)) → (ts : List Ty) × (all_types types ids ≡ Some ts)
  unfolding all_types
  all_typed [] h = ([], refl)
  all_typed (x ∷ ids) h =
      let t = h x (or_left (x == x) (is_among x ids) (is_same_number x x refl)) in
      let q = all_typed ids (λ y k. h y (or_right (y == x) (is_among y ids) k)) in
      (t.0 ∷ q.0, ap (λ (o : Option Ty). option_and_then (λ t. option_map (λ ts. t ∷ ts) (all_types types ids)) o) t.1 ∙ ap (option_map (λ ts. t.0 ∷ ts)) q.1)

  -- ---- each kind of expression

  pub unbroken : (id : ℕ) (node : Node) → slice_get forest.nodes id ≡ Some node → type_breaks p types id node ≡ []
  unfolding declarations_of
  unbroken id node there = (no_break_at_node forest accepted id node there).no_type_rule

  -- a value that stands in a body, before a number
  pub record ValueAt (b c n x : ℕ) : Type 0 where
    pub node : Node
    pub is_there : slice_get forest.nodes x ≡ Some node
    pub less : x < n
    pub inside : Inside p b c x
    pub value : IsValue p x node

  module _ (b c id : ℕ) (node : Node) (there : slice_get forest.nodes id ≡ Some node) (inside : Inside p b c id) where
    -- a child that stands for a value
    pub value_at : is_argument node ≡ true → (x : ℕ) → is_among x (children node) ≡ true → (o : Of is_argument forest.nodes x) → class_at_name p x o.node ≡ None → takes_parts p id node ≡ false → ValueAt b c id x
    value_at argument x among o named takes =
        record {
          node = o.node;
          is_there = o.is_there;
          less = child-less forest whole id x node there among;
          inside = inside_child forest whole accepted b c id x node o.node inside there (inner_argument node argument) among o.is_there;
          value = record { is_argument = o.passes; no_class = named; no_form_part = no_part forest whole accepted id x node there among takes };
        }

    -- one that doesn't stand before a dot
    pub child_at : is_argument node ≡ true → (x : ℕ) → is_among x (children node) ≡ true → (o : Of is_argument forest.nodes x) → holds (object_of node) (λ object. object == x) ≡ false → takes_parts p id node ≡ false → ValueAt b c id x
    child_at argument x among o plain takes = value_at argument x among o (value_child forest whole accepted id x node there among o plain takes).no_class takes

  module _ (b c id : ℕ) (node : Node) (there : slice_get forest.nodes id ≡ Some node) (inside : Inside p b c id) (below : TypedBelow b c id) where
    typed_at : (x : ℕ) → ValueAt b c id x → HasType (types x)
    typed_at x v = below x v.node v.less v.is_there v.inside v.value

    typed_child : is_argument node ≡ true → (x : ℕ) → is_among x (children node) ≡ true → (o : Of is_argument forest.nodes x) → holds (object_of node) (λ object. object == x) ≡ false → takes_parts p id node ≡ false → HasType (types x)
    typed_child argument x among o plain takes = typed_at x (child_at b c id node there inside argument x among o plain takes)

    object_typed : is_argument node ≡ true → (object : ℕ) → is_among object (children node) ≡ true → (o : Of is_argument forest.nodes object) → takes_parts p id node ≡ false → class_at_name p object o.node ≡ None → HasType (types object)
    object_typed argument object among o takes e = typed_at object (value_at b c id node there inside argument object among o e takes)

  pub at_p : (id : ℕ) (node : Node) → slice_get forest.nodes id ≡ Some node → slice_get p.nodes id ≡ Some node
  unfolding declarations_of
  at_p id node there = there

  pub of_expression : (x : ℕ) → Of is_expression forest.nodes x → Of is_argument forest.nodes x
  of_expression x o = record { node = o.node; is_there = o.is_there; passes = expression_is_argument o.node o.passes }

  pub same_first : (x : ℕ) (ids : List ℕ) → is_among x (x ∷ ids) ≡ true
  same_first x ids = or_left (x == x) (is_among x ids) (is_same_number x x refl)

  pub same_second : (x y : ℕ) (ids : List ℕ) → is_among y (x ∷ y ∷ ids) ≡ true
  same_second x y ids = or_right (y == x) (is_among y (y ∷ ids)) (same_first y ids)

  abbrev Typed : ℕ → Node → Type 0
  Typed id node = (b c : ℕ) → slice_get forest.nodes id ≡ Some node → Inside p b c id → TypedBelow b c id → HasType (type_of p types id node)

  binary_typed : (id : ℕ) (position : Position) (operator left operand : ℕ) → Typed id (Binary position operator left operand)
  unfolding type_of children is_argument is_expression object_of takes_parts HasRightChildren
  binary_typed id position operator left operand b c there inside below =
      let s = sorted.each id (Binary position operator left operand) there in
      let x = typed_child b c id _ there inside below refl left (same_first left (operand ∷ [])) (of_expression left s.0) refl refl in
      let y = typed_child b c id _ there inside below refl operand (same_second left operand []) (of_expression operand s.1) refl refl in
      both_fit (types left) (types operand) (binary_type p.classes operator) x y (right_binary p types id position operator left operand (unbroken id _ there))

  unary_typed : (id : ℕ) (position : Position) (operator operand : ℕ) → Typed id (Unary position operator operand)
  unfolding type_of children is_argument is_expression object_of takes_parts HasRightChildren
  unary_typed id position operator operand b c there inside below =
      let s = sorted.each id (Unary position operator operand) there in
      let x = typed_child b c id _ there inside below refl operand (same_first operand []) (of_expression operand s) refl refl in
      one_fits (types operand) (unary_type operator) x (right_unary p types id position operator operand (unbroken id _ there))

  cast_typed : (id : ℕ) (position name_position : Position) (name : List ℕ) (operand : ℕ) → Typed id (Cast position name_position name operand)
  unfolding type_of children is_argument is_expression object_of takes_parts HasRightChildren
  cast_typed id position name_position name operand b c there inside below =
      let s = sorted.each id (Cast position name_position name operand) there in
      let x = typed_child b c id _ there inside below refl operand (same_first operand []) (of_expression operand s) refl refl in
      let n = cast_names_class forest accepted sorted id position name_position name operand (at_p id _ there) in
      (ClassTy n.0, ap (option_and_then (λ t. class_type_named p name)) x.1 ∙ ap (option_map (λ class. ClassTy class)) n.1)

  element_typed : (id : ℕ) (position : Position) (array index : ℕ) → Typed id (Element position array index)
  unfolding type_of children is_argument is_expression object_of takes_parts HasRightChildren
  element_typed id position array index b c there inside below =
      let s = sorted.each id (Element position array index) there in
      let x = typed_child b c id _ there inside below refl array (same_first array (index ∷ [])) (of_expression array s.0) refl refl in
      let y = typed_child b c id _ there inside below refl index (same_second array index []) (of_expression index s.1) refl refl in
      let r = right_element p types id position array index (unbroken id _ there) in
      let t = element_there x.0 y.0 (sym (ap (λ (o : Option Ty). holds o (λ a. holds (types index) (λ i. not (is_array a && is_int i)))) x.1 ∙ ap (λ (o : Option Ty). holds o (λ i. not (is_array x.0 && is_int i))) y.1) ∙ r) in
      (t.0, ap (option_and_then (λ a. option_and_then (λ i. element_type a) (types index))) x.1 ∙ ap (option_and_then (λ i. element_type x.0)) y.1 ∙ t.1)

  new_array_typed : (id : ℕ) (position : Position) (element size : ℕ) → Typed id (NewArray position element size)
  unfolding type_of children is_argument is_expression object_of takes_parts HasRightChildren
  new_array_typed id position element size b c there inside below =
      let s = sorted.each id (NewArray position element size) there in
      let x = typed_child b c id _ there inside below refl size (same_second element size []) (of_expression size s.1) refl refl in
      let t = new_array_has_type forest accepted sorted id position element size (at_p id _ there) in
      (t.0, ap (option_and_then (λ n. option_and_then array_of (written_type p element))) x.1 ∙ t.1)

  parenthesized_typed : (id : ℕ) (position : Position) (inner : ℕ) → Typed id (Parenthesized position inner)
  unfolding type_of children is_argument is_expression object_of takes_parts HasRightChildren
  parenthesized_typed id position inner b c there inside below =
      let s = sorted.each id (Parenthesized position inner) there in
      typed_child b c id _ there inside below refl inner (same_first inner []) (of_expression inner s) refl refl

  access_there : (id : ℕ) (position : Position) (name : List ℕ) (object : ℕ) → Typed id (FieldAccess position name object)
  unfolding type_of children is_argument is_expression object_of takes_parts HasRightChildren
  access_there id position name object b c there inside below =
      let s = sorted.each id (FieldAccess position name object) there in
      let o = of_expression object s in
      let r = receiver_there object o.node o.is_there (object_typed b c id _ there inside below refl object (same_first object []) o refl) in
      let w = right_access p types id position name object (unbroken id _ there) in
      let t = access_typed id name r.0 (sym (ap (λ (o : Option Receiver). holds o is_no_reference) r.1) ∙ w.of_reference) (sym (ap (λ (o : Option Receiver). holds o (λ r. lacks_field p r name)) r.1) ∙ w.has_field) in
      (t.0, ap (option_and_then (λ r. access_type p r name)) r.1 ∙ t.1)

  -- a call that has a receiver, and whose arguments have types
  called_there : (id : ℕ) (position : Position) (name : List ℕ) (object : Option ℕ) (arguments : List ℕ) (r : Receiver) (ts : List Ty) → call_receiver p types id object ≡ Some r → all_types types arguments ≡ Some ts
      → RightCall p types id object arguments name → HasType (type_of p types id (Call position name object arguments))
  unfolding type_of
  called_there id position name object arguments r ts e f w =
      let both : (test : Receiver → Bool) → holds (call_receiver p types id object) (λ r. holds (all_types types arguments) (λ ts. test r)) ≡ test r
      = λ test. ap (λ (o : Option Receiver). holds o (λ r. holds (all_types types arguments) (λ ts. test r))) e ∙ ap (λ (o : Option (List Ty)). holds o (λ ts. test r)) f in
      let t = call_typed r name (sym (both is_no_reference) ∙ w.of_reference) (sym (both (λ r. lacks_method p r name)) ∙ w.has_method) in
      (t.0, ap (λ (o : Option Receiver). option_and_then (λ r. option_and_then (λ ts. call_type p r name) (all_types types arguments)) o) e ∙ ap (λ (o : Option (List Ty)). option_and_then (λ ts. call_type p r name) o) f ∙ t.1)

  pub all_of : (x : ℕ) (ids : List ℕ) → AllOf is_argument forest.nodes ids → is_among x ids ≡ true → Of is_argument forest.nodes x
  all_of x ids h e = among_of forest.nodes is_argument x ids h e

  call_there : (id : ℕ) (position : Position) (name : List ℕ) (object : Option ℕ) (arguments : List ℕ) → Typed id (Call position name object arguments)
  unfolding children is_argument is_expression object_of takes_parts HasRightChildren call_receiver
  call_there id position name None arguments b c there inside below =
      let s = sorted.each id (Call position name None arguments) there in
      let ts = all_typed arguments (λ x among. typed_child b c id _ there inside below refl x among (all_of x arguments s.1 among) refl refl) in
      called_there id position name None arguments (own_object c) ts.0 (ap (option_map (λ class. own_object class)) inside.class) ts.1 (right_call p types id position name None arguments (unbroken id _ there))
  call_there id position name (Some object) arguments b c there inside below =
      let s = sorted.each id (Call position name (Some object) arguments) there in
      let o = of_expression object s.0 in
      let ts = all_typed arguments
      (λ x among. typed_child b c id _ there inside below refl x (or_right (x == object) (is_among x arguments) among) (all_of x arguments s.1 among) (not_first forest whole accepted id x object _ arguments there refl among) refl) in
      let r = receiver_there object o.node o.is_there (object_typed b c id _ there inside below refl object (same_first object arguments) o refl) in
      called_there id position name (Some object) arguments r.0 ts.0 r.1 ts.1 (right_call p types id position name (Some object) arguments (unbroken id _ there))

  new_there : (id : ℕ) (position name_position : Position) (name arguments : List ℕ) → is_form_part p id ≡ false → Typed id (New position name_position name arguments)
  unfolding type_of children is_argument is_expression object_of takes_parts HasRightChildren
  new_there id position name_position name arguments plain b c there inside below =
      let s = sorted.each id (New position name_position name arguments) there in
      let ts = all_typed arguments (λ x among. typed_child b c id _ there inside below refl x among (all_of x arguments s among) refl plain) in
      let n = new_names_class forest accepted sorted id position name_position name arguments (at_p id _ there) in
      (ClassTy n.0, ap (λ t. if t then None else option_and_then (λ ts. class_type_named p name) (all_types types arguments)) plain ∙ ap (option_and_then (λ ts. class_type_named p name)) ts.1 ∙ ap (option_map (λ class. ClassTy class)) n.1)

  typed_of : (id : ℕ) (node : Node) → IsValue p id node → Typed id node
  unfolding type_of is_argument is_expression class_at_name
  typed_of id (Number position value is_negative) v b c there inside below = (Int, refl)
  typed_of id (True position) v b c there inside below = (Boolean, refl)
  typed_of id (False position) v b c there inside below = (Boolean, refl)
  typed_of id (Null position) v b c there inside below = (NullTy, refl)
  typed_of id (Text position text) v b c there inside below = (Label, refl)
  typed_of id (ThisNode position) v b c there inside below = (ClassTy c, ap (option_map (λ class. ClassTy class)) inside.class)
  typed_of id (SimpleName position name) v b c there inside below =
      (let w = right_name p types id position name (unbroken id _ there) in meaning_typed id name w.means_something v.no_class)
  typed_of id (Parenthesized position inner) v b c there inside below = parenthesized_typed id position inner b c there inside below
  typed_of id (Binary position operator left operand) v b c there inside below = binary_typed id position operator left operand b c there inside below
  typed_of id (Unary position operator operand) v b c there inside below = unary_typed id position operator operand b c there inside below
  typed_of id (Cast position name_position name operand) v b c there inside below = cast_typed id position name_position name operand b c there inside below
  typed_of id (FieldAccess position name object) v b c there inside below = access_there id position name object b c there inside below
  typed_of id (Call position name object arguments) v b c there inside below = call_there id position name object arguments b c there inside below
  typed_of id (Element position array index) v b c there inside below = element_typed id position array index b c there inside below
  typed_of id (New position name_position name arguments) v b c there inside below = new_there id position name_position name arguments v.no_form_part b c there inside below
  typed_of id (NewArray position element size) v b c there inside below = new_array_typed id position element size b c there inside below
  typed_of id _ v b c there inside below = absurd (true≢false (sym v.is_argument))

  pub type_is : (x : ℕ) (node : Node) → slice_get forest.nodes x ≡ Some node → types x ≡ type_of p types x node
  unfolding declarations_of
  type_is x node there = (types_are p (behind_children forest whole) (type_phase_empty forest accepted) x node there).1

  typed_below : (b c n : ℕ) → TypedBelow b c n
  typed_below b c zero x node l there inside v = absurd (omega (arith, l))
  typed_below b c (suc n) x node l there inside v = step (typed_below b c n)
    where
      step : TypedBelow b c n → HasType (types x)
      step ih =
          let t = typed_of x node v b c there inside (λ y child m. ih y child (omega (arith, l, m))) in
          (t.0, type_is x node there ∙ t.1)

  -- each expression in a body has a type
  pub value_has_type : (b c id : ℕ) (node : Node) → slice_get forest.nodes id ≡ Some node → Inside p b c id → IsValue p id node → HasType (types id)
  value_has_type b c id node there inside v = typed_below b c (suc id) id node (omega arith) there inside v
