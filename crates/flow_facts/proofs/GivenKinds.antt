-- What a judged expression gives: one kind only, and a value unless it is a call.
use Rattle.std.proofs.Common.{◌≡◌, ℕ, List, refl, sym, ap, ◌∙◌, Option, Some, None, Bool, true, false, ◌&&◌, true≢false, option_and_then, option_map, slice_get, if◌then◌else◌}
use Rattle.scj_tree.specs.declared.nodes.Node.{Node}
use Rattle.scj_tree.specs.declared.nodes.Node.TheVariants.{Binary, Unary, Cast, SimpleName, FieldAccess, Element, New, NewArray, Number, True, False, Null, This as ThisNode}
use Rattle.scj_tree.specs.Forest.{Forest, IsForest}
use Rattle.scj_rules.specs.declared.typing.FoundField.{FoundField}
use Rattle.scj_rules.specs.declared.typing.Meaning.{Meaning}
use Rattle.scj_rules.specs.declared.typing.Meaning.TheVariants.{Class as a_class, Field as a_field, Nothing as nothing, Variable as a_variable}
use Rattle.scj_rules.specs.declared.typing.Receiver.{Receiver}
use Rattle.scj_rules.specs.declared.typing.Ty.{Ty}
use Rattle.scj_rules.specs.declared.typing.Ty.TheVariants.{Int, Bool as Boolean, Void, NullTy, Class as ClassTy, IntArray, BoolArray, ClassArray}
use Rattle.scj_rules.specs.Classes.{ClassRow, class_number, field_named}
use Rattle.scj_rules.specs.Contexts.{Declarations, declarations_of, context, variable_named}
use Rattle.scj_rules.specs.Types.{binary_type, unary_type, is_boolean, is_int, are_comparable, element_type, array_of, meaning, class_meaning, receiver, class_of_receiver, accessed_field, is_length_of_array, all_types}
use Rattle.scj_rules.specs.TypeRules.{Types, type_of, type_of_meaning, access_type, declared_type_of, written_type}
use Rattle.scj_rules.specs.Phases.{IsAccepted}
use Rattle.accepted_laws.specs.Judgements.{type_at_node, scope_at_node, Judged}
use Rattle.accepted_laws.specs.Kinds.{Kind, kind_of}
use Rattle.accepted_laws.specs.Sorts.{IsWellSorted}
use Rattle.accepted_laws.proofs.Tools.{some_inj}
use Rattle.accepted_nodes.proofs.FoundMembers.{field_found}
use Rattle.accepted_nodes.proofs.ScopesComplete.{of_option}
use Rattle.accepted_nodes.proofs.TypesComplete.{of_class, variable_meant, type_is}
use Rattle.accepted_facts.proofs.DeclaredKinds.{holds_values, variable_holds, field_holds}
use Rattle.accepted_facts.proofs.StatementFacts.{void_no_kind}

-- a node is judged in one way
pub judged_once : (p : Declarations) (id : ℕ) (o q : Option Kind) → Judged p id o → Judged p id q → o ≡ q
unfolding Judged
judged_once p id None None j k = refl
judged_once p id None (Some k) j h =
    absurd (void_no_kind (scope_at_node p id) k (sym (ap (λ t. kind_of t (scope_at_node p id)) j) ∙ h))
judged_once p id (Some k) None j h =
    absurd (void_no_kind (scope_at_node p id) k (sym (ap (λ t. kind_of t (scope_at_node p id)) h) ∙ j))
judged_once p id (Some j) (Some k) e h = sym e ∙ h

-- nodes of one type and one scope are judged alike
pub judged_as : (p : Declarations) (x y : ℕ) (o : Option Kind) → type_at_node p x ≡ type_at_node p y →
    scope_at_node p x ≡ scope_at_node p y → Judged p x o → Judged p y o
unfolding Judged
judged_as p x y None t s j = sym t ∙ j
judged_as p x y (Some k) t s j = sym (ap (λ t. kind_of t (scope_at_node p x)) t ∙ ap (kind_of (type_at_node p y)) s) ∙ j

-- ---- types that aren't `void`

abbrev NoVoid : Option Ty → Type 0
NoVoid o = o ≡ Some Void → ⊥

int_no_void : NoVoid (Some Int)
int_no_void e = (let f : Int ≡ Void = some_inj Int Void e in cc (f))

boolean_no_void : NoVoid (Some Boolean)
boolean_no_void e = (let f : Boolean ≡ Void = some_inj Boolean Void e in cc (f))

none_no_void : NoVoid None
none_no_void e = cc (e)

class_no_void : (c : ℕ) → NoVoid (Some (ClassTy c))
class_no_void c e = (let f : ClassTy c ≡ Void = some_inj (ClassTy c) Void e in cc (f))

if_no_void : (t : Bool) (a b : Option Ty) → NoVoid a → NoVoid b → NoVoid (if t then a else b)
if_no_void true a b h k e = h e
if_no_void false a b h k e = k e

binary_no_void : (rows : List ClassRow) (operator : ℕ) (a b : Ty) → NoVoid (binary_type rows operator a b)
unfolding binary_type
binary_no_void rows operator a b e =
    if_no_void _ _ _ (if_no_void (is_boolean a && is_boolean b) (Some Boolean) None boolean_no_void none_no_void)
    (if_no_void _ _ _ (if_no_void (is_int a && is_int b) (Some Boolean) None boolean_no_void none_no_void)
    (if_no_void _ _ _ (if_no_void (are_comparable rows a b) (Some Boolean) None boolean_no_void none_no_void)
    (if_no_void (is_int a && is_int b) (Some Int) None int_no_void none_no_void)))
    e

unary_no_void : (operator : ℕ) (a : Ty) → NoVoid (unary_type operator a)
unfolding unary_type
unary_no_void operator a e =
    if_no_void _ _ _ (if_no_void (is_boolean a) (Some Boolean) None boolean_no_void none_no_void)
    (if_no_void (is_int a) (Some Int) None int_no_void none_no_void) e

class_named_no_void : (o : Option ℕ) → NoVoid (option_map (λ class. ClassTy class) o)
class_named_no_void None = none_no_void
class_named_no_void (Some c) = class_no_void c

element_no_void : (a : Ty) → NoVoid (element_type a)
unfolding element_type
element_no_void IntArray = int_no_void
element_no_void BoolArray = boolean_no_void
element_no_void (ClassArray c) = class_no_void c
element_no_void _ = none_no_void

array_no_void : (a : Ty) → NoVoid (array_of a)
unfolding array_of
array_no_void Int e = (let f : IntArray ≡ Void = some_inj IntArray Void e in cc (f))
array_no_void Boolean e = (let f : BoolArray ≡ Void = some_inj BoolArray Void e in cc (f))
array_no_void (ClassTy c) e = (let f : ClassArray c ≡ Void = some_inj (ClassArray c) Void e in cc (f))
array_no_void _ e = none_no_void e

void_holds_none : holds_values Void ≡ true → ⊥
unfolding holds_values
void_holds_none e = true≢false (sym e)

-- an expression that always has a value, by its kind
unfoldable pub gives_value : Node → Bool
gives_value (Number position value is_negative) = true
gives_value (True position) = true
gives_value (False position) = true
gives_value (Null position) = true
gives_value (ThisNode position) = true
gives_value (SimpleName position name) = true
gives_value (Binary position operator left right) = true
gives_value (Unary position operator operand) = true
gives_value (Cast position name_position name operand) = true
gives_value (FieldAccess position name object) = true
gives_value (Element position array index) = true
gives_value (New position name_position name arguments) = true
gives_value (NewArray position element length) = true
gives_value _ = false

module _ (forest : Forest) (accepted : IsAccepted forest) (whole : IsForest forest) (sorted : IsWellSorted forest.nodes)
  where
    abbrev p : Declarations
    p = declarations_of forest

    abbrev types : Types
    types = type_at_node p

    field_no_void : (class : ℕ) (name : List ℕ) (f : FoundField) → field_named p.classes class name ≡ Some f →
        NoVoid (declared_type_of p f.field)
    field_no_void class name f e h =
        void_holds_none
        (field_holds forest sorted f.field.node f.field Void
        (field_found forest accepted whole sorted class name f e).is_there h)

    meaning_no_void : (id : ℕ) (name : List ℕ) → NoVoid (type_of_meaning p (meaning p id name))
    unfolding meaning class_meaning type_of_meaning
    meaning_no_void id name e =
        go (variable_named p id name) refl
        (option_and_then (λ class. field_named p.classes class name) (context p id).class) refl (context p id).before_dot
        (class_number p.names name) e
      where
        last : Bool → Option ℕ → Meaning
        last t o = if t then (elim o as (λ _. Meaning) [ None ↦ nothing | Some class ↦ a_class class ]) else nothing

        of : Option ℕ → Option FoundField → Bool → Option ℕ → Meaning
        of v f t o =
            elim v as (λ _. Meaning)
            [ Some v ↦ a_variable v | None ↦ elim f as (λ _. Meaning) [ Some f ↦ a_field f | None ↦ last t o ] ]

        go : (v : Option ℕ) → variable_named p id name ≡ v → (f : Option FoundField) →
            option_and_then (λ class. field_named p.classes class name) (context p id).class ≡ f →
            (t : Bool) (o : Option ℕ) → type_of_meaning p (of v f t o) ≡ Some Void → ⊥
        go (Some v) a f b t o e =
            let d = variable_meant forest accepted whole sorted id v name a in
            void_holds_none
            (variable_holds forest sorted v d.0 Void d.1 (sym (ap (option_and_then (declared_type_of p)) d.1) ∙ e))
        go None a (Some f) b t o e =
            (let q = of_class (context p id).class (λ class. field_named p.classes class name) f b in
            field_no_void q.0 name f q.2 e)
        go None a None b true (Some class) e = none_no_void e
        go None a None b true None e = none_no_void e
        go None a None b false o e = none_no_void e

    access_no_void : (r : Receiver) (name : List ℕ) → NoVoid (access_type p r name)
    unfolding access_type
    access_no_void r name = if_no_void (is_length_of_array r name) (Some Int) _ int_no_void found
      where
        found : option_and_then (λ (f : FoundField). declared_type_of p f.field) (accessed_field p r name) ≡ Some Void → ⊥
        found e =
            let f = of_option (accessed_field p r name) (λ (f : FoundField). declared_type_of p f.field) Void e in
            let q = of_class (class_of_receiver r) (λ class. field_named p.classes class name) f.0 f.1 in
            field_no_void q.0 name f.0 q.2 f.2

    value_no_void : (id : ℕ) (node : Node) → gives_value node ≡ true → NoVoid (type_of p types id node)
    unfolding type_of gives_value
    value_no_void id (Number position value is_negative) k e = int_no_void e
    value_no_void id (True position) k e = boolean_no_void e
    value_no_void id (False position) k e = boolean_no_void e
    value_no_void id (Null position) k e = (let f : NullTy ≡ Void = some_inj NullTy Void e in cc (f))
    value_no_void id (ThisNode position) k e = class_named_no_void (context p id).class e
    value_no_void id (SimpleName position name) k e = meaning_no_void id name e
    value_no_void id (Binary position operator left operand) k e =
        let a = of_option (types left) (λ a. option_and_then (binary_type p.classes operator a) (types operand)) Void e in
        let b = of_option (types operand) (binary_type p.classes operator a.0) Void a.2 in
        binary_no_void p.classes operator a.0 b.0 b.2
    value_no_void id (Unary position operator operand) k e =
        (let a = of_option (types operand) (unary_type operator) Void e in unary_no_void operator a.0 a.2)
    value_no_void id (Cast position name_position name operand) k e =
        (let a = of_option (types operand) (λ t. option_map (λ class. ClassTy class) (class_number p.names name)) Void e
        in class_named_no_void (class_number p.names name) a.2)
    value_no_void id (FieldAccess position name object) k e =
        (let a = of_option (receiver p types object) (λ r. access_type p r name) Void e in access_no_void a.0 name a.2)
    value_no_void id (Element position array index) k e =
        let a = of_option (types array) (λ a. option_and_then (λ i. element_type a) (types index)) Void e in
        let b = of_option (types index) (λ i. element_type a.0) Void a.2 in element_no_void a.0 b.2
    value_no_void id (New position name_position name arguments) k e =
        if_no_void _ None (option_and_then (λ ts. option_map (λ class. ClassTy class) (class_number p.names name))
        (all_types types arguments)) none_no_void
        (λ e.
        (let a = of_option (all_types types arguments)
        (λ ts. option_map (λ class. ClassTy class) (class_number p.names name)) Void e in
        class_named_no_void (class_number p.names name) a.2)) e
    value_no_void id (NewArray position element size) k e =
        let a = of_option (types size) (λ n. option_and_then array_of (written_type p element)) Void e in
        let b = of_option (written_type p element) array_of Void a.2 in array_no_void b.0 b.2
    value_no_void id _ k e = absurd (true≢false (sym k))

    -- such an expression gives a value
    pub valued : (id : ℕ) (node : Node) (o : Option Kind) → slice_get forest.nodes id ≡ Some node →
        gives_value node ≡ true → Judged p id o → (k : Kind) × (o ≡ Some k) × Judged p id (Some k)
    unfolding Judged
    valued id node None there k j =
        absurd (value_no_void id node k (sym (type_is forest accepted whole sorted id node there) ∙ j))
    valued id node (Some k) there g j = (k, refl, j)
