-- T1 to T14: what breaks the rules on types, and the types of the nodes that break none. Each is asked of a node by
-- itself: `types` tells the types of its children.
use Rattle.std.specs.Prelude.{ℕ, suc, nat_lt, Bool, true, false, not, ◌&&◌, ◌||◌, ◌==◌, List, [], ◌∷◌, ◌++◌, length, slice_get, Option, Some, None, if◌then◌else◌, is_some, option_map}
use Rattle.std.specs.List.{list_any}
use Rattle.scj_base.specs.declared.findings.Found.{Found}
use Rattle.scj_base.specs.declared.findings.Rule.TheVariants.{T1, T2, T3, T4, T5, T6, T7, T8, T9, T10, T11, T12, T13, T14}
use Rattle.scj_builtins.specs.Framework.{object, safelet}
use Rattle.scj_tree.specs.declared.nodes.Node.{Node}
use Rattle.scj_tree.specs.declared.nodes.Node.TheVariants.{Class, ClassType, Field, Method, Parameter, SuperCall, Block, Local, LocalWithValue, Assign, If, While, For, Return, Binary, Unary, Cast, Parenthesized, SimpleName, FieldAccess, Call, Element, New, NewArray, Text, Number, True, False, Null, This}
use Rattle.scj_tree.specs.Recursion.{lookup, bottom_up}
use Rattle.scj_rules.specs.declared.typing.Ty.{Ty}
use Rattle.scj_rules.specs.declared.typing.Ty.TheVariants.{Int, Bool as Boolean, NullTy, Label, Class as ClassTy}
use Rattle.scj_rules.specs.Definitions.{read}
use Rattle.scj_rules.specs.Words.{◌>>=◌, is_among, broken, holds}
use Rattle.scj_rules.specs.Views.{position_at, type_at, DeclaredConstructor, variable_at}
use Rattle.scj_rules.specs.Classes.{ClassRow, FoundMethod, is_user_class, class_number, superclass_in, all_interfaces, framework_row_named, is_empty}
use Rattle.scj_rules.specs.ClassRules.{is_same_type}
use Rattle.scj_rules.specs.Contexts.{Declarations, context, variable_named, has_object}
use Rattle.scj_rules.specs.Types.{type_written, is_int, is_boolean, is_reference, is_array, assigns, element_type, array_of, binary_type, unary_type, meaning, receiver, call_receiver, names_class, is_value, is_no_reference, is_length_of_array, accessed_field, called_method, is_callable, accepts_arguments, all_types, constructor_in, constructor_parameters, kind_is, is_concrete, is_form, has_form, form_in, is_form_part, returns_of}
use Rattle.scj_builtins.specs.declared.kinds.ClassKind.{ClassKind}
use Rattle.scj_rules.specs.declared.typing.FoundField.{FoundField}
use Rattle.scj_rules.specs.declared.typing.Meaning.{Meaning}
use Rattle.scj_rules.specs.declared.typing.Meaning.TheVariants.{Class as a_class, Field as a_field, Nothing as nothing, Variable as a_variable}
use Rattle.scj_rules.specs.declared.typing.Receiver.{Receiver}
use Rattle.scj_rules.specs.declared.views.Declared.{Declared}
use Rattle.scj_rules.specs.declared.views.WrittenType.{WrittenType}
use Rattle.scj_rules.specs.declared.views.WrittenType.TheVariants.{Long as long_type, Void as void_type}

abbrev pub Types : Type 0
Types = ℕ → Option Ty

abbrev pub written_type : Declarations → ℕ → Option Ty
written_type p node = type_written p.names (type_at p.nodes node)

-- ---- the type of a node that breaks no rule, where its children have the types that it needs

abbrev pub declared_type_of : Declarations → Declared → Option Ty
declared_type_of p d = type_written p.names d.declared_type

unfoldable pub type_of_meaning : Declarations → Meaning → Option Ty
type_of_meaning p (a_variable v) = variable_at p.nodes v >>= declared_type_of p
type_of_meaning p (a_field f) = declared_type_of p f.field
type_of_meaning p (a_class class) = None
type_of_meaning p nothing = None

-- the type of a field or of an array's length
unfoldable pub access_type : Declarations → Receiver → List ℕ → Option Ty
access_type p r name =
    if is_length_of_array r name then Some Int
    else accessed_field p r name >>= λ (f : FoundField). declared_type_of p f.field

-- the type of a call: the method's result
unfoldable pub call_type : Declarations → Receiver → List ℕ → Option Ty
call_type p r name = called_method p r name >>= λ (f : FoundMethod). declared_type_of p f.method.declared

-- the type of the objects of a named class
abbrev pub class_type_named : Declarations → List ℕ → Option Ty
class_type_named p name = option_map (λ class. ClassTy class) (class_number p.names name)

unfoldable pub type_of : Declarations → Types → ℕ → Node → Option Ty
type_of p types id (Number position value is_negative) = Some Int
type_of p types id (True position) = Some Boolean
type_of p types id (False position) = Some Boolean
type_of p types id (Null position) = Some NullTy
type_of p types id (Text position text) = Some Label
type_of p types id (This position) = option_map (λ class. ClassTy class) (context p id).class
type_of p types id (SimpleName position name) = type_of_meaning p (meaning p id name)
type_of p types id (Parenthesized position inner) = types inner
type_of p types id (Binary position operator left right) =
    types left >>= λ a. types right >>= binary_type p.classes operator a
type_of p types id (Unary position operator operand) = types operand >>= unary_type operator
type_of p types id (Cast position name_position name operand) = types operand >>= λ t. class_type_named p name
type_of p types id (FieldAccess position name object) = receiver p types object >>= λ r. access_type p r name
type_of p types id (Call position name object arguments) =
    call_receiver p types id object >>= λ r. all_types types arguments >>= λ ts. call_type p r name
type_of p types id (Element position array index) = types array >>= λ a. types index >>= λ i. element_type a
type_of p types id (New position name_position name arguments) =
    if is_form_part p id then None else all_types types arguments >>= λ ts. class_type_named p name
type_of p types id (NewArray position element length) = types length >>= λ n. written_type p element >>= array_of
type_of p types id _ = None

-- ---- T1, unknown variable: a name that stands for nothing (JLS 6.5.6.1)
unfoldable pub denotes_no_declaration : Meaning → Bool
denotes_no_declaration nothing = true
denotes_no_declaration _ = false

unfoldable pub t1 : Declarations → Types → ℕ → Node → List Found
t1 p types id (SimpleName position name) = broken (denotes_no_declaration (meaning p id name)) T1 position
t1 p types id _ = []

-- T2, name twice: a local or parameter of the name is known here (JLS 6.4)
abbrev pub is_declared_already : Declarations → ℕ → List ℕ → Bool
is_declared_already p id name = is_some (variable_named p id name)

unfoldable pub t2 : Declarations → Types → ℕ → Node → List Found
t2 p types id (Parameter position name flags declared_type) = broken (is_declared_already p id name) T2 position
t2 p types id (Local position name flags declared_type) = broken (is_declared_already p id name) T2 position
t2 p types id (LocalWithValue position name_position name flags declared_type value) =
    broken (is_declared_already p id name) T2 name_position
t2 p types id _ = []

-- T3, operand: an operand, an index, an array's length or a reference has another type than is asked (JLS 15.10 to
-- 15.24)
abbrev pub misfits_operands : Declarations → Types → ℕ → ℕ → ℕ → Bool
misfits_operands p types operator left right =
    holds (types left) (λ a. holds (types right) (λ b. not (is_some (binary_type p.classes operator a b))))

abbrev pub misfits_operand : Types → ℕ → ℕ → Bool
misfits_operand types operator operand = holds (types operand) (λ a. not (is_some (unary_type operator a)))

-- what stands before `[` is no array, or what stands behind it no int
abbrev pub misfits_index : Types → ℕ → ℕ → Bool
misfits_index types array index = holds (types array) (λ a. holds (types index) (λ i. not (is_array a && is_int i)))

abbrev pub misfits_length : Types → ℕ → Bool
misfits_length types length = holds (types length) (λ n. not (is_int n))

-- of a call: the test holds of its receiver, and its arguments have types
abbrev pub typed_call : Declarations → Types → ℕ → Option ℕ → List ℕ → (Receiver → Bool) → Bool
typed_call p types id object arguments test =
    holds (call_receiver p types id object) (λ r. holds (all_types types arguments) (λ ts. test r))

unfoldable pub t3 : Declarations → Types → ℕ → Node → List Found
t3 p types id (Binary position operator left right) = broken (misfits_operands p types operator left right) T3 position
t3 p types id (Unary position operator operand) = broken (misfits_operand types operator operand) T3 position
t3 p types id (Element position array index) = broken (misfits_index types array index) T3 position
t3 p types id (NewArray position element length) = broken (misfits_length types length) T3 position
t3 p types id (FieldAccess position name object) = broken (holds (receiver p types object) is_no_reference) T3 position
t3 p types id (Call position name object arguments) =
    broken (typed_call p types id object arguments is_no_reference) T3 position
t3 p types id _ = []

-- T4, no field: no such field of the type, or a static one through a value (JLS 15.11)
unfoldable pub lacks_field : Declarations → Receiver → List ℕ → Bool
lacks_field p r name =
    not (is_no_reference r) && (not (is_length_of_array r name)
    && elim (accessed_field p r name) [ None ↦ true | Some f ↦ is_value r && f.field.modifiers.is_static ])

unfoldable pub t4 : Declarations → Types → ℕ → Node → List Found
t4 p types id (FieldAccess position name object) =
    broken (holds (receiver p types object) (λ r. lacks_field p r name)) T4 position
t4 p types id _ = []

-- T5, no method: no such callable method, a size method, or a static one through a value (JLS 15.12)
abbrev pub cannot_be_called : Declarations → Receiver → FoundMethod → Bool
cannot_be_called p r f = not (is_callable p f) || (is_value r && f.method.declared.modifiers.is_static)

unfoldable pub lacks_method : Declarations → Receiver → List ℕ → Bool
lacks_method p r name =
    not (is_no_reference r)
    && elim (called_method p r name) [ None ↦ true | Some f ↦ cannot_be_called p r f ]

unfoldable pub t5 : Declarations → Types → ℕ → Node → List Found
t5 p types id (Call position name object arguments) =
    broken (typed_call p types id object arguments (λ r. lacks_method p r name)) T5 position
t5 p types id _ = []

-- T6, arguments: their number or types don't fit (JLS 15.9.3, 15.12.2, 8.8.7)
abbrev pub misfit : Declarations → Types → List Declared → List ℕ → Bool
misfit p types parameters arguments = holds (all_types types arguments) (λ ts. not (accepts_arguments p parameters ts))

-- of a call, where there is such a method
unfoldable pub misfits_method : Declarations → Types → Receiver → List ℕ → List ℕ → Bool
misfits_method p types r name arguments =
    not (lacks_method p r name)
    && holds (called_method p r name) (λ (f : FoundMethod). misfit p types f.method.parameters arguments)

-- of a part of a form: its arguments that are no parts themselves have types, and one of these isn't int
abbrev pub has_untyped_argument : Declarations → Types → List ℕ → Bool
has_untyped_argument p types arguments = list_any (λ a. not (is_form_part p a) && not (is_some (types a))) arguments

abbrev pub has_other_than_int : Declarations → Types → List ℕ → Bool
has_other_than_int p types arguments =
    list_any (λ a. not (is_form_part p a) && holds (types a) (λ t. not (is_int t))) arguments

abbrev pub misfits_form_part : Declarations → Types → List ℕ → Bool
misfits_form_part p types arguments =
    not (has_untyped_argument p types arguments) && has_other_than_int p types arguments

-- of an ordinary `new`: of a user class or of Object, whose constructor takes other arguments
abbrev pub misfits_constructor : Declarations → Types → List ℕ → ℕ → Bool
misfits_constructor p types arguments class =
    (is_user_class class || (class == object)) && misfit p types (constructor_parameters p.classes class) arguments

unfoldable pub misfits_new : Declarations → Types → ℕ → List ℕ → List ℕ → Bool
misfits_new p types id name arguments =
    if is_form_part p id then misfits_form_part p types arguments
    else holds (class_number p.names name) (misfits_constructor p types arguments)

-- the superclass of the class in which a node stands
abbrev pub superclass_at : Declarations → ℕ → Option ℕ
superclass_at p id = (context p id).class >>= superclass_in p.classes

-- a constructor calls its superclass's without arguments, where no super call is written in it (JLS 8.8.7)
abbrev pub calls_unwritten : Declarations → ℕ → Bool
calls_unwritten p class =
    not (holds (constructor_in p.classes class) (λ (c : DeclaredConstructor). is_some c.super_call))

abbrev pub is_concrete_safelet : Declarations → ℕ → Bool
is_concrete_safelet p class = kind_is is_concrete p class && is_among safelet (all_interfaces p.classes class)

-- of a class, whose constructor is called without arguments though it takes some: by the unwritten super call of the
-- class, or by the machine, which constructs the safelet
abbrev pub takes_arguments : Declarations → ℕ → Bool
takes_arguments p class = not (is_empty (constructor_parameters p.classes class))

unfoldable pub misfits_class : Declarations → ℕ → Bool
misfits_class p class =
    (calls_unwritten p class && holds (superclass_in p.classes class) (takes_arguments p))
    || (is_concrete_safelet p class && takes_arguments p class)

-- of a super call that is written: no form is due, and the superclass's constructor takes other arguments
abbrev pub misfits_super_call : Declarations → Types → ℕ → List ℕ → Bool
misfits_super_call p types id arguments =
    holds (superclass_at p id)
    (λ superclass. not (has_form superclass) && misfit p types (constructor_parameters p.classes superclass) arguments)

unfoldable pub t6 : Declarations → Types → ℕ → Node → List Found
t6 p types id (Call position name object arguments) =
    broken (holds (call_receiver p types id object) (λ r. misfits_method p types r name arguments)) T6 position
t6 p types id (New position name_position name arguments) = broken (misfits_new p types id name arguments) T6 position
t6 p types id (SuperCall position arguments) = broken (misfits_super_call p types id arguments) T6 position
t6 p types id (Class position name flags header members) =
    broken (holds (class_number p.names name) (misfits_class p)) T6 position
t6 p types id _ = []

-- T7, assignment: the value isn't assignable, or the target is an array's length (JLS 5.2, 15.26)
abbrev pub misfits_value : Declarations → Option Ty → Option Ty → Bool
misfits_value p target value = holds target (λ t. holds value (λ v. not (assigns p.classes v t)))

unfoldable pub is_length_target : Declarations → Types → Node → Option Bool
is_length_target p types (FieldAccess position name object) =
    Some (holds (receiver p types object) (λ r. is_length_of_array r name))
is_length_target p types _ = None

abbrev pub misfits_assignment : Declarations → Types → ℕ → ℕ → Bool
misfits_assignment p types target value =
    is_some (types target) && (is_some (types value) && (misfits_value p (types target) (types value)
    || holds (read p.nodes (is_length_target p types) target) (λ b. b)))

abbrev pub misfits_initial_value : Declarations → Types → ℕ → ℕ → Bool
misfits_initial_value p types declared_type value = misfits_value p (written_type p declared_type) (types value)

unfoldable pub t7 : Declarations → Types → ℕ → Node → List Found
t7 p types id (Assign position target value) = broken (misfits_assignment p types target value) T7 position
t7 p types id (LocalWithValue position name_position name flags declared_type value) =
    broken (misfits_initial_value p types declared_type value) T7 position
t7 p types id (Field position name flags declared_type (Some equals) (Some value)) =
    broken (misfits_initial_value p types declared_type value) T7 equals
t7 p types id _ = []

-- T8, condition: not boolean (JLS 14.9, 14.12, 14.14)
abbrev pub misfits_condition : Declarations → Types → ℕ → List Found
misfits_condition p types condition =
    broken (holds (types condition) (λ t. not (is_boolean t))) T8 (position_at p.nodes condition)

unfoldable pub t8 : Declarations → Types → ℕ → Node → List Found
t8 p types id (If position condition then_part else_part) = misfits_condition p types condition
t8 p types id (While position condition body) = misfits_condition p types condition
t8 p types id (For position first condition step body) = misfits_condition p types condition
t8 p types id _ = []

-- T9, return: a value that isn't assignable, a missing or a forbidden one (JLS 14.17). An int fits a result `long`
unfoldable pub result_of_member : Node → Option ℕ
result_of_member (Method position name flags result_type parameters body) = Some result_type
result_of_member _ = None

-- the result that is written where the node stands, `void` in a constructor
unfoldable pub result_at : Declarations → ℕ → WrittenType
result_at p id =
    elim ((context p id).member >>= read p.nodes result_of_member) [
      | None ↦ void_type
      | Some result ↦ type_at p.nodes result
    ]

abbrev pub fits_result : Declarations → WrittenType → Ty → Bool
fits_result p result t =
    if is_same_type result long_type then is_int t
    else (not (is_same_type result void_type) && holds (type_written p.names result) (assigns p.classes t))

abbrev pub lacks_value : Declarations → ℕ → Bool
lacks_value p id = not (is_same_type (result_at p id) void_type)

abbrev pub misfits_result : Declarations → Types → ℕ → ℕ → Bool
misfits_result p types id value = holds (types value) (λ t. not (fits_result p (result_at p id) t))

unfoldable pub t9 : Declarations → Types → ℕ → Node → List Found
t9 p types id (Return position None) = broken (lacks_value p id) T9 position
t9 p types id (Return position (Some value)) = broken (misfits_result p types id value) T9 position
t9 p types id _ = []

-- T10, end without return: a body with a result doesn't always return (JLS 8.4.7)
abbrev pub always_returns : Declarations → ℕ → Bool
always_returns p body =
    lookup false (bottom_up false (λ id returns. holds (slice_get p.nodes id) (returns_of p.nodes returns)) (suc body))
    body

abbrev pub ends_without_return : Declarations → ℕ → ℕ → Bool
ends_without_return p result_type body =
    not (is_same_type (type_at p.nodes result_type) void_type) && not (always_returns p body)

unfoldable pub t10 : Declarations → Types → ℕ → Node → List Found
t10 p types id (Method position name flags result_type parameters (Some body)) =
    broken (ends_without_return p result_type body) T10 position
t10 p types id _ = []

-- T11, abstract new: `new` of an abstract, interface or static class (JLS 15.9.1)
abbrev pub is_never_made : ClassKind → Bool
is_never_made kind = not (is_concrete kind || is_form kind)

abbrev pub makes_no_object : Declarations → Types → List ℕ → List ℕ → Bool
makes_no_object p types name arguments =
    holds (all_types types arguments) (λ ts. holds (class_number p.names name) (kind_is is_never_made p))

unfoldable pub t11 : Declarations → Types → ℕ → Node → List Found
t11 p types id (New position name_position name arguments) = broken (makes_no_object p types name arguments) T11 position
t11 p types id _ = []

-- T12, cast: the types aren't related (JLS 15.16)
abbrev pub are_related : List ClassRow → Ty → Ty → Bool
are_related rows t u = is_reference t && (assigns rows t u || assigns rows u t)

abbrev pub misfits_cast : Declarations → Types → List ℕ → ℕ → Bool
misfits_cast p types name operand =
    holds (types operand)
    (λ t. holds (class_number p.names name) (λ class. not (are_related p.classes t (ClassTy class))))

unfoldable pub t12 : Declarations → Types → ℕ → Node → List Found
t12 p types id (Cast position name_position name operand) = broken (misfits_cast p types name operand) T12 position
t12 p types id _ = []

-- T13, this in static: `this` or an instance member where there is no object (JLS 15.8.3, 8.8.7.1)
unfoldable pub is_instance_field : Meaning → Bool
is_instance_field (a_field f) = not f.field.modifiers.is_static
is_instance_field _ = false

-- no object is at hand: a class is named, or no object is written and there is none here
abbrev pub lacks_object : Declarations → ℕ → Receiver → Bool
lacks_object p id r = names_class r || (not (is_value r) && not (has_object p id))

-- an instance field is accessed, and an instance method is called, where there is no object
abbrev pub lacks_object_of_field : Declarations → ℕ → List ℕ → Receiver → Bool
lacks_object_of_field p id name r =
    lacks_object p id r && holds (accessed_field p r name) (λ (f : FoundField). not f.field.modifiers.is_static)

abbrev pub lacks_object_of_method : Declarations → ℕ → List ℕ → Receiver → Bool
lacks_object_of_method p id name r =
    lacks_object p id r && (not (lacks_method p r name)
    && holds (called_method p r name) (λ (f : FoundMethod). not f.method.declared.modifiers.is_static))

unfoldable pub t13 : Declarations → Types → ℕ → Node → List Found
t13 p types id (This position) = broken (not (has_object p id)) T13 position
t13 p types id (SimpleName position name) =
    broken (is_instance_field (meaning p id name) && not (has_object p id)) T13 position
t13 p types id (FieldAccess position name object) =
    broken (holds (receiver p types object) (lacks_object_of_field p id name)) T13 position
t13 p types id (Call position name object arguments) =
    broken (typed_call p types id object arguments (lacks_object_of_method p id name)) T13 position
t13 p types id _ = []

-- T14, misplaced framework form: a form class outside a form, a missing form, a size method of another body
unfoldable pub element_class : Declarations → Node → Option ℕ
element_class p (ClassType position name argument is_array) = class_number p.names name
element_class p _ = None

-- `{ return Number; }` (JSR 302 lets a size be any expression; here it is a constant)
unfoldable pub is_number : Node → Option Bool
is_number (Number position value is_negative) = Some (not is_negative && nat_lt value 2147483648)
is_number _ = None

unfoldable pub returns_number : List Node → Node → Option Bool
returns_number nodes (Return position (Some value)) = read nodes is_number value
returns_number nodes _ = None

unfoldable pub is_size_body : List Node → Node → Option Bool
is_size_body nodes (Block position (statement ∷ [])) = read nodes (returns_number nodes) statement
is_size_body nodes _ = None

-- the framework has a size method of the name for the class
abbrev pub has_framework_size : Declarations → ℕ → List ℕ → Bool
has_framework_size p class name =
    holds (framework_row_named p.classes class name)
    (λ (row : FoundMethod). is_same_type row.method.declared.declared_type long_type)

-- a method of result `long` is one of the framework's size methods, without a body or with that one
unfoldable pub misfits_size : Declarations → ℕ → List ℕ → Option ℕ → Bool
misfits_size p id name body =
    not (holds (context p id).class (λ class. has_framework_size p class name))
    || holds body (λ b. not (holds (read p.nodes (is_size_body p.nodes) b) (λ right. right)))

-- `new` of a form class outside of the form that is due there
abbrev pub is_misplaced_form : Declarations → ℕ → List ℕ → Bool
is_misplaced_form p id name = holds (class_number p.names name) (kind_is is_form p) && not (is_form_part p id)

-- a class whose constructor begins with no form, where one is due
abbrev pub lacks_form : Declarations → ℕ → Bool
lacks_form p class = holds (superclass_in p.classes class) has_form && not (is_some (form_in p class))

abbrev pub misfits_long : Declarations → ℕ → List ℕ → ℕ → Option ℕ → Bool
misfits_long p id name result_type body =
    is_same_type (type_at p.nodes result_type) long_type && misfits_size p id name body

-- asked of a form class whatever the arguments or the length are
unfoldable pub t14 : Declarations → Types → ℕ → Node → List Found
t14 p types id (New position name_position name arguments) = broken (is_misplaced_form p id name) T14 position
t14 p types id (NewArray position element length) =
    broken (holds (read p.nodes (element_class p) element) (kind_is is_form p)) T14 position
t14 p types id (Class position name flags header members) =
    broken (holds (class_number p.names name) (lacks_form p)) T14 position
t14 p types id (Method position name flags result_type parameters body) =
    broken (misfits_long p id name result_type body) T14 position
t14 p types id _ = []

-- ---- all of them

unfoldable pub type_breaks : Declarations → Types → ℕ → Node → List Found
type_breaks p types id node =
    t1 p types id node ++ (t2 p types id node ++ (t3 p types id node ++ (t4 p types id node ++ (t5 p types id node
    ++ (t6 p types id node ++ (t7 p types id node ++ (t8 p types id node ++ (t9 p types id node ++ (t10 p types id node
    ++ (t11 p types id node ++ (t12 p types id node ++ (t13 p types id node ++ t14 p types id node))))))))))))

-- a node that breaks one of these rules has no type
unfoldable pub type_of_right : Declarations → Types → ℕ → Node → Option Ty
type_of_right p types id node = if is_empty (type_breaks p types id node) then type_of p types id node else None

unfoldable pub type_of_next : Declarations → ℕ → Types → Option Ty
type_of_next p id types = slice_get p.nodes id >>= type_of_right p types id

-- the type of each node
unfoldable pub types_in : Declarations → List (Option Ty)
types_in p = bottom_up None (type_of_next p) (length p.nodes)
